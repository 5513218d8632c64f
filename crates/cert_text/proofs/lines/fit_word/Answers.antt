use Rattle.std.proofs.Common.{◌≡◌, ◌≢◌, ◌++◌, List, ℕ, true, length, take, drop, nat_eq, sym, ◌∙◌}
use Rattle.std.proofs.lemmas.Slice.Eq.{starts_is, slice_eq-Decides}
use Rattle.std.proofs.lemmas.Bool.Decides.{Decides-eqb}
use Rattle.cert_text.proofs.Fits.{alone_begun, alone_bad}
use Rattle.cert_text.proofs.lines.fit_word.Goals as goal

pub returns-then-starts_with : goal.returns-then-starts_with
returns-then-starts_with c =
    let is = starts_is Decides-eqb c.args.word.now c.args.text.now c.starts_with.result c.starts_with.ensures.value in
    let apart : c.args.text.now ≢ c.args.word.now = λ same. (let yes = (slice_eq-Decides Decides-eqb c.args.text.now c.args.word.now c.eq.result c.eq.ensures).1 same in cc (c.if-eq.false, yes)) in
    alone_begun c.args.word.now c.args.text.now (drop (length c.args.text.now) c.args.word.now) (is.0 c.if-starts_with.true) apart

pub returns : goal.returns
returns c =
    let is = starts_is Decides-eqb c.args.word.now c.args.text.now c.starts_with.result c.starts_with.ensures.value in
    alone_bad c.args.word.now c.args.text.now (λ more same. let yes = is.1 more same in cc (yes, c.if-starts_with.false))
