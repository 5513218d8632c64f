use Rattle.std.proofs.Common.{◌≡◌, ◌++◌, List, ℕ, [], true, length, take, drop, nat_eq, sym, ◌∙◌, subst}
use Rattle.std.proofs.lemmas.Slice.Eq.{starts_is}
use Rattle.std.proofs.lemmas.Bool.Decides.{Decides-eqb}
use Rattle.cert_text.specs.declared.numbers.Fit.TheVariants.{Begun, Bad}
use Rattle.cert_text.specs.Numbers.{FitsAs}
use Rattle.cert_text.specs.Expected.{ranges}
use Rattle.cert_text.proofs.Fits.{word_begun, word_bad}
use Rattle.cert_text.proofs.Goods.{ranges_good}
use Rattle.cert_text.proofs.lines.fit_before.Goals as goal

pub returns-then-starts_with : goal.returns-then-starts_with
returns-then-starts_with c =
    let rs = ranges c.args.expect c.args.kind in
    let is = starts_is Decides-eqb c.args.words.now c.args.text.now c.starts_with.result c.starts_with.ensures.value in
    subst (λ (word : List ℕ). FitsAs word rs c.args.text.now [] Begun) c.requires.word
    (word_begun c.args.words.now c.args.text.now (drop (length c.args.text.now) c.args.words.now) rs [] (ranges_good c.args.expect c.args.kind c.requires.sound) (is.0 c.if-starts_with.true) c.requires.apart)

pub returns : goal.returns
returns c =
    let rs = ranges c.args.expect c.args.kind in
    let is = starts_is Decides-eqb c.args.words.now c.args.text.now c.starts_with.result c.starts_with.ensures.value in
    subst (λ (word : List ℕ). FitsAs word rs c.args.text.now [] Bad) c.requires.word
    (word_bad c.args.words.now c.args.text.now rs [] c.requires.apart (λ more same. let yes = is.1 more same in cc (yes, c.if-starts_with.false)))
