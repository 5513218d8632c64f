use Rattle.std.proofs.Common.{◌≡◌, ◌+◌, [], ◌∷◌, sym, ◌∙◌, drop, arith}
use Rattle.std.proofs.lemmas.List.{append-nil}
use Rattle.cert_text.specs.Expected.{ranges}
use Rattle.cert_text.proofs.Fits.{last_begun, last_bad, good_at}
use Rattle.cert_text.proofs.lines.fit_last.Goals as goal

pub can_begin-requires-clause-small : goal.can_begin-requires-clause-small
can_begin-requires-clause-small c =
    let rs = ranges c.args.expect c.args.kind in
    (good_at c.args.place rs c.range.result (drop (c.args.place + 1) rs) c.range.ensures.good c.range.ensures.value).1

pub can_begin-requires-clause-some : goal.can_begin-requires-clause-some
can_begin-requires-clause-some c =
    let rs = ranges c.args.expect c.args.kind in
    (good_at c.args.place rs c.range.result (drop (c.args.place + 1) rs) c.range.ensures.good c.range.ensures.value).0

pub returns-then-can_begin : goal.returns-then-can_begin
returns-then-can_begin c =
    let rs = ranges c.args.expect c.args.kind in
    let good = good_at c.args.place rs c.range.result (drop (c.args.place + 1) rs) c.range.ensures.good c.range.ensures.value in
    ([], sym (append-nil c.args.numbers.now.items), last_begun (drop c.args.place rs) (drop (c.args.place + 1) rs) c.range.result c.args.digits.now c.range.ensures.value good (c.can_begin.ensures.0 c.if-can_begin.true) c.in_default.ensures)

pub returns : goal.returns
returns c =
    let rs = ranges c.args.expect c.args.kind in
    ([], sym (append-nil c.args.numbers.now.items), last_bad (drop c.args.place rs) (drop (c.args.place + 1) rs) c.range.result c.args.digits.now c.range.ensures.value c.requires.digits (λ can. let yes = c.can_begin.ensures.1 can in cc (yes, c.if-can_begin.false)))
