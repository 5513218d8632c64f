use Rattle.std.proofs.Common.{◌≡◌, ◌+◌, ◌<◌, ◌∷◌, [], ◌∙◌, ap, List, length, drop, arith}
use Rattle.std.proofs.lemmas.List.{length-drop}
use Rattle.cert_text.specs.declared.numbers.Range.{Range}
use Rattle.cert_text.specs.Expected.{ranges}
use Rattle.cert_text.proofs.Fits.{last_not, last_is, good_at, drop_last}
use Rattle.cert_text.proofs.lines.last_number.Goals as goal

pub returns-then-place-count : goal.returns-then-place-count
returns-then-place-count c =
    let rs = ranges c.args.expect c.args.kind in
    last_not (drop c.args.place rs) c.args.digits.now c.requires.digits (omega (arith, length-drop c.args.place rs, c.if-place-count.true, c.count.ensures))

pub number-requires-clause-small : goal.number-requires-clause-small
number-requires-clause-small c =
    let rs = ranges c.args.expect c.args.kind in
    (good_at c.args.place rs c.range-range.result (drop (c.args.place + 1) rs) c.range-range.ensures.good c.range-range.ensures.value).1

pub returns : goal.returns
returns c =
    let rs = ranges c.args.expect c.args.kind in
    last_is (drop c.args.place rs) c.range-range.result c.args.digits.now c.number.result
    (c.range-range.ensures.value ∙ ap (λ (some : List Range). c.range-range.result ∷ some) (drop_last rs c.args.place (omega (arith, c.if-place-count.false, c.count.ensures))))
    c.number.ensures
