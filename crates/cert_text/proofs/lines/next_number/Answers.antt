use Rattle.std.proofs.Common.{◌≡◌, ◌≢◌, ◌+◌, ◌<◌, ◌^◌, ◌∷◌, [], List, length, drop, get_or, sym, ◌∙◌, subst, arith}
use Rattle.std.proofs.lemmas.List.{length-drop}
use Rattle.cert_text.specs.declared.numbers.Range.{Range}
use Rattle.cert_text.specs.Numbers.{IsNumber}
use Rattle.cert_text.specs.Expected.{ranges}
use Rattle.cert_text.proofs.Fits.{next_end, next_no_blank, next_is, good_at, drop_last}
use Rattle.cert_text.proofs.lines.next_number.Goals as goal

pub returns-then-place-count : goal.returns-then-place-count
returns-then-place-count c = λ range is.
    let rs = ranges c.args.expect c.args.kind in
    let rest = drop (c.args.place + 1) rs in
    let none : rest ≡ [] = drop_last rs c.args.place (omega (arith, c.if-place-count.true, c.count.ensures)) in
    next_end range rest c.args.digits.now c.args.more.now (good_at c.args.place rs range rest c.range-range.ensures.good is).1 none c.requires.digits c.requires.all c.requires.some

pub returns-then-more-ne32 : goal.returns-then-more-ne32
returns-then-more-ne32 c = λ range is.
    let rs = ranges c.args.expect c.args.kind in
    let rest = drop (c.args.place + 1) rs in
    next_no_blank range rest c.args.digits.now c.args.more.now (good_at c.args.place rs range rest c.range-range.ensures.good is).1 c.requires.digits c.requires.all c.requires.some c.if-more-ne32.true

pub number-requires-clause-small : goal.number-requires-clause-small
number-requires-clause-small c =
    let rs = ranges c.args.expect c.args.kind in
    (good_at c.args.place rs c.range-range.result (drop (c.args.place + 1) rs) c.range-range.ensures.good c.range-range.ensures.value).1

pub returns : goal.returns
returns c = λ range is.
    let rs = ranges c.args.expect c.args.kind in
    let rest = drop (c.args.place + 1) rs in
    let same : c.range-range.result ≡ range = cc (c.range-range.ensures.value, is) in
    let many : 0 < length rest = omega (arith, length-drop (c.args.place + 1) rs, c.requires.within, c.if-place-count.false, c.count.ensures) in
    next_is range rest c.args.digits.now c.args.more.now c.number.result (good_at c.args.place rs range rest c.range-range.ensures.good is).1 c.requires.digits c.requires.all c.requires.some c.if-more-ne32.false many
    (subst (λ (some : Range). IsNumber some c.args.digits.now c.number.result) same c.number.ensures)
