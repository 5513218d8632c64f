use Rattle.std.proofs.Common.{get_or, arith}
use Rattle.std.proofs.lemmas.Int.Digits.{digits_more}
use Rattle.pq_base.proofs.Numerals.{digit_from_test}
use Rattle.pq_base.proofs.decimal.split_digits.Goals as goal

pub loop-at-preserved : goal.loop-at-preserved
loop-at-preserved c =
    let byte = get_or c.args.text.now c.loop-at.at 0 in
    digits_more 10 c.args.text.now c.loop-at.at (omega arith) c.loop-at.invariant (digit_from_test byte c.is_ascii_digit.result c.if-not-is_ascii_digit.false c.is_ascii_digit.ensures.value)
