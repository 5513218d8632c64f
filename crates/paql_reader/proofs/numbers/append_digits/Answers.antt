use Rattle.std.proofs.Common.{◌^◌, arith}
use Rattle.std.proofs.lemmas.Str.Parse.{digit_at}
use Rattle.pq_base.proofs.Numerals.{append_step}
use Rattle.paql_reader.proofs.numbers.append_digits.Goals as goal

pub overflow_sub-digit : goal.overflow_sub-digit
overflow_sub-digit c =
    omega (arith, digit_at c.args.digits.now c.loop-digit.digit-index c.requires.digits (omega arith))

pub loop-digit-preserved : goal.loop-digit-preserved
loop-digit-preserved c =
    let step = append_step c.args.start (10 ^ 30) c.args.digits.now c.loop-digit.digit-index (omega arith) c.requires.digits in
    omega (arith, step)
