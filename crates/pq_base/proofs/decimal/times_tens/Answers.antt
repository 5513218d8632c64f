use Rattle.std.proofs.Common.{◌+◌, ◌^◌, arith}
use Rattle.pq_base.proofs.Numerals.{tens_step}
use Rattle.pq_base.proofs.decimal.times_tens.Goals as goal

pub loop-i-preserved : goal.loop-i-preserved
loop-i-preserved c = omega (arith, tens_step c.args.start c.loop-i._i (10 ^ 12 + 1))
