use Rattle.std.proofs.Common.{◌≡◌, ◌+◌, ◌*◌, ◌^◌, min}
use Rattle.pq_base.proofs.decimal.times_tens.Given as goal

abbrev pub invariant-loop-i : goal.invariant-loop-i
invariant-loop-i l = l.number ≡ min (l.start * 10 ^ l._i) (10 ^ 12 + 1)
