use Rattle.std.proofs.Common.{◌≡◌, take, map}
use Rattle.lin_bound.specs.Sums.{nat_at}
use Rattle.sketch.proofs.refining.uppers_at.Given as goal

abbrev pub invariant-loop-member : goal.invariant-loop-member
invariant-loop-member l = l.uppers ≡ map (nat_at l.problem.upper) (take l.member-index l.part)
