use Rattle.sketch.proofs.Joins.{IsJoinedTo}
use Rattle.sketch.proofs.joining.joined.Given as goal

abbrev pub invariant-loop-place : goal.invariant-loop-place
invariant-loop-place l = IsJoinedTo l.problem l.parts l.counts l.point l.place
