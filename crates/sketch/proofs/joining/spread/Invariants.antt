use Rattle.sketch.proofs.Joins.{IsSpreadTo}
use Rattle.sketch.proofs.joining.spread.Given as goal

abbrev pub invariant-loop-place : goal.invariant-loop-place
invariant-loop-place l = IsSpreadTo l.part l.counts l.initial.point l.point l.place
