use Rattle.round_proposer.proofs.Filling.{IsFilled}
use Rattle.round_proposer.proofs.rounder.point_of.Given as goal

abbrev pub invariant-loop-variable : goal.invariant-loop-variable
invariant-loop-variable l = IsFilled l.region l.counts.items l.variable
