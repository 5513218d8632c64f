use Rattle.lin_bound.proofs.Cuts.{IsTrying}
use Rattle.lin_bound.proofs.region.try_box_of.Given as goal

abbrev pub invariant-loop-place : goal.invariant-loop-place
invariant-loop-place l = IsTrying l.problem l.path l.region l.place
