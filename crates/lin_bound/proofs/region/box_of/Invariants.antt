use Rattle.lin_bound.proofs.Cuts.{IsCutting}
use Rattle.lin_bound.proofs.region.box_of.Given as goal

abbrev pub invariant-loop-place : goal.invariant-loop-place
invariant-loop-place l = IsCutting l.problem l.path l.region l.place
