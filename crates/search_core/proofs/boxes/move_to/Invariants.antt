use Rattle.search_core.proofs.Moving.{IsMoving}
use Rattle.search_core.proofs.boxes.move_to.Given as goal

abbrev pub invariant-loop-place : goal.invariant-loop-place
invariant-loop-place l = IsMoving l.problem l.path l.region l.place
