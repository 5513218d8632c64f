use Rattle.std.proofs.Common.{◌≡◌, drop}
use Rattle.snapshots.specs.States.{row_with}
use Rattle.snapshots.proofs.snapshot.row_at.Given as goal

abbrev pub invariant-loop-row : goal.invariant-loop-row
invariant-loop-row l = row_with l.id l.rows ≡ row_with l.id (drop l.row-index l.rows)
