use Rattle.std.proofs.Common.{◌≡◌, drop}
use Rattle.package_query.specs.Package.{row_at}
use Rattle.package_query.proofs.sums.row_at.Given as goal

abbrev pub invariant-loop-entry : goal.invariant-loop-entry
invariant-loop-entry l = row_at l.id (drop l.entry-index l.rows) ≡ row_at l.id l.rows
