use Rattle.std.proofs.Common.{◌^◌, ◌≤◌, ◌↔◌, drop}
use Rattle.package_query.specs.Package.{AscendsFrom}
use Rattle.package_query.proofs.limits.ascends.Given as goal

abbrev pub invariant-loop-entry : goal.invariant-loop-entry
invariant-loop-entry l =
    (l.low ≤ 2 ^ 64) × (AscendsFrom l.low (drop l.entry-index l.rows) ↔ AscendsFrom 0 l.rows)
