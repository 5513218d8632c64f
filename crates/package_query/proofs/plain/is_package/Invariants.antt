use Rattle.std.proofs.Common.{◌^◌, ◌≤◌, ◌↔◌, drop}
use Rattle.package_query.specs.Package.{IsPackage, RisesFrom}
use Rattle.package_query.proofs.plain.is_package.Given as goal

abbrev pub invariant-loop-id : goal.invariant-loop-id
invariant-loop-id l =
    (l.low ≤ 2 ^ 64) × (RisesFrom l.low (drop l.id-index l.pairs) ↔ IsPackage l.pairs)
