use Rattle.std.proofs.Common.{◌^◌, ◌≤◌, ◌↔◌, drop}
use Rattle.std.specs.List.{AllByRecursion}
use Rattle.package_query.specs.Package.{RisesFrom}
use Rattle.package_judge.specs.Packages.{IsPackageOf, IsLimited}
use Rattle.package_judge.proofs.packages.is_package.Given as goal

abbrev pub invariant-loop-id : goal.invariant-loop-id
invariant-loop-id l =
    (l.low ≤ 2 ^ 64)
    × ((RisesFrom l.low (drop l.id-index l.pairs) × AllByRecursion IsLimited (drop l.id-index l.pairs)) ↔ IsPackageOf l.pairs)
