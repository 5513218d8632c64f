use Rattle.std.proofs.Common.{◌≡◌, take}
use Rattle.std.specs.List.{AllByRecursion}
use Rattle.package_judge.specs.Packages.{IsLimited}
use Rattle.package_program.specs.Points.{package_at}
use Rattle.package_program.proofs.points.package_of.Given as goal

abbrev pub invariant-loop-place : goal.invariant-loop-place
invariant-loop-place l = record {
  pairs : l.pairs.items ≡ package_at (take l.place l.linear.ids) (take l.place l.point);
  limited : AllByRecursion IsLimited l.pairs.items;
}
