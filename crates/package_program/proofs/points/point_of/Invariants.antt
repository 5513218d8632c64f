use Rattle.std.proofs.Common.{◌≡◌, ℕ, ◌<◌, ◌≤◌, ◌++◌, length, take}
use Rattle.lin_bound.specs.Sums.{nat_at}
use Rattle.package_query.specs.Package.{RisesFrom}
use Rattle.package_program.specs.Points.{package_at, ArePairsOf}
use Rattle.package_program.proofs.Merging.{AreLater}
use Rattle.package_program.proofs.points.point_of.Given as goal

abbrev pub invariant-loop-place : goal.invariant-loop-place
invariant-loop-place l = record {
  whole : package_at (take l.place l.linear.ids) l.counts ++ l.left ≡ l.«package»;
  each : length l.counts ≡ l.place;
  within : (i : ℕ) → i < l.place → nat_at l.counts i ≤ nat_at l.linear.problem.upper i;
  rises : RisesFrom 0 l.left;
  later : ArePairsOf l.linear l.«package» → AreLater l.linear l.place l.left;
}
