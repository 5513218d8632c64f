use Rattle.std.proofs.Common.{◌≡◌, take}
use Rattle.std.specs.List.{AllByRecursion, flat_map}
use Rattle.package_program.specs.Program.{rows_for, rhs_for, IsSmallSum}
use Rattle.package_program.specs.Translation.{entries_of, conditions_of, condition_sums}
use Rattle.package_program.proofs.translation.rows_of.Given as goal

abbrev pub invariant-loop-place : goal.invariant-loop-place
invariant-loop-place l = record {
  rows : l.rows.rows ≡ flat_map (rows_for l.query.row_bound (entries_of l.candidates)) (take l.place (conditions_of l.query));
  rhs : l.rows.rhs ≡ flat_map rhs_for (take l.place (conditions_of l.query));
  small : AllByRecursion (IsSmallSum l.query.row_bound (entries_of l.candidates)) (take l.place (condition_sums l.query));
}
