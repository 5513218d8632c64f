use Rattle.std.proofs.Common.{◌≡◌, length}
use Rattle.package_program.specs.Columns.{AreColumnsOf}
use Rattle.package_program.specs.Translation.{entries_of}
use Rattle.package_program.proofs.columns.Columns.new.Given as goal

abbrev pub invariant-loop-column : goal.invariant-loop-column
invariant-loop-column l = record {
  count : length l.numbers ≡ l.column;
  kept : AreColumnsOf (entries_of l.candidates) l.numbers;
}
