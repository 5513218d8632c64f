use Rattle.std.proofs.Common.{◌≡◌, List}
use Rattle.table_schema.specs.Rows.{row_gives}
use Rattle.table_schema.specs.declared.cells.Cell.{Cell}
use Rattle.table_schema.proofs.RowLemmas.{given_from}
use Rattle.table_schema.proofs.rows.row_fault.Given as goal

abbrev pub invariant-loop-place : goal.invariant-loop-place
invariant-loop-place l = (done : List Cell) × (row_gives l.schema l.lits ≡ given_from done l.place l.columns l.lits)
