use Rattle.std.proofs.Common.{◌≡◌}
use Rattle.table_schema.specs.Rows.{row_gives}
use Rattle.table_schema.proofs.RowLemmas.{given_from}
use Rattle.table_schema.proofs.rows.check_row.Given as goal

abbrev pub invariant-loop-place : goal.invariant-loop-place
invariant-loop-place l = row_gives l.schema l.lits ≡ given_from l.cells.items l.place l.columns l.lits
