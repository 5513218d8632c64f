use Rattle.table_schema.proofs.RowLemmas.{row_fits}
use Rattle.table_schema.proofs.laws.given_rows_fit.Goals as goal

pub returns : goal.returns
returns c = row_fits
