use Rattle.table_schema.proofs.ColumnLemmas.{is_schema, no_faults}
use Rattle.table_schema.proofs.laws.no_fault_is_schema.Goals as goal

pub returns : goal.returns
returns c = λ columns some. (is_schema columns some, no_faults columns)
