use Rattle.csv_load.specs.Loading.RecordGives.{bad_cell, good_record}
use Rattle.csv_load.proofs.loading.row_of.Goals as goal

pub returns-in-Ok : goal.returns-in-Ok
returns-in-Ok c = λ whole. good_record c.in-Ok.row whole (c.in-Ok.ensures whole.each)

pub returns-in-Err-Bad : goal.returns-in-Err-Bad
returns-in-Err-Bad c = λ whole. bad_cell c.in-Err-Bad.place whole (rw c.in-Err-Bad.field-0-is at (c.in-Err-Bad.ensures whole.each))
