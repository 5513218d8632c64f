use Rattle.csv_load.proofs.PassLemmas.{rows_pass}
use Rattle.csv_load.proofs.laws.given_rows_pass.Goals as goal

pub returns : goal.returns
returns c = rows_pass
