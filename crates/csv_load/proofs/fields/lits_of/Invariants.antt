use Rattle.csv.specs.Records.{fields_of}
use Rattle.csv_load.proofs.FieldLemmas.{Goes}
use Rattle.csv_load.proofs.fields.lits_of.Given as goal

abbrev pub invariant-loop-place : goal.invariant-loop-place
invariant-loop-place l = Goes l.columns (fields_of l.fields) l.lits.items l.place
