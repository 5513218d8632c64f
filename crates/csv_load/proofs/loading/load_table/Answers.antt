use Rattle.csv_load.proofs.LoadLemmas.{no_header, no_first}
use Rattle.csv_load.proofs.loading.load_table.Goals as goal

pub returns : goal.returns
returns c = λ all b.
    no_header c.args.schema.now all (no_first all _ _ c.read_first.result c.in-End.is (c.read_first.ensures all b))
