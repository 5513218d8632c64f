use Rattle.std.proofs.Common.{List, ℕ, Some, length}
use Rattle.csv_load.specs.Between.{IsBetween}
use Rattle.csv_load.proofs.LoadLemmas.{Loads}
use Rattle.csv_load.proofs.loading.load_rows.Given as goal

abbrev pub invariant-loop-number : goal.invariant-loop-number
invariant-loop-number l = (rest : List (List (List ℕ))) → IsBetween l.fn.reader (Some (length l.schema)) rest → Loads l.schema rest l.reader l.most l.loaded l.number
