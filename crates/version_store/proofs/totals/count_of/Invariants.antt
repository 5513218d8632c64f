use Rattle.version_store.proofs.CountingTables.{IsCounting}
use Rattle.version_store.proofs.totals.count_of.Given as goal

abbrev pub invariant-loop-born : goal.invariant-loop-born
invariant-loop-born l = IsCounting l.version l.versions l.count l.born-index
