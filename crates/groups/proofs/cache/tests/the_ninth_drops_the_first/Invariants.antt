use Rattle.groups.specs.Caches.{IsCacheOf}
use Rattle.groups.specs.Groups.{CanBeGrouped}
use Rattle.groups.proofs.WorkedLemmas.{always}
use Rattle.groups.proofs.cache.tests.the_ninth_drops_the_first.Given as goal

abbrev pub invariant-loop-version : goal.invariant-loop-version
invariant-loop-version g l = IsCacheOf (always l.tables.tables) l.cache × CanBeGrouped l.tables.tables
