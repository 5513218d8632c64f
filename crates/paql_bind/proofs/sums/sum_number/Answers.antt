-- No term has a fault.
use Rattle.std.proofs.Common.{arith}
use Rattle.paql_bind.specs.Scopes.{seen}
use Rattle.paql_bind.specs.Sums.{item_faults}
use Rattle.paql_bind.proofs.FaultLemmas.{none_at}
use Rattle.paql_bind.proofs.NumberLemmas.{number_of_good}
use Rattle.paql_bind.proofs.sums.sum_number.Goals as goal

pub item_number-number-requires-clause-good : goal.item_number-number-requires-clause-good
item_number-number-requires-clause-good c =
    let scope = seen c.args.scope.now in
    number_of_good scope c.item-item.result.term (none_at (item_faults scope) c.args.items.now c.loop-item.item-index c.item-item.result (omega arith) c.item-item.is c.requires.good)
