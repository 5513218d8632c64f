-- No term has a fault.
use Rattle.std.proofs.Common.{arith}
use Rattle.paql_bind.specs.Scopes.{seen}
use Rattle.paql_bind.specs.Sums.{item_faults}
use Rattle.paql_bind.proofs.FaultLemmas.{none_at}
use Rattle.paql_bind.proofs.sums.append_terms.Goals as goal

pub append_term-requires-clause-good : goal.append_term-requires-clause-good
append_term-requires-clause-good c =
    none_at (item_faults (seen c.args.scope.now)) c.args.items.now c.loop-item.item-index c.item-item.result (omega arith) c.item-item.is c.requires.good
