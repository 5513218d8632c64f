-- No term has a fault.
use Rattle.std.proofs.Common.{arith}
use Rattle.paql_bind.specs.Scopes.{seen}
use Rattle.paql_bind.specs.Sums.{item_faults}
use Rattle.paql_bind.proofs.FaultLemmas.{none_at}
use Rattle.paql_bind.proofs.sums.sum_scale.Goals as goal

pub term_scale-requires : goal.term_scale-requires
term_scale-requires c =
    none_at (item_faults (seen c.args.scope.now)) c.args.items.now c.loop-item.item-index c.item-item.result (omega arith) c.item-item.is c.requires
