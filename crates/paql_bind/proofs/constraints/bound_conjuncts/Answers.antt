-- No constraint has a fault.
use Rattle.std.proofs.Common.{arith}
use Rattle.paql_bind.specs.Scopes.{seen}
use Rattle.paql_bind.specs.Constraints.{conjunct_faults}
use Rattle.paql_bind.proofs.FaultLemmas.{none_at}
use Rattle.paql_bind.proofs.constraints.bound_conjuncts.Goals as goal

pub append_conjunct-requires : goal.append_conjunct-requires
append_conjunct-requires c =
    none_at (conjunct_faults (seen c.args.scope.now)) c.args.conjuncts.now c.loop-conjunct.conjunct-index c.conjunct-item.result (omega arith) c.conjunct-item.is c.requires
