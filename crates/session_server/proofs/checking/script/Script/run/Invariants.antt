use Rattle.pq_base.specs.Shown.{Shown, shown}
use Rattle.version_store.specs.Vaults.{Holding, holding}
use Rattle.session_server.specs.Checking.{IsOn, left_to_do}
use Rattle.session_server.proofs.checking.script.Script.run.Given as goal

abbrev pub invariant-loop-stop : goal.invariant-loop-stop
invariant-loop-stop g l = (vault : Holding) (source : Shown)
    → IsOn vault (holding g.V.Vault.held g.V.Vault.own g.V.Vault.stake l.fn.vault) source (shown g.S.Source.left g.S.Source.faults l.fn.source) l.fn.self
    → IsOn vault (holding g.V.Vault.held g.V.Vault.own g.V.Vault.stake l.vault) source (shown g.S.Source.left g.S.Source.faults l.source) l.self

abbrev pub decreases-loop-stop : goal.decreases-loop-stop
decreases-loop-stop g l = left_to_do l.self
