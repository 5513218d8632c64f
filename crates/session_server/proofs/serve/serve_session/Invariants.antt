use Rattle.pq_base.specs.Shown.{shown}
use Rattle.version_store.specs.Vaults.{holding}
use Rattle.paql_engine.specs.Conversation.{turns_left}
use Rattle.session_server.specs.Driving.{IsRunning}
use Rattle.session_server.proofs.serve.serve_session.Given as goal

abbrev pub invariant-loop-vault : goal.invariant-loop-vault
invariant-loop-vault g l = IsRunning (holding g.V.Vault.held g.V.Vault.own g.V.Vault.stake l.fn.vault) (holding g.V.Vault.held g.V.Vault.own g.V.Vault.stake l.vault)
    (shown g.S.Source.left g.S.Source.faults l.fn.source) (shown g.S.Source.left g.S.Source.faults l.source)
    (shown g.K.Sink.written g.K.Sink.faults l.fn.sink) (shown g.K.Sink.written g.K.Sink.faults l.sink) l.machine

abbrev pub decreases-loop-vault : goal.decreases-loop-vault
decreases-loop-vault g l = turns_left l.machine.talk
