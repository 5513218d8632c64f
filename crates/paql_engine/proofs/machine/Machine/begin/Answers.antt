-- A LOAD waits for its body, and another statement is performed.
use Rattle.std.proofs.Common.{sym, subst}
use Rattle.version_store.specs.Vaults.{holding}
use Rattle.paql_engine.specs.Conversation.{OwnMachine, over}
use Rattle.paql_engine.specs.Turns.{IsFewer}
use Rattle.paql_engine.proofs.Performing.{waits_for, fewer_awaiting, after_plain}
use Rattle.paql_engine.proofs.machine.Machine.begin.Goals as goal

pub returns-in-Some-clause-begins : goal.returns-in-Some-clause-begins
returns-in-Some-clause-begins g c = λ first bytes written words framed is.
    let vault = holding g.V.Vault.held g.V.Vault.own g.V.Vault.stake c.args.vault.now in
    rw c.wait_for.ensures (waits_for first bytes written words c.args.statement c.in-Some.bytes (over vault c.args.self.now) c.in-Some.ensures framed is)

pub returns-in-Some-clause-fewer : goal.returns-in-Some-clause-fewer
returns-in-Some-clause-fewer g c =
    subst (λ (m : OwnMachine). IsFewer c.args.self.now.talk m.talk) (sym c.wait_for.ensures) (fewer_awaiting c.args.statement c.in-Some.bytes c.args.self.now.talk)

pub returns-in-None-clause-begins : goal.returns-in-None-clause-begins
returns-in-None-clause-begins g c = λ first bytes written words framed is.
    let vault = holding g.V.Vault.held g.V.Vault.own g.V.Vault.stake c.args.vault.now in
    c.perform.ensures.performs first bytes written words (after_plain first bytes written words c.args.statement (over vault c.args.self.now) framed is c.in-None.ensures) is
