-- A statement is begun, a fault is refused, and a blank text is never framed.
use Rattle.std.proofs.Common.{subst}
use Rattle.version_store.specs.Vaults.{holding}
use Rattle.paql_engine.specs.Conversation.{over}
use Rattle.paql_engine.specs.Texts.{IsText}
use Rattle.paql_engine.specs.declared.text.Text.{Text}
use Rattle.paql_engine.proofs.Performing.{framed_in, never_blank}
use Rattle.paql_engine.proofs.machine.Machine.parsed.Goals as goal

pub returns-in-Ok-Statement-clause-continues : goal.returns-in-Ok-Statement-clause-continues
returns-in-Ok-Statement-clause-continues g c = λ first bytes written serving.
    let vault = holding g.V.Vault.held g.V.Vault.own g.V.Vault.stake c.args.vault.now in
    let text : IsText c.requires.0 c.in-Ok-Statement.field-0 = rw c.in-Ok-Statement.is at c.requires.2 in
    let is = subst (λ (t : Text). IsText c.requires.0 t) c.in-Ok-Statement.field-0-is text in
    let framed = framed_in first bytes written c.requires.0 (over vault c.args.self.now) c.requires.1 serving in
    c.begin.ensures.begins first bytes written c.requires.0 framed is

pub returns-in-Ok-Faulty-clause-continues : goal.returns-in-Ok-Faulty-clause-continues
returns-in-Ok-Faulty-clause-continues g c = λ first bytes written serving.
    let vault = holding g.V.Vault.held g.V.Vault.own g.V.Vault.stake c.args.vault.now in
    let text : IsText c.requires.0 c.in-Ok-Faulty.field-0 = rw c.in-Ok-Faulty.is at c.requires.2 in
    let is = subst (λ (t : Text). IsText c.requires.0 t) c.in-Ok-Faulty.field-0-is text in
    let framed = framed_in first bytes written c.requires.0 (over vault c.args.self.now) c.requires.1 serving in
    c.refuse.ensures.refuses vault first bytes written c.requires.0 framed is

pub returns-in-Ok-Blank-clause-continues : goal.returns-in-Ok-Blank-clause-continues
returns-in-Ok-Blank-clause-continues g c = λ first bytes written serving.
    let vault = holding g.V.Vault.held g.V.Vault.own g.V.Vault.stake c.args.vault.now in
    let text : IsText c.requires.0 c.in-Ok-Blank.field-0 = rw c.in-Ok-Blank.is at c.requires.2 in
    let is = subst (λ (t : Text). IsText c.requires.0 t) c.in-Ok-Blank.field-0-is text in
    let framed = framed_in first bytes written c.requires.0 (over vault c.args.self.now) c.requires.1 serving in
    absurd (never_blank first bytes written c.requires.0 (over vault c.args.self.now) is framed)
