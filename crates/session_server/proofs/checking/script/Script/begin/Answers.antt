use Rattle.std.proofs.Common.{◌∙◌, ap}
use Rattle.session_proto.specs.Causes.{text_cause}
use Rattle.session_proto.specs.Replies.{ReplyData}
use Rattle.version_store.specs.Vaults.{holding}
use Rattle.session_server.proofs.Scripts.{stops_fault, never_blank}
use Rattle.session_server.proofs.checking.script.Script.begin.Goals as goal

pub returns-in-Statement-clause-begins : goal.returns-in-Statement-clause-begins
returns-in-Statement-clause-begins g c = λ vault source now framed.
    c.start.ensures.starts vault source now c.args.text.now framed (rw c.in-Statement.is at c.in_ok-statement.ensures)

pub returns-in_ok-refused_line-in-Faulty-clause-begins :
    goal.returns-in_ok-refused_line-in-Faulty-clause-begins
returns-in_ok-refused_line-in-Faulty-clause-begins g c = λ vault source now framed.
    let before = holding g.V.Vault.held g.V.Vault.own g.V.Vault.stake c.args.vault.now in
    stops_fault vault before source now c.args.text.now c.args.self.now (text_cause c.in-Faulty.fault c.in-Faulty.at) c.in_ok-reply-in-Faulty.reply c.in_ok-refused_line-in-Faulty.field-0
    framed (rw c.in-Faulty.is at c.in_ok-statement.ensures) c.in_ok-reply-in-Faulty.ensures c.in_ok-refused_line-in-Faulty.ensures

pub returns-in-Blank-clause-begins : goal.returns-in-Blank-clause-begins
returns-in-Blank-clause-begins g c = λ vault source now framed.
    absurd (never_blank vault (holding g.V.Vault.held g.V.Vault.own g.V.Vault.stake c.args.vault.now) source now c.args.text.now c.args.self.now (rw c.in-Blank.is at c.in_ok-statement.ensures) framed)
