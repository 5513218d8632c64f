use Rattle.std.proofs.Common.{◌≡◌, None, Some, rules}
use Rattle.paql_engine.proofs.Rows.{uncertified, certified}
use Rattle.paql_engine.proofs.session.Session.certificate.Goals as goal

pub returns-in_default : goal.returns-in_default
returns-in_default c = λ vault.
    let none : c.self.inside.kept ≡ None = search rules in
    uncertified vault c.args.self.now c.self.inside.queue c.self.inside.kept c.unready.result c.self.view_is none c.unready.ensures

pub returns : goal.returns
returns c = λ vault.
    let some : c.self.inside.kept ≡ Some c.in-Some.kept = search rules in
    certified vault c.args.self.now c.self.inside.queue c.self.inside.kept c.in-Some.kept c.in_ok-bytes.bytes.items c.in_ok-reply.reply c.self.view_is some c.in_ok-bytes.ensures c.in_ok-reply.ensures
