use Rattle.std.proofs.Common.{◌≡◌, true, false, rules}
use Rattle.std.specs.Prelude.{is_some}
use Rattle.paql_engine.proofs.Rows.{begin_refused, begins_now}
use Rattle.paql_engine.proofs.session.Session.begin.Goals as goal

pub returns-then-is_some-clause-ok : goal.returns-then-is_some-clause-ok
returns-then-is_some-clause-ok c = λ vault.
    let opened : is_some c.self.inside.queue ≡ true = search rules in
    begin_refused vault c.args.self.now c.self.inside.queue c.self.inside.kept c.unready.result c.self.view_is opened c.unready.ensures

pub returns-clause-ok : goal.returns-clause-ok
returns-clause-ok c = λ vault.
    let free : is_some c.self.inside.queue ≡ false = search rules in
    begins_now vault c.args.self.now c.self.inside.queue c.self.inside.kept c.new.result c.in_ok-reply.reply c.self.view_is free c.in_ok-reply.ensures c.new.ensures
