use Rattle.std.proofs.Common.{◌≡◌, true, false, rules}
use Rattle.std.specs.Prelude.{is_some}
use Rattle.paql_engine.proofs.Rows.{roll_back_refused, rolls_back_now}
use Rattle.paql_engine.proofs.session.Session.roll_back.Goals as goal

pub returns-then-is_none-clause-ok : goal.returns-then-is_none-clause-ok
returns-then-is_none-clause-ok c = λ vault.
    let free : is_some c.self.inside.queue ≡ false = search rules in
    roll_back_refused vault c.args.self.now c.self.inside.queue c.self.inside.kept c.unready.result c.self.view_is free c.unready.ensures

pub returns-clause-ok : goal.returns-clause-ok
returns-clause-ok c = λ vault.
    let opened : is_some c.self.inside.queue ≡ true = search rules in
    rolls_back_now vault c.args.self.now c.self.inside.queue c.self.inside.kept c.in_ok-reply.reply c.self.view_is opened c.in_ok-reply.ensures
