use Rattle.std.proofs.Common.{refl}
use Rattle.paql_engine.specs.declared.session.Answer.TheVariants.{NotBuilt}
use Rattle.paql_engine.proofs.Rows.{row_other}
use Rattle.paql_engine.proofs.session.Session.pass_over.Goals as goal

pub returns : goal.returns
returns c = λ vault t other. row_other vault c.args.self.now t NotBuilt other refl
