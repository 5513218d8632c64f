use Rattle.paql_engine.proofs.Serving.{begins}
use Rattle.paql_engine.proofs.machine.Machine.new.Goals as goal

pub returns-clause-serves : goal.returns-clause-serves
returns-clause-serves c = λ vault. rw (c.new.ensures, c.new-2.ensures, c.nothing.ensures) (begins vault)
