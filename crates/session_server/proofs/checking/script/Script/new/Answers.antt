use Rattle.session_server.proofs.Scripts.{starts}
use Rattle.session_server.proofs.checking.script.Script.new.Goals as goal

pub returns : goal.returns
returns c = λ vault source. rw (c.new.ensures, c.new-2.ensures) (starts vault source)
