use Rattle.cert_text.proofs.Tries.{bad_is}
use Rattle.cert_text.proofs.lines.is_whole.Goals as goal

pub returns-in-Bad : goal.returns-in-Bad
returns-in-Bad c = bad_is c.args.expect c.args.kind c.args.text.now c.fit.new.numbers.items (rw c.in-Bad.is at c.in_ok-how.ensures)
