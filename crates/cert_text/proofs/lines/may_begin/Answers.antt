use Rattle.cert_text.proofs.Tries.{whole_begins}
use Rattle.cert_text.proofs.lines.may_begin.Goals as goal

pub returns-in-Whole : goal.returns-in-Whole
returns-in-Whole c = whole_begins c.args.expect c.args.kind c.args.text.now c.fit.new.numbers.items (rw c.in-Whole.is at c.in_ok-how.ensures)
