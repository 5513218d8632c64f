use Rattle.cert_text.proofs.Readings.{trails}
use Rattle.cert_text.proofs.reading.whole_of.Goals as goal

pub returns-then-end-text : goal.returns-then-end-text
returns-then-end-text c = trails c.args.text.now c.args.part.cert c.args.part.end c.args.part.line c.if-end-text.true c.requires
