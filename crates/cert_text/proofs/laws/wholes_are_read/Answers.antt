use Rattle.cert_text.proofs.Wholes.{wholes_are_read}
use Rattle.cert_text.proofs.laws.wholes_are_read.Goals as goal

pub returns : goal.returns
returns c = wholes_are_read
