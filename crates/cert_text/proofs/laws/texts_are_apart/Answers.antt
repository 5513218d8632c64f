use Rattle.cert_text.proofs.Apart.{texts_are_apart}
use Rattle.cert_text.proofs.laws.texts_are_apart.Goals as goal

pub returns : goal.returns
returns c = texts_are_apart
