use Rattle.cert_text.proofs.Weights.{split_weights}
use Rattle.cert_text.proofs.kinds.Expect.split_range.Goals as goal

pub returns : goal.returns
returns c = split_weights c.args.self c.args.place c.requires c.if-place-eq0.false c.if-place-eq1.false
