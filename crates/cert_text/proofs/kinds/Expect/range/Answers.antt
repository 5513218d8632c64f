use Rattle.std.proofs.Common.{◌<◌, length}
use Rattle.cert_text.specs.Expected.{ranges}
use Rattle.cert_text.specs.declared.kinds.Kind.TheVariants.{Close}
use Rattle.cert_text.proofs.Weights.{close_weights, close_good, split_good}
use Rattle.cert_text.proofs.kinds.Expect.range.Goals as goal

pub returns-in-Split-clause-good : goal.returns-in-Split-clause-good
returns-in-Split-clause-good c = rw c.in-Split.is (split_good c.args.self)

pub returns-in-Close-clause-value : goal.returns-in-Close-clause-value
returns-in-Close-clause-value c =
    let within : c.args.place < length (ranges c.args.self Close) = rw c.in-Close.is at c.requires.within in
    rw c.in-Close.is (close_weights c.args.self c.args.place within)

pub returns-in-Close-clause-good : goal.returns-in-Close-clause-good
returns-in-Close-clause-good c = rw c.in-Close.is (close_good c.args.self)
