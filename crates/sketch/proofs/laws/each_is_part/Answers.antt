use Rattle.sketch.proofs.Cuts.{each_is_part}
use Rattle.sketch.proofs.laws.each_is_part.Goals as goal

pub returns : goal.returns
returns c = each_is_part
