use Rattle.std.proofs.Common.{◌≡◌, take, map}
use Rattle.sketch.specs.Parts.{upper_sum}
use Rattle.sketch.proofs.sketching.upper_sums.Given as goal

abbrev pub invariant-loop-part : goal.invariant-loop-part
invariant-loop-part l = l.uppers ≡ map (upper_sum l.problem.upper) (take l.part-index l.parts)
