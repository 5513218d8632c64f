use Rattle.std.proofs.Common.{◌≡◌, take}
use Rattle.sketch.specs.Lines.{numbers_of}
use Rattle.sketch.specs.Sketched.{means_of}
use Rattle.sketch.proofs.sketching.means.Given as goal

abbrev pub invariant-loop-part : goal.invariant-loop-part
invariant-loop-part l = l.means ≡ means_of (take l.part-index l.parts) (numbers_of l.problem l.line)
