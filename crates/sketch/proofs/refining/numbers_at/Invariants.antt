use Rattle.std.proofs.Common.{◌≡◌, take}
use Rattle.sketch.specs.Lines.{numbers_of}
use Rattle.sketch.specs.Refined.{numbers_at}
use Rattle.sketch.proofs.refining.numbers_at.Given as goal

abbrev pub invariant-loop-member : goal.invariant-loop-member
invariant-loop-member l = l.numbers ≡ numbers_at (take l.member-index l.part) (numbers_of l.problem l.line)
