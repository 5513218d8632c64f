-- What was taken, and what is cut off of the rest.
use Rattle.std.proofs.Common.{◌≡◌, ◌++◌, drop}
use Rattle.answer_check.specs.Packages.{cut_off, first_over}
use Rattle.answer_check.proofs.packages.cut_off.Given as goal

abbrev pub invariant-loop-id : goal.invariant-loop-id
invariant-loop-id l =
    (l.taken.items ++ cut_off (drop l.id-index l.pairs) ≡ cut_off l.pairs)
    × (first_over (drop l.id-index l.pairs) ≡ first_over l.pairs)
