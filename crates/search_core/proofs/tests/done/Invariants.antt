use Rattle.std.proofs.Common.{◌≡◌, [], ◌∷◌}
use Rattle.std.specs.Prelude.{pos}
use Rattle.search_core.proofs.tests.done.Given as goal

abbrev pub invariant-loop-worker : goal.invariant-loop-worker
invariant-loop-worker l = l.core.problem ≡ record { cost = pos 5 ∷ []; rows = (pos 5 ∷ []) ∷ []; rhs = pos 14 ∷ []; upper = 3 ∷ [] }
