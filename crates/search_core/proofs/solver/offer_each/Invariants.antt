use Rattle.search_core.specs.Solo.{IsAllOffered}
use Rattle.search_core.proofs.solver.offer_each.Given as goal

abbrev pub invariant-loop-point : goal.invariant-loop-point
invariant-loop-point l = IsAllOffered l.problem l.fn.state l.state
