-- The faults of the constraints that are left are all faults; the numbers stay small.
use Rattle.std.proofs.Common.{◌≡◌, ◌≤◌, ◌*◌, ◌+◌, drop}
use Rattle.paql_bind.specs.Queries.{terms_faults}
use Rattle.paql_bind.proofs.queries.check_terms.Given as goal

abbrev pub invariant-loop-conjunct : goal.invariant-loop-conjunct
invariant-loop-conjunct l = (terms_faults 1 l.conjuncts ≡ terms_faults l.number (drop l.conjunct-index l.conjuncts)) × (l.number ≤ 2 * l.conjunct-index + 1)
