-- The constraints so far are bound.
use Rattle.std.proofs.Common.{◌≡◌, take}
use Rattle.paql_bind.specs.Scopes.{seen}
use Rattle.paql_bind.specs.Constraints.{bound_conjuncts}
use Rattle.paql_bind.proofs.constraints.bound_conjuncts.Given as goal

abbrev pub invariant-loop-conjunct : goal.invariant-loop-conjunct
invariant-loop-conjunct l = l.bound.items ≡ bound_conjuncts (seen l.scope) (take l.conjunct-index l.conjuncts)
