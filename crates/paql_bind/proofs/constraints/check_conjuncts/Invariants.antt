-- The constraints so far have no fault.
use Rattle.std.proofs.Common.{◌≡◌, [], take}
use Rattle.paql_bind.specs.Constraints.{conjuncts_faults}
use Rattle.paql_bind.specs.Scopes.{seen}
use Rattle.paql_bind.proofs.constraints.check_conjuncts.Given as goal

abbrev pub invariant-loop-conjunct : goal.invariant-loop-conjunct
invariant-loop-conjunct l = conjuncts_faults (seen l.scope) (take l.conjunct-index l.conjuncts) ≡ []
