-- The terms so far have no fault.
use Rattle.std.proofs.Common.{◌≡◌, [], take}
use Rattle.paql_bind.specs.Sums.{sum_faults}
use Rattle.paql_bind.specs.Scopes.{seen}
use Rattle.paql_bind.proofs.sums.check_sum.Given as goal

abbrev pub invariant-loop-item : goal.invariant-loop-item
invariant-loop-item l = sum_faults (seen l.scope) (take l.item-index l.items) ≡ []
