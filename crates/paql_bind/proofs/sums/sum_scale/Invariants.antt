-- The greatest scale so far and that of the terms to come is the greatest of all.
use Rattle.std.proofs.Common.{◌≡◌, ◌≤◌, drop, max}
use Rattle.paql_bind.specs.Scopes.{seen}
use Rattle.paql_bind.specs.Sums.{sum_scale}
use Rattle.paql_bind.proofs.sums.sum_scale.Given as goal

abbrev pub invariant-loop-item : goal.invariant-loop-item
invariant-loop-item l = (max l.scale (sum_scale (seen l.scope) (drop l.item-index l.items)) ≡ sum_scale (seen l.scope) l.items) × (l.scale ≤ 6)
