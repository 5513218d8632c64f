-- The parts so far are bound.
use Rattle.std.proofs.Common.{◌≡◌, take, map}
use Rattle.paql_bind.specs.Conditions.{bound_pred}
use Rattle.paql_bind.specs.Scopes.{seen}
use Rattle.paql_bind.proofs.conditions.+bounds.Given as goal

abbrev pub invariant-bound_parts-loop-part : goal.invariant-bound_parts-loop-part
invariant-bound_parts-loop-part l = l.bound.items ≡ map (bound_pred (seen l.scope)) (take l.part-index l.parts)
