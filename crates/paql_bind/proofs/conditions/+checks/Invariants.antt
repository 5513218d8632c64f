-- The parts so far have no fault.
use Rattle.std.proofs.Common.{◌≡◌, [], take, flat_map}
use Rattle.paql_bind.specs.Conditions.{pred_faults}
use Rattle.paql_bind.specs.Scopes.{seen}
use Rattle.paql_bind.proofs.conditions.+checks.Given as goal

abbrev pub invariant-check_parts-loop-part : goal.invariant-check_parts-loop-part
invariant-check_parts-loop-part l = flat_map (pred_faults (seen l.scope)) (take l.part-index l.parts) ≡ []
