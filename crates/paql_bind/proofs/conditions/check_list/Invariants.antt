-- The literals so far have no fault.
use Rattle.std.proofs.Common.{◌≡◌, [], take, flat_map}
use Rattle.paql_bind.specs.Conditions.{against_lit}
use Rattle.paql_bind.specs.Scopes.{seen}
use Rattle.paql_bind.proofs.conditions.check_list.Given as goal

abbrev pub invariant-loop-lit : goal.invariant-loop-lit
invariant-loop-lit l = flat_map (against_lit (seen l.scope) l.column) (take l.lit-index l.list) ≡ []
