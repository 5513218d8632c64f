-- The literals so far are copied.
use Rattle.std.proofs.Common.{◌≡◌, take}
use Rattle.paql_bind.proofs.conditions.copy_lits.Given as goal

abbrev pub invariant-loop-lit : goal.invariant-loop-lit
invariant-loop-lit l = l.copies.items ≡ take l.lit-index l.list
