-- The numbers so far and those to come are all numbers.
use Rattle.std.proofs.Common.{◌≡◌, ◌*◌, ◌^◌, ◌≤◌, drop}
use Rattle.std.specs.Prelude.{◌+ℤ◌, unsigned_abs}
use Rattle.paql_bind.specs.Sums.{sum_number}
use Rattle.paql_bind.proofs.sums.sum_number.Given as goal

abbrev pub invariant-loop-item : goal.invariant-loop-item
invariant-loop-item l = (l.number +ℤ sum_number l.scale (drop l.item-index l.items) ≡ sum_number l.scale l.items) × (unsigned_abs l.number ≤ l.item-index * 10 ^ 18)
