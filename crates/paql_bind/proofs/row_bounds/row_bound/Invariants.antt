-- The least of the bounds so far and of those to come is the least of all.
use Rattle.std.proofs.Common.{◌≡◌, drop}
use Rattle.paql_bind.specs.RowBounds.{least, counts_bound, row_bound_of}
use Rattle.paql_bind.proofs.row_bounds.row_bound.Given as goal

abbrev pub invariant-loop-conjunct : goal.invariant-loop-conjunct
invariant-loop-conjunct l = least l.bound (counts_bound (drop l.conjunct-index l.conjuncts)) ≡ row_bound_of l.fn.repeat l.conjuncts
