-- No literal so far is the cell's value.
use Rattle.std.proofs.Common.{◌≡◌, IsTrue, drop}
use Rattle.bound_query.specs.Rows.{cell_value, is_one_of}
use Rattle.bound_query.specs.Fits.{are_bound_lits}
use Rattle.bound_query.proofs.truth.is_one_of.Given as goal

abbrev pub invariant-loop-lit : goal.invariant-loop-lit
invariant-loop-lit l =
    (is_one_of (cell_value l.cell l.scale) (drop l.lit-index l.list) ≡ is_one_of (cell_value l.cell l.scale) l.list)
    × IsTrue (are_bound_lits (drop l.lit-index l.list))
