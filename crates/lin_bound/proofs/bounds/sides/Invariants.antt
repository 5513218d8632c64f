use Rattle.std.proofs.Common.{◌≡◌, ◌*◌, ◌^◌, ◌≤◌}
use Rattle.std.specs.Prelude.{unsigned_abs}
use Rattle.lin_bound.specs.Sums.{sum_below}
use Rattle.lin_bound.specs.Bound.{side_of}
use Rattle.lin_bound.proofs.bounds.sides.Given as goal

abbrev pub invariant-loop-row : goal.invariant-loop-row
invariant-loop-row l =
    (l.total ≡ sum_below (side_of l.problem l.mult) l.row) × (unsigned_abs l.total ≤ l.row * 2 ^ 91)
