-- The parts so far don't decide.
use Rattle.std.proofs.Common.{◌≡◌, IsTrue, drop, map}
use Rattle.bound_query.specs.Rows.{true_of, some_true, all_true}
use Rattle.bound_query.specs.Fits.{all_fit, all_are_bound}
use Rattle.bound_query.proofs.truth.+truth.Given as goal

abbrev pub invariant-meets_some-loop-part : goal.invariant-meets_some-loop-part
invariant-meets_some-loop-part l =
    (some_true (map (true_of l.row) (drop l.part-index l.parts)) ≡ some_true (map (true_of l.row) l.parts))
    × IsTrue (all_fit l.row (drop l.part-index l.parts))
    × IsTrue (all_are_bound (drop l.part-index l.parts))

abbrev pub invariant-meets_all-loop-part : goal.invariant-meets_all-loop-part
invariant-meets_all-loop-part l =
    (all_true (map (true_of l.row) (drop l.part-index l.parts)) ≡ all_true (map (true_of l.row) l.parts))
    × IsTrue (all_fit l.row (drop l.part-index l.parts))
    × IsTrue (all_are_bound (drop l.part-index l.parts))
