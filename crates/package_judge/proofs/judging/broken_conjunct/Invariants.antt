-- The conjuncts so far hold.
use Rattle.std.proofs.Common.{◌≡◌, ◌+◌, drop, map}
use Rattle.std.specs.List.{AllByRecursion}
use Rattle.bound_query.specs.Terms.{conjunct_of}
use Rattle.bound_query.specs.Fits.{IsBoundConjunct}
use Rattle.package_judge.specs.Verdicts.{first, conjuncts_break}
use Rattle.package_judge.specs.Sums.{RowsFitEach}
use Rattle.package_judge.proofs.judging.broken_conjunct.Given as goal

abbrev pub invariant-loop-conjunct : goal.invariant-loop-conjunct
invariant-loop-conjunct l =
    (first (conjuncts_break l.rows l.pairs l.number (map conjunct_of (drop l.conjunct-index l.conjuncts))) ≡ first (conjuncts_break l.rows l.pairs 1 (map conjunct_of l.conjuncts)))
    × (l.number ≡ l.conjunct-index + 1)
    × AllByRecursion IsBoundConjunct (drop l.conjunct-index l.conjuncts)
    × RowsFitEach (drop l.conjunct-index l.conjuncts) l.rows
