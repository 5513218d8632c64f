-- The sum so far and that of the later terms are the whole.
use Rattle.std.proofs.Common.{◌≡◌, ◌^◌, ◌*◌, ◌≤◌, ◌+ℤ◌, IsTrue, drop, map}
use Rattle.std.specs.List.{AllByRecursion}
use Rattle.std.specs.Int.RustNames.{unsigned_abs}
use Rattle.package_query.specs.Meaning.{copies_give}
use Rattle.bound_query.specs.Terms.{term_value}
use Rattle.bound_query.specs.Fits.{IsBoundTerm, fits_terms}
use Rattle.package_judge.proofs.sums.copies_give.Given as goal

abbrev pub invariant-loop-term : goal.invariant-loop-term
invariant-loop-term l =
    (l.sum +ℤ copies_give (map term_value (drop l.term-index l.terms)) l.count l.row ≡ copies_give (map term_value l.terms) l.count l.row)
    × (unsigned_abs l.sum ≤ l.term-index * 2 ^ 100)
    × IsTrue (fits_terms l.row (drop l.term-index l.terms))
    × AllByRecursion IsBoundTerm (drop l.term-index l.terms)
