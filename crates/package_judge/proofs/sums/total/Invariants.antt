-- The sum so far and that of the later pairs are the whole.
use Rattle.std.proofs.Common.{◌≡◌, ◌^◌, ◌*◌, ◌≤◌, ◌+ℤ◌, drop, map}
use Rattle.std.specs.List.{AllByRecursion}
use Rattle.std.specs.Int.RustNames.{unsigned_abs}
use Rattle.package_query.specs.Meaning.{total}
use Rattle.bound_query.specs.Terms.{term_value}
use Rattle.package_judge.specs.Packages.{IsLimited}
use Rattle.package_judge.proofs.sums.total.Given as goal

abbrev pub invariant-loop-pair : goal.invariant-loop-pair
invariant-loop-pair l =
    (l.sum +ℤ total (map term_value l.terms) l.rows (drop l.pair-index l.pairs) ≡ total (map term_value l.terms) l.rows l.pairs)
    × (unsigned_abs l.sum ≤ l.pair-index * 2 ^ 106)
    × AllByRecursion IsLimited (drop l.pair-index l.pairs)
