use Rattle.std.proofs.Common.{◌≡◌, ℕ, ◌^◌, ◌*◌, ◌≤◌, ◌+ℤ◌, drop, map}
use Rattle.std.specs.List.{AllByRecursion}
use Rattle.std.specs.Int.RustNames.{unsigned_abs}
use Rattle.package_query.specs.Meaning.{total}
use Rattle.package_query.specs.Plain.{number_at}
use Rattle.package_query.proofs.sums.total.Given as goal

abbrev pub invariant-loop-pair : goal.invariant-loop-pair
invariant-loop-pair l =
    (l.sum +ℤ total (map number_at l.terms) l.rows (drop l.pair-index l.pairs) ≡ total (map number_at l.terms) l.rows l.pairs)
    × (unsigned_abs l.sum ≤ l.pair-index * 2 ^ 89)
    × AllByRecursion (λ (pair : ℕ × ℕ). pair.1 ≤ 2 ^ 20) (drop l.pair-index l.pairs)
