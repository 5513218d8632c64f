use Rattle.std.proofs.Common.{◌≡◌, ◌^◌, ◌*◌, ◌≤◌, ◌+ℤ◌, drop, map}
use Rattle.std.specs.Int.RustNames.{unsigned_abs}
use Rattle.package_query.specs.Meaning.{copies_give}
use Rattle.package_query.specs.Plain.{number_at}
use Rattle.package_query.proofs.sums.copies_give.Given as goal

abbrev pub invariant-loop-place : goal.invariant-loop-place
invariant-loop-place l =
    (l.sum +ℤ copies_give (map number_at (drop l.place-index l.terms)) l.count l.row ≡ copies_give (map number_at l.terms) l.count l.row)
    × (unsigned_abs l.sum ≤ l.place-index * 2 ^ 83)
