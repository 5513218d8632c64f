use Rattle.std.proofs.Common.{◌≡◌, ◌*◌, ◌^◌, ◌≤◌, ◌+ℤ◌, drop, map}
use Rattle.std.specs.Int.RustNames.{unsigned_abs}
use Rattle.bound_query.specs.Terms.{term_value}
use Rattle.package_program.specs.Program.{per_copy}
use Rattle.package_program.proofs.copies.per_copy.Given as goal

abbrev pub invariant-loop-term : goal.invariant-loop-term
invariant-loop-term l = record {
  value : l.sum +ℤ per_copy (map term_value (drop l.term-index l.terms)) l.row ≡ per_copy (map term_value l.terms) l.row;
  small : unsigned_abs l.sum ≤ l.term-index * (2 * 10 ^ 24);
}
