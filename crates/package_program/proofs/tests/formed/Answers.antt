-- The query can be asked of the three rows.
use Rattle.std.proofs.Common.{◌≡◌, ◌≤◌, ◌^◌, ℕ, List, [], ◌∷◌, ℤ, pos, sym, subst, ◌∙◌, w64, to_z, of_z, lit≤}
use Rattle.std.proofs.lemmas.Int.{to_z-of_z}
use Rattle.std.specs.Int.RustNames.{unsigned_abs}
use Rattle.table_schema.specs.declared.cells.Cell.{Cell}
use Rattle.table_schema.specs.declared.cells.Cell.TheVariants as cells
use Rattle.bound_query.specs.declared.queries.BoundQuery.{BoundQuery}
use Rattle.bound_query.specs.Asks.{IsAskedOf, AreAskedOf}
use Rattle.package_program.proofs.tests.formed.Goals as goal

three_asked : (query : BoundQuery) (rows : List (ℕ × List Cell)) (first : ℤ) → rows ≡ (1, cells.Num first ∷ []) ∷ (4, cells.Num (pos 7) ∷ []) ∷ (9, cells.Num (pos 9) ∷ []) ∷ [] → unsigned_abs first ≤ 10 ^ 12
    → ((units : ℤ) → unsigned_abs units ≤ 10 ^ 12 → IsAskedOf query (cells.Num units ∷ [])) → AreAskedOf query rows
three_asked query rows first is small asked =
    subst (AreAskedOf query) (sym is) (record {
      ascending = (lit≤ tt, (lit≤ tt, (lit≤ tt, tt)));
      few = lit≤ tt;
      each = (asked first small, (asked (pos 7) (lit≤ tt), (asked (pos 9) (lit≤ tt), tt)));
    })

pub translate-requires : goal.translate-requires
translate-requires c =
    let kept = to_z-of_z w64 c.args.first c.ranges.first in
    three_asked c.in_ok-asked.asked c.as_slice.result.now (to_z w64 (of_z w64 c.args.first)) (c.as_slice.ensures.value ∙ c.in_ok-rows.ensures) (rw kept c.requires.first) c.in_ok-asked.ensures
