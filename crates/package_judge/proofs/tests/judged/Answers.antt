-- The query can be asked of the three rows.
use Rattle.std.proofs.Common.{◌≡◌, ℕ, List, [], ◌∷◌, pos, sym, subst, ◌∙◌, lit≤}
use Rattle.table_schema.specs.declared.cells.Cell.{Cell}
use Rattle.bound_query.specs.declared.queries.BoundQuery.{BoundQuery}
use Rattle.bound_query.specs.Asks.{IsAskedOf, AreAskedOf}
use Rattle.package_judge.proofs.tests.judged.Goals as goal

three_asked : (query : BoundQuery) (rows : List (ℕ × List Cell)) (one two three : List Cell) → rows ≡ (1, one) ∷ (3, two) ∷ (8, three) ∷ [] → IsAskedOf query one → IsAskedOf query two → IsAskedOf query three → AreAskedOf query rows
three_asked query rows one two three is first second third =
    subst (AreAskedOf query) (sym is) (record {
      ascending = (lit≤ tt, (lit≤ tt, (lit≤ tt, tt)));
      few = lit≤ tt;
      each = (first, (second, (third, tt)));
    })

pub judge-requires : goal.judge-requires
judge-requires c =
    let query = c.in_ok-asked.asked in
    let asked = c.in_ok-asked.ensures in
    three_asked query c.as_slice.result.now c.in_ok-first.first c.in_ok-second.second c.in_ok-third.third (c.as_slice.ensures.value ∙ c.in_ok-rows.ensures.items)
    (subst (IsAskedOf query) (sym c.in_ok-first.ensures) (asked (pos 5) (lit≤ tt)))
    (subst (IsAskedOf query) (sym c.in_ok-second.ensures) (asked (pos 7) (lit≤ tt)))
    (subst (IsAskedOf query) (sym c.in_ok-third.ensures) (asked (pos 9) (lit≤ tt)))
