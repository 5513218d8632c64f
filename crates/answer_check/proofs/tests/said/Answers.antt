-- The query can be asked of the three rows.
use Rattle.std.proofs.Common.{◌≡◌, ◌≤◌, ◌^◌, ℕ, List, [], ◌∷◌, pos, sym, subst, ◌∙◌, lit≤}
use Rattle.table_schema.specs.declared.cells.Cell.{Cell}
use Rattle.table_schema.specs.declared.cells.Cell.TheVariants as cells
use Rattle.bound_query.specs.declared.queries.BoundQuery.{BoundQuery}
use Rattle.bound_query.specs.Asks.{IsAskedOf, AreAskedOf}
use Rattle.answer_check.proofs.tests.said.Goals as goal

three_asked : (query : BoundQuery) (rows : List (ℕ × List Cell)) → rows ≡ (1, cells.Num (pos 2) ∷ []) ∷ (2, cells.Num (pos 2) ∷ []) ∷ (3, cells.Num (pos 2) ∷ []) ∷ []
    → IsAskedOf query (cells.Num (pos 2) ∷ []) → AreAskedOf query rows
three_asked query rows is asked =
    subst (AreAskedOf query) (sym is) (record {
      ascending = (lit≤ tt, (lit≤ tt, (lit≤ tt, tt)));
      few = lit≤ tt;
      each = (asked, (asked, (asked, tt)));
    })

pub judge_answer-requires-clause-asked : goal.judge_answer-requires-clause-asked
judge_answer-requires-clause-asked c =
    three_asked c.in_ok-query.query c.as_slice.result.now (c.as_slice.ensures.value ∙ c.in_ok-rows.ensures) c.in_ok-query.ensures
