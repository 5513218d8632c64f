-- Private: the law in `src/laws.rt`.
-- What a valid certificate shows.
use Rattle.std.specs.Prelude.{ℕ, List}
use Rattle.bound_query.specs.Asks.{AreAskedOf}
use Rattle.bound_query.specs.declared.queries.BoundQuery.{BoundQuery}
use Rattle.answer_check.specs.Verdicts.{Rows, HasProgram, Says, Shows}
use Rattle.answer_check.specs.declared.verdict.Verdict.TheVariants.{Valid}

-- If a text is called valid, it is a certificate's, and what it claims of the query is so.
abbrev pub ValidShows : Type 0
ValidShows = (query : BoundQuery) (rows : Rows) (text : List ℕ)
    → AreAskedOf query rows → HasProgram query rows
    → Says query rows text Valid → Shows query rows text
