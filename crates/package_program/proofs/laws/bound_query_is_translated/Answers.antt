use Rattle.std.proofs.Common.{ℕ, List}
use Rattle.table_schema.specs.declared.cells.Cell.{Cell}
use Rattle.bound_query.specs.Asks.{asks, AreAskedOf}
use Rattle.bound_query.specs.declared.queries.BoundQuery.{BoundQuery}
use Rattle.package_program.specs.Program.{candidates, AreSumsSmall}
use Rattle.package_program.proofs.Counts.{row_bound_is}
use Rattle.package_program.proofs.Translated.{translated}
use Rattle.package_program.proofs.laws.bound_query_is_translated.Goals as goal

pub returns : goal.returns
returns c = λ (query : BoundQuery) (rows : List (ℕ × List Cell)) (asked : AreAskedOf query rows)
    (small : AreSumsSmall (asks query) query.row_bound (candidates (asks query) rows)).
    translated (List Cell) (asks query) query.row_bound rows
    (record { ascending = asked.ascending; repeat = query.copies.repeat; bounds = row_bound_is query rows; small = small })
