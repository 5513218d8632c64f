-- What a bound query asks for: a package query over rows of cells. And of which rows it is asked.
use Rattle.std.specs.Prelude.{ℕ, List, map, length, ◌≤◌, IsTrue}
use Rattle.std.specs.List.{AllByRecursion}
use Rattle.table_schema.specs.declared.cells.Cell.{Cell}
use Rattle.package_query.specs.Package.{AscendsFrom}
use Rattle.package_query.specs.Query.{PackageQuery}
use Rattle.bound_query.specs.Rows.{true_on}
use Rattle.bound_query.specs.Terms.{conjunct_of, goal_of}
use Rattle.bound_query.specs.Fits.{fits, fits_conjuncts, fits_goal}
use Rattle.bound_query.specs.declared.queries.BoundQuery.{BoundQuery}

-- what the query asks of a package: WHERE, REPEAT, SUCH THAT and the goal
abbrev pub asks : BoundQuery → PackageQuery (List Cell)
asks query = record {
  passes = true_on query.filter;
  repeat = query.repeat;
  conjuncts = map conjunct_of query.conjuncts;
  goal = goal_of query.goal;
}

-- the query can be asked of the row
pub record IsAskedOf (query : BoundQuery) (row : List Cell) : Type 0 where
  pub filter : IsTrue (fits row query.filter)
  pub conjuncts : IsTrue (fits_conjuncts row query.conjuncts)
  pub goal : IsTrue (fits_goal row query.goal)

-- the rows of a table, each after its id, of which the query can be asked
pub record AreAskedOf (query : BoundQuery) (rows : List (ℕ × List Cell)) : Type 0 where
  pub ascending : AscendsFrom 0 rows
  pub few : length rows ≤ 200000
  pub each : AllByRecursion (λ (entry : ℕ × List Cell). IsAskedOf query entry.1) rows
