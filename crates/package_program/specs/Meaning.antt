-- The program means the query.
use Rattle.std.specs.Prelude.{◌≡◌, ◌↔◌, ℕ, ◌+◌, ◌≤◌, List, IfSome}
use Rattle.std.specs.List.{AllByRecursion}
use Rattle.lin_bound.specs.Problem.{ProblemData, IsWithin, IsFeasible, cost_at}
use Rattle.package_query.specs.Package.{AscendsFrom}
use Rattle.package_query.specs.Meaning.{Meets, worth}
use Rattle.package_query.specs.Query.{PackageQuery}
use Rattle.table_schema.specs.declared.cells.Cell.{Cell}
use Rattle.bound_query.specs.Asks.{asks, AreAskedOf}
use Rattle.bound_query.specs.declared.queries.BoundQuery.{BoundQuery}
use Rattle.package_program.specs.Program.{candidates, ids_of, problem_of, AreSumsSmall}
use Rattle.package_program.specs.Points.{package_at}

-- the program of a query over a table's rows, and the package of one of its points
abbrev pub program : {R : Type 0} → PackageQuery R → ℕ → List (ℕ × R) → ProblemData
program query bound rows = problem_of query bound (candidates query rows)

abbrev pub taken : {R : Type 0} → PackageQuery R → List (ℕ × R) → List ℕ → List (ℕ × ℕ)
taken query rows point = package_at (ids_of (candidates query rows)) point

-- the pairs are the package of this point, and of no other one
pub record IsOnlyPoint {R : Type 0} (query : PackageQuery R) (bound : ℕ) (rows : List (ℕ × R))
    (pairs : List (ℕ × ℕ)) (point : List ℕ) : Type 0 where
  pub within : IsWithin (program query bound rows) point
  pub same : taken query rows point ≡ pairs
  pub only : (other : List ℕ) → IsWithin (program query bound rows) other
      → taken query rows other ≡ pairs → other ≡ point

-- A point within the uppers is feasible exactly if its package meets the query, its cost is what
-- the package is worth, and each package that meets is the package of exactly one point.
pub record IsTranslated {R : Type 0} (query : PackageQuery R) (bound : ℕ)
    (rows : List (ℕ × R)) : Type 0 where
  pub meets : (point : List ℕ) → IsWithin (program query bound rows) point
      → IsFeasible (program query bound rows) point ↔ Meets query rows (taken query rows point)
  pub worth : (point : List ℕ) → IsWithin (program query bound rows) point
      → cost_at (program query bound rows) point ≡ worth query rows (taken query rows point)
  pub covers : (pairs : List (ℕ × ℕ)) → Meets query rows pairs
      → (point : List ℕ) × IsOnlyPoint query bound rows pairs point

-- no package that meets takes a row more often
abbrev pub BoundsCounts : {R : Type 0} → PackageQuery R → ℕ → List (ℕ × R) → Type 0
BoundsCounts query bound rows = (pairs : List (ℕ × ℕ)) → Meets query rows pairs
    → AllByRecursion (λ (pair : ℕ × ℕ). pair.1 ≤ bound) pairs

-- the ids ascend, REPEAT allows so many copies of a row, no package that meets takes more, and no
-- sum is too large for a right-hand side to be held
pub record IsTranslatable {R : Type 0} (query : PackageQuery R) (bound : ℕ)
    (rows : List (ℕ × R)) : Type 0 where
  pub ascending : AscendsFrom 0 rows
  pub repeat : IfSome query.repeat (λ (k : ℕ). bound ≤ k + 1)
  pub bounds : BoundsCounts query bound rows
  pub small : AreSumsSmall query bound (candidates query rows)

abbrev pub ProgramKeepsMeaning : Type 0 → Type 0
ProgramKeepsMeaning R = (query : PackageQuery R) (bound : ℕ) (rows : List (ℕ × R))
    → IsTranslatable query bound rows → IsTranslated query bound rows

-- a bound query's row bound is one
abbrev pub RowBoundHolds : Type 0
RowBoundHolds = (query : BoundQuery) (rows : List (ℕ × List Cell))
    → BoundsCounts (asks query) query.row_bound rows

-- so a bound query is translated over the rows of which it is asked, unless a sum is too large
abbrev pub BoundQueryIsTranslated : Type 0
BoundQueryIsTranslated = (query : BoundQuery) (rows : List (ℕ × List Cell))
    → AreAskedOf query rows
    → AreSumsSmall (asks query) query.row_bound (candidates (asks query) rows)
    → IsTranslated (asks query) query.row_bound rows
