-- What the translation of a bound query is, and when there is none.
use Rattle.std.specs.Prelude.{◌≡◌, ℕ, ◌+◌, ◌<◌, ◌≤◌, List, [], length, map, flat_map, take, sum, slice_index_or, ℤ, Result, Ok, Err}
use Rattle.std.specs.Borrow.{Bor}
use Rattle.std.specs.List.{AllByRecursion}
use Rattle.package_query.specs.Package.{AscendsFrom}
use Rattle.package_query.specs.Query.{Conjunct}
use Rattle.table_schema.specs.declared.cells.Cell.{Cell}
use Rattle.bound_query.specs.Asks.{asks, IsAskedOf}
use Rattle.bound_query.specs.Terms.{conjunct_of, goal_of}
use Rattle.bound_query.specs.declared.queries.BoundQuery.{BoundQuery}
use Rattle.package_program.specs.Program.{candidates, ids_of, signed, adds, rows_for, rhs_for, goal_terms, goal_negated, problem_of, sizes, sums_of, most_sum, IsSmallSum, AreSumsSmall}
use Rattle.package_program.specs.Meaning.{program}
use Rattle.package_program.specs.Linear.{LinearData}
use Rattle.package_program.specs.declared.rows.Rows.{Rows}
use Rattle.package_program.specs.declared.faults.FormFault.{FormFault}
use Rattle.package_program.specs.declared.faults.FormFault.TheVariants.{LimitCandidates, TooLarge, Memory}

-- the most rows that can be candidates
abbrev pub most_candidates : ℕ
most_candidates = 100000

-- the first of the partial sums that is too large
pub record IsFirstAbove (sizes : List ℕ) (total : ℕ) : Type 0 where
  pub place : ℕ
  pub inside : place < length sizes
  pub so_far : sum (take place sizes) ≤ most_sum
  pub reached : total ≡ sum (take (place + 1) sizes)
  pub above : most_sum < total

-- the first of the sums that is too large
pub record IsFirstTooLarge {R : Type 0} (bound : ℕ) (rows : List (ℕ × R))
    (sums : List (List (R → ℤ))) (number total : ℕ) : Type 0 where
  pub inside : number < length sums
  pub before : AllByRecursion (IsSmallSum bound rows) (take number sums)
  pub passed : IsFirstAbove (sizes bound (slice_index_or sums number []) rows) total

-- the program of the query, and the ids of its candidates
abbrev pub linear_of : BoundQuery → List (ℕ × List Cell) → LinearData
linear_of query rows = record {
  problem = program (asks query) query.row_bound rows;
  ids = ids_of (candidates (asks query) rows);
}

-- the sums of the query over its candidates
abbrev pub HasSmallSums : BoundQuery → List (ℕ × List Cell) → Type 0
HasSmallSums query rows = AreSumsSmall (asks query) query.row_bound (candidates (asks query) rows)

abbrev pub HasTooLarge : BoundQuery → List (ℕ × List Cell) → ℕ → ℕ → Type 0
HasTooLarge query rows =
    IsFirstTooLarge query.row_bound (candidates (asks query) rows) (sums_of (asks query))

abbrev pub count_of : BoundQuery → List (ℕ × List Cell) → ℕ
count_of query rows = length (candidates (asks query) rows)

-- too many candidates come first, and then the goal's sum and each conjunct's in turn; out of
-- memory can come at any time
abbrev pub Translates : BoundQuery → List (ℕ × List Cell) → Result LinearData FormFault → Type 0
Translates query rows (Ok linear) =
    (count_of query rows ≤ most_candidates) × HasSmallSums query rows
    × (linear ≡ linear_of query rows)
Translates query rows (Err (LimitCandidates count)) =
    (most_candidates < count_of query rows) × (count ≡ count_of query rows)
Translates query rows (Err (TooLarge number total)) =
    (count_of query rows ≤ most_candidates) × HasTooLarge query rows number total
Translates query rows (Err (Memory fault)) = Unit {0}

-- ---- parts of it

-- the rows that references stand for
abbrev pub entries_of : List (Bor (ℕ × List Cell)) → List (ℕ × List Cell)
entries_of rows = map (λ (row : Bor (ℕ × List Cell)). row.now) rows

-- the numbers of one sum, which has this number among the sums
abbrev pub SumGives : ℕ → ℕ → List (List Cell → ℤ) → List (ℕ × List Cell) → List ℤ
    → Result (List ℤ) FormFault → Type 0
SumGives number bound terms rows wanted (Ok made) =
    (made ≡ wanted) × IsSmallSum bound rows terms
SumGives number bound terms rows wanted (Err (LimitCandidates count)) = ⊥
SumGives number bound terms rows wanted (Err (TooLarge named total)) =
    (named ≡ number) × IsFirstAbove (sizes bound terms rows) total
SumGives number bound terms rows wanted (Err (Memory fault)) = Unit {0}

abbrev pub costs_of : BoundQuery → List (ℕ × List Cell) → List ℤ
costs_of query rows = map (signed (goal_negated (goal_of query.goal)))
    (adds query.row_bound (goal_terms (goal_of query.goal)) rows)

abbrev pub CostGives : BoundQuery → List (ℕ × List Cell) → Result (List ℤ) FormFault → Type 0
CostGives query rows result =
    SumGives 0 query.row_bound (goal_terms (goal_of query.goal)) rows (costs_of query rows) result

abbrev pub conditions_of : BoundQuery → List (Conjunct (List Cell))
conditions_of query = map conjunct_of query.conjuncts

abbrev pub condition_sums : BoundQuery → List (List (List Cell → ℤ))
condition_sums query =
    map (λ (conjunct : Conjunct (List Cell)). conjunct.terms) (conditions_of query)

-- the rows of all conditions; the sum of the first one has the number 1
abbrev pub RowsGive : BoundQuery → List (ℕ × List Cell) → Result Rows FormFault → Type 0
RowsGive query rows (Ok made) =
    (made.rows ≡ flat_map (rows_for query.row_bound rows) (conditions_of query))
    × (made.rhs ≡ flat_map rhs_for (conditions_of query))
    × AllByRecursion (IsSmallSum query.row_bound rows) (condition_sums query)
RowsGive query rows (Err (LimitCandidates count)) = ⊥
RowsGive query rows (Err (TooLarge number total)) = (j : ℕ) × (number ≡ j + 1)
    × IsFirstTooLarge query.row_bound rows (condition_sums query) j total
RowsGive query rows (Err (Memory fault)) = Unit {0}

-- the program over these rows, all of which pass
abbrev pub ProgramGives : BoundQuery → List (ℕ × List Cell) → Result LinearData FormFault → Type 0
ProgramGives query rows (Ok linear) = AreSumsSmall (asks query) query.row_bound rows
    × (linear ≡ record {
      problem = problem_of (asks query) query.row_bound rows;
      ids = ids_of rows;
    })
ProgramGives query rows (Err (LimitCandidates count)) = ⊥
ProgramGives query rows (Err (TooLarge number total)) =
    IsFirstTooLarge query.row_bound rows (sums_of (asks query)) number total
ProgramGives query rows (Err (Memory fault)) = Unit {0}

-- rows of which the query can be asked, with ids that ascend, and not too many of them
pub record AreCandidates (query : BoundQuery) (rows : List (ℕ × List Cell)) : Type 0 where
  pub ascending : AscendsFrom 0 rows
  pub few : length rows ≤ most_candidates
  pub each : AllByRecursion (λ (entry : ℕ × List Cell). IsAskedOf query entry.1) rows
