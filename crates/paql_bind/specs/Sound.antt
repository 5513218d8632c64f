-- Private: how `bind` in `src/queries.rt` makes a bound query.
-- What every bound query keeps, whatever it is asked for.
use Rattle.std.specs.Prelude.{◌≡◌, ℕ, ◌+◌, ◌-◌, ◌<◌, ◌≤◌, List, [], ◌∷◌, ℤ, pos, ◌*ℤ◌, Option, Some, IsTrue, IfSome, Contains, ◌⊎◌}
use Rattle.std.specs.List.{AllByRecursion}
use Rattle.bound_query.specs.Fits.{is_bound, IsBoundConjunct, AreBoundTerms, rows_of}
use Rattle.package_query.specs.Query.{Holds}
use Rattle.bound_query.specs.Terms.{compared}
use Rattle.bound_query.specs.declared.conditions.RowPred.TheVariants as preds
use Rattle.bound_query.specs.declared.queries.BoundAgg.TheVariants.{Count}
use Rattle.bound_query.specs.declared.queries.BoundConjunct.{BoundConjunct}
use Rattle.bound_query.specs.declared.queries.BoundGoal.{BoundGoal}
use Rattle.paql_bind.specs.Queries.{BoundParts}

-- its terms are the count of all copies alone, with a factor, and the comparison fails for more
-- copies than this
pub record KeepsCount (most : ℕ) (conjunct : BoundConjunct) : Type 0 where
  pub factor : ℤ
  pub count : conjunct.terms
      ≡ record { factor = factor; agg = Count preds.All; minus = pos 0 } ∷ []
  pub fails : (copies : ℕ) → most < copies
      → ¬ Holds (compared conjunct.op conjunct.low conjunct.high) (factor *ℤ pos copies)

-- REPEAT says the row bound, or one of the constraints
abbrev pub HasReason : Option ℕ → List BoundConjunct → ℕ → Type 0
HasReason repeat conjuncts most = (repeat ≡ Some (most - 1)) × (1 ≤ most)
    ⊎ ((conjunct : BoundConjunct) × Contains conjuncts conjunct × KeepsCount most conjunct)

-- its literals, scales, factors and limits are in range, it has few terms and rows, and its row
-- bound is at most 1,000,000, with a reason
pub record IsSound (query : BoundParts) : Type 0 where
  pub filter : IsTrue (is_bound query.filter)
  pub conjuncts : AllByRecursion IsBoundConjunct query.conjuncts
  pub few_rows : rows_of query.conjuncts ≤ 62
  pub goal : IfSome query.goal (λ (goal : BoundGoal). AreBoundTerms goal.terms)
  pub few_copies : query.row_bound ≤ 1000000
  pub repeat : IfSome query.repeat (λ (k : ℕ). query.row_bound ≤ k + 1)
  pub reason : HasReason query.repeat query.conjuncts query.row_bound
  pub budget : 1 ≤ query.budget
