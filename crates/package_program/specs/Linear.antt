-- A program with the ids of its variables' rows.
use Rattle.std.specs.Prelude.{◌≡◌, ℕ, suc, ◌<◌, ◌≤◌, List, [], ◌∷◌, length}
use Rattle.lin_bound.specs.Problem.{ProblemData, variables}
use Rattle.lin_bound.specs.Sums.{nat_at}

pub record LinearData : Type 0 where
  pub problem : ProblemData
  pub ids : List ℕ

-- ids that ascend from `low` on
abbrev pub RiseFrom : ℕ → List ℕ → Type 0
RiseFrom low [] = Unit {0}
RiseFrom low (id ∷ ids) = (low ≤ id) × RiseFrom (suc id) ids

-- the ids ascend, one a variable, and every upper is the same one, at most a million
pub record IsLinear (linear : LinearData) : Type 0 where
  pub ascending : RiseFrom 0 linear.ids
  pub each : length linear.ids ≡ variables linear.problem
  pub even : (i : ℕ) → i < variables linear.problem
      → nat_at linear.problem.upper i ≡ nat_at linear.problem.upper 0
  pub few : nat_at linear.problem.upper 0 ≤ 1000000
