-- Private: the judging of one box.
-- What a box is judged by.
use Rattle.std.specs.Prelude.{◌≡◌, ℕ, ◌<◌, ◌≤◌, length, ℤ, Option}
use Rattle.lin_bound.specs.Sums.{nat_at}
use Rattle.lin_bound.specs.Problem.{ProblemData, row_count}
use Rattle.lin_bound.specs.Bound.{Closes, plain}
use Rattle.lin_bound.specs.declared.region.Region.{Region}
use Rattle.lin_bound.specs.declared.mult.Mult.{Mult}

-- the variable can be more than one number in the box
abbrev pub HasRoom : Region → ℕ → Type 0
HasRoom box variable =
    (variable < length box.low) × (nat_at box.low variable < nat_at box.high variable)

-- and it is the first such variable
pub record IsFirstRoom (box : Region) (variable : ℕ) : Type 0 where
  pub room : HasRoom box variable
  pub first : (i : ℕ) → i < variable → nat_at box.high i ≤ nat_at box.low i

-- and here none can
abbrev pub HasNoRoom : Region → Type 0
HasNoRoom box = (i : ℕ) → i < length box.low → nat_at box.high i ≤ nat_at box.low i

-- the plain multipliers of the numbers below n don't close the box
abbrev pub IsOpenBelow : ProblemData → Region → Option ℤ → ℕ → Type 0
IsOpenBelow p box best n = (number : ℕ) → number < n → ¬ Closes p box (plain p number) best

-- these multipliers are plain ones that close the box, and the first that do
pub record IsPlainlyClosed (p : ProblemData) (box : Region) (best : Option ℤ)
    (mult : Mult) : Type 0 where
  pub number : ℕ
  pub within : number ≤ row_count p
  pub is : mult ≡ plain p number
  pub closes : Closes p box mult best
  pub first : IsOpenBelow p box best number
