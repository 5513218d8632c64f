-- The package of a point.
use Rattle.std.specs.Prelude.{◌≡◌, ℕ, zero, suc, ◌<◌, ◌≤◌, List, [], ◌∷◌, length, ◌==◌, if◌then◌else◌}
use Rattle.std.specs.List.{AllByRecursion}
use Rattle.lin_bound.specs.Problem.{IsWithin}
use Rattle.lin_bound.specs.Sums.{nat_at}
use Rattle.package_program.specs.Linear.{LinearData}

-- the ids whose count isn't 0, each with its count
abbrev pub package_at : List ℕ → List ℕ → List (ℕ × ℕ)
package_at [] counts = []
package_at (id ∷ ids) [] = []
package_at (id ∷ ids) (zero ∷ counts) = package_at ids counts
package_at (id ∷ ids) (suc n ∷ counts) = (id, suc n) ∷ package_at ids counts

-- the id is that of a variable, whose upper allows so many copies
pub record IsPairOf (linear : LinearData) (pair : ℕ × ℕ) : Type 0 where
  pub place : ℕ
  pub inside : place < length linear.ids
  pub id : nat_at linear.ids place ≡ pair.0
  pub copies : pair.1 ≤ nat_at linear.problem.upper place

-- the pairs stand for points of the program
abbrev pub ArePairsOf : LinearData → List (ℕ × ℕ) → Type 0
ArePairsOf linear pairs = AllByRecursion (IsPairOf linear) pairs

-- the pairs are the package of this point
pub record IsPointOf (linear : LinearData) (pairs : List (ℕ × ℕ)) (point : List ℕ) : Type 0 where
  pub within : IsWithin linear.problem point
  pub same : package_at linear.ids point ≡ pairs

-- the count of the first pair if it has this id, and the pairs that are left then
abbrev pub first_count : ℕ → List (ℕ × ℕ) → ℕ
first_count id [] = 0
first_count id (pair ∷ pairs) = if pair.0 == id then pair.1 else 0

abbrev pub after_first : ℕ → List (ℕ × ℕ) → List (ℕ × ℕ)
after_first id [] = []
after_first id (pair ∷ pairs) = if pair.0 == id then pairs else pair ∷ pairs
