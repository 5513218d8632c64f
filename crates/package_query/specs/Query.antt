-- What a package query asks for, over rows of any type.
use Rattle.std.specs.Prelude.{ℕ, ◌≡◌, Bool, List, ℤ, ◌≤ℤ◌, Option}
use lib.Signed.{◌<ℤ◌}
use Rattle.package_query.specs.declared.comparison.Comparison.{Comparison}
use Rattle.package_query.specs.declared.comparison.Comparison.TheVariants.{AtMost, Below, AtLeast, Above, Equals, Between}

-- what a comparison says of a total
abbrev pub Holds : Comparison → ℤ → Type 0
Holds (AtMost most) total = total ≤ℤ most
Holds (Below end) total = total <ℤ end
Holds (AtLeast least) total = least ≤ℤ total
Holds (Above end) total = end <ℤ total
Holds (Equals number) total = total ≡ number
Holds (Between least most) total = (least ≤ℤ total) × (total ≤ℤ most)

-- a condition on the whole package: its terms, each a number for one copy of a row, together keep the comparison
pub record Conjunct (R : Type 0) : Type 0 where
  pub terms : List (R → ℤ)
  pub comparison : Comparison

-- what is to be greatest, or least
pub record Goal (R : Type 0) : Type 0 where
  pub maximize : Bool
  pub terms : List (R → ℤ)

-- WHERE, REPEAT, SUCH THAT and the goal of a query
pub record PackageQuery (R : Type 0) : Type 0 where
  pub passes : R → Bool
  pub repeat : Option ℕ
  pub conjuncts : List (Conjunct R)
  pub goal : Option (Goal R)
