-- Private: the search of the plain program in `src/search.rt`.
-- What the plain search has found, and what is left for it to try.
use Rattle.std.specs.Prelude.{◌≡◌, ℕ, ◌==◌, List, [], ◌∷◌, ◌++◌, ℤ, ◌≤ℤ◌, ◌<ℤ◌, Option, None, Some, ◌⊎◌, if◌then◌else◌}
use Rattle.package_query.specs.Query.{PackageQuery}
use Rattle.package_query.specs.Meaning.{Meets, worth}
use Rattle.package_query.specs.declared.plain.PlainBest.{PlainBest}

-- so many copies of one row, as the part of a package
abbrev pub copies_of : ℕ → ℕ → List (ℕ × ℕ)
copies_of id count = if count == 0 then [] else (id, count) ∷ []

-- each pair is of one of these rows, in their order
abbrev pub TakesFrom : {R : Type 0} → List (ℕ × R) → List (ℕ × ℕ) → Type 0
TakesFrom [] pairs = pairs ≡ []
TakesFrom (entry ∷ entries) [] = Unit {0}
TakesFrom (entry ∷ entries) (pair ∷ pairs) =
    ((pair.0 ≡ entry.0) × TakesFrom entries pairs) ⊎ TakesFrom entries (pair ∷ pairs)

-- what was found meets the query, and has its worth beside it
abbrev pub IsFound : {R : Type 0} → PackageQuery R → List (ℕ × R) → Option PlainBest → Type 0
IsFound query rows None = Unit {0}
IsFound query rows (Some best) =
    Meets query rows best.pairs.items × (best.worth ≡ worth query rows best.pairs.items)

-- something was found that is worth at least this
abbrev pub Reaches : Option PlainBest → ℤ → Type 0
Reaches None least = ⊥
Reaches (Some best) least = least ≤ℤ best.worth

-- after these packages were tried: it is at least as good as before, and as each of them that meets the query
pub record Improves {R : Type 0} (query : PackageQuery R) (rows : List (ℕ × R)) (Tried : List (ℕ × ℕ) → Type 0) (before after : Option PlainBest) : Type 0 where
  pub found : IsFound query rows after
  pub keeps : (least : ℤ) → Reaches before least → Reaches after least
  pub covers : (pairs : List (ℕ × ℕ)) → Tried pairs → Meets query rows pairs → Reaches after (worth query rows pairs)

-- the packages that begin with the chosen pairs and go on over the rows that are left
abbrev pub Extends : {R : Type 0} → List (ℕ × ℕ) → List (ℕ × R) → List (ℕ × ℕ) → Type 0
Extends chosen left pairs = (tail : List (ℕ × ℕ)) × (pairs ≡ chosen ++ tail) × TakesFrom left tail

-- of what was found and a candidate, the one that is worth more; the first if both are worth the same
abbrev pub IsBetterOf : Option PlainBest → PlainBest → PlainBest → Type 0
IsBetterOf None candidate better = better ≡ candidate
IsBetterOf (Some best) candidate better =
    ((better ≡ best) × (candidate.worth ≤ℤ best.worth))
    ⊎ ((better ≡ candidate) × (best.worth <ℤ candidate.worth))
