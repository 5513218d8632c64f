-- A table and the packages over it.
use Rattle.std.proofs.Common.{◌≡◌, ◌≢◌, ℕ, suc, ◌+◌, ◌<◌, ◌≤◌, ◌^◌, List, [], ◌∷◌, Some, length, ℤ, inl, inr, refl, sym, ap, ◌∙◌, arith}
use Rattle.std.specs.List.{AllByRecursion}
use Rattle.std.proofs.lemmas.Bool.{cases_eq, cond-false, ne_eqb}
use Rattle.package_query.specs.Package.{IsPackage, RisesFrom, AscendsFrom, row_at}
use Rattle.package_query.specs.Query.{PackageQuery}
use Rattle.package_query.specs.Meaning.{IsAllowed}
use Rattle.package_query.specs.Plain.{query_of, IsSmall, IsSmallPackage}
use Rattle.package_query.specs.Search.{TakesFrom}
use Rattle.package_query.specs.declared.plain.PlainQuery.{PlainQuery}

-- the table has the row of this pair
pub record IsListed {R : Type 0} (rows : List (ℕ × R)) (pair : ℕ × ℕ) : Type 0 where
  pub row : R
  pub found : row_at pair.0 rows ≡ Some row

-- another row's entry before it changes nothing
row_at-other : {R : Type 0} (id : ℕ) (entry : ℕ × R) (entries : List (ℕ × R)) → entry.0 ≢ id → row_at id (entry ∷ entries) ≡ row_at id entries
row_at-other id entry entries ne = cond-false _ _ _ (ne_eqb entry.0 id ne)

-- a row that isn't the first is among the others
IsListed-rest : {R : Type 0} (entry : ℕ × R) (entries : List (ℕ × R)) (pair : ℕ × ℕ) → entry.0 ≢ pair.0 → IsListed (entry ∷ entries) pair → IsListed entries pair
IsListed-rest entry entries pair ne listed = record {
  row = listed.row;
  found = sym (row_at-other pair.0 entry entries ne) ∙ listed.found;
}

-- an id that is found is no lower than the ids begin
listed_above : {R : Type 0} (rows : List (ℕ × R)) (low : ℕ) (pair : ℕ × ℕ) → AscendsFrom low rows → IsListed rows pair → low ≤ pair.0
listed_above [] low pair ascends listed = cc
listed_above (entry ∷ entries) low pair ascends listed =
    elim (cases_eq entry.0 pair.0) [
      | inl same ↦ omega (arith, same, ascends.0)
      | inr other ↦ omega (arith, ascends.0, listed_above entries (suc entry.0) pair ascends.1 (IsListed-rest entry entries pair other listed))
    ]

-- pairs above the first row's id are all of the other rows
listed_rest : {R : Type 0} (entry : ℕ × R) (entries : List (ℕ × R)) (low : ℕ) (pairs : List (ℕ × ℕ)) → entry.0 < low → RisesFrom low pairs → AllByRecursion (IsListed (entry ∷ entries)) pairs → AllByRecursion (IsListed entries) pairs
listed_rest entry entries low [] above rises listed = tt
listed_rest entry entries low (pair ∷ pairs) above rises listed =
    let other : entry.0 ≢ pair.0 = omega (arith, above, rises.0) in
    let higher : entry.0 < suc pair.0 = omega (arith, above, rises.0) in
    (IsListed-rest entry entries pair other listed.0, listed_rest entry entries (suc pair.0) pairs higher rises.2 listed.1)

-- a package whose rows the table has takes them in the table's order
pub TakesFrom-listed : {R : Type 0} (rows : List (ℕ × R)) (low from : ℕ) (pairs : List (ℕ × ℕ)) → AscendsFrom low rows → RisesFrom from pairs → AllByRecursion (IsListed rows) pairs → TakesFrom rows pairs
TakesFrom-listed [] low from [] ascends rises listed = refl
TakesFrom-listed [] low from (pair ∷ pairs) ascends rises listed = let found = listed.0.found in cc
TakesFrom-listed (entry ∷ entries) low from [] ascends rises listed = tt
TakesFrom-listed (entry ∷ entries) low from (pair ∷ pairs) ascends rises listed =
    elim (cases_eq entry.0 pair.0) [
      | inl same ↦
          let higher : entry.0 < suc pair.0 = omega (arith, same) in
          inl (sym same, TakesFrom-listed entries (suc entry.0) (suc pair.0) pairs ascends.1 rises.2 (listed_rest entry entries (suc pair.0) pairs higher rises.2 listed.1))
      | inr other ↦
          let first = IsListed-rest entry entries pair other listed.0 in
          let above = listed_above entries (suc entry.0) pair ascends.1 first in
          let higher : entry.0 < suc pair.0 = omega (arith, above) in
          inr (TakesFrom-listed entries (suc entry.0) from (pair ∷ pairs) ascends.1 rises (first, listed_rest entry entries (suc pair.0) pairs higher rises.2 listed.1))
    ]

-- such a package has no more pairs than the table has rows
length-TakesFrom : {R : Type 0} (rows : List (ℕ × R)) (pairs : List (ℕ × ℕ)) → TakesFrom rows pairs → length pairs ≤ length rows
length-TakesFrom [] pairs takes = let none : length pairs ≡ 0 = ap length takes in omega (arith, none)
length-TakesFrom (entry ∷ entries) [] takes = omega arith
length-TakesFrom (entry ∷ entries) (pair ∷ pairs) takes =
    elim takes [
      | inl h ↦ omega (arith, length-TakesFrom entries pairs h.1)
      | inr h ↦ omega (arith, length-TakesFrom entries (pair ∷ pairs) h)
    ]

-- the table has each row that a query allows
listed_from_allowed : {R : Type 0} (query : PackageQuery R) (rows : List (ℕ × R)) (pairs : List (ℕ × ℕ)) → AllByRecursion (IsAllowed query rows) pairs → AllByRecursion (IsListed rows) pairs
listed_from_allowed query rows [] allowed = tt
listed_from_allowed query rows (pair ∷ pairs) allowed =
    (record { row = allowed.0.row; found = allowed.0.found }, listed_from_allowed query rows pairs allowed.1)

-- a package of allowed pairs takes them in the table's order
pub TakesFrom-allowed : {R : Type 0} (query : PackageQuery R) (rows : List (ℕ × R)) (pairs : List (ℕ × ℕ)) → AscendsFrom 0 rows → IsPackage pairs → AllByRecursion (IsAllowed query rows) pairs → TakesFrom rows pairs
TakesFrom-allowed query rows pairs ascends rises allowed =
    TakesFrom-listed rows 0 0 pairs ascends rises (listed_from_allowed query rows pairs allowed)

-- few copies of each row are allowed
few_copies : (plain : PlainQuery) (rows : List (ℕ × List ℤ)) (pairs : List (ℕ × ℕ)) → plain.repeat < 2 ^ 20 → AllByRecursion (IsAllowed (query_of plain) rows) pairs → AllByRecursion (λ (pair : ℕ × ℕ). pair.1 ≤ 2 ^ 20) pairs
few_copies plain rows [] few allowed = tt
few_copies plain rows (pair ∷ pairs) few allowed =
    let copies : pair.1 ≤ plain.repeat + 1 = allowed.0.copies in
    (omega (arith, few, copies), few_copies plain rows pairs few allowed.1)

-- the sums of a package of allowed pairs stay small
pub IsSmallPackage-allowed : (plain : PlainQuery) (rows : List (ℕ × List ℤ)) (pairs : List (ℕ × ℕ)) → IsSmall plain rows → AscendsFrom 0 rows → IsPackage pairs → AllByRecursion (IsAllowed (query_of plain) rows) pairs → IsSmallPackage pairs
IsSmallPackage-allowed plain rows pairs small ascends rises allowed = record {
  few_pairs = omega (arith, small.few_rows, length-TakesFrom rows pairs (TakesFrom-allowed (query_of plain) rows pairs ascends rises allowed));
  few_copies = few_copies plain rows pairs small.few_copies allowed;
}
