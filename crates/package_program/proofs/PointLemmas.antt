-- Points and the packages that they stand for.
use Rattle.std.proofs.Common.{◌≡◌, ℕ, zero, suc, ◌+◌, ◌<◌, ◌≤◌, List, [], ◌∷◌, length, refl, sym, ap, ◌∙◌, subst, Option, Some, None, IsTrue, IfSome, arith, ⊎_elim}
use Rattle.std.proofs.lemmas.Bool.{cases_lt}
use Rattle.std.specs.List.{AllByRecursion}
use Rattle.package_query.specs.Meaning.{IsAllowed}
use Rattle.package_query.specs.Package.{AscendsFrom, RisesFrom}
use Rattle.package_query.specs.Query.{PackageQuery}
use Rattle.package_program.specs.Program.{ids_of}
use Rattle.package_program.specs.Points.{package_at}
use Rattle.package_program.proofs.Candidates.{found_after, found_first, found_from}

-- ids that rise from a later one rise from an earlier one
pub rises_from : (low next : ℕ) (pairs : List (ℕ × ℕ)) → low ≤ next → RisesFrom next pairs → RisesFrom low pairs
rises_from low next [] h rises = tt
rises_from low next (pair ∷ pairs) h rises = (omega (arith, h, rises.0), rises.1, rises.2)

pub package_rises : {R : Type 0} (low : ℕ) (rows : List (ℕ × R)) (x : List ℕ) → AscendsFrom low rows → RisesFrom low (package_at (ids_of rows) x)
package_rises low [] x h = tt
package_rises low (entry ∷ rows) [] h = tt
package_rises low (entry ∷ rows) (zero ∷ x) h = rises_from low (suc entry.0) (package_at (ids_of rows) x) (omega (arith, h.0)) (package_rises (suc entry.0) rows x h.1)
package_rises low (entry ∷ rows) (suc n ∷ x) h = (h.0, omega arith, package_rises (suc entry.0) rows x h.1)

-- a pair that is allowed among rows is allowed among more of them, and if its id is greater also the other way
pub allowed_after : {R : Type 0} (query : PackageQuery R) (entry : ℕ × R) (rows : List (ℕ × R)) (low : ℕ) (pairs : List (ℕ × ℕ)) → entry.0 < low → RisesFrom low pairs
    → AllByRecursion (IsAllowed query rows) pairs → AllByRecursion (IsAllowed query (entry ∷ rows)) pairs
allowed_after query entry rows low [] less h all = tt
allowed_after query entry rows low (pair ∷ pairs) less h all = (
  record { row = all.0.row; found = found_after entry pair.0 rows (omega (arith, less, h.0)) ∙ all.0.found; passes = all.0.passes; copies = all.0.copies },
  allowed_after query entry rows (suc pair.0) pairs (omega (arith, less, h.0)) h.2 all.1,
)

allowed_before : {R : Type 0} (query : PackageQuery R) (entry : ℕ × R) (rows : List (ℕ × R)) (low : ℕ) (pairs : List (ℕ × ℕ)) → entry.0 < low → RisesFrom low pairs
    → AllByRecursion (IsAllowed query (entry ∷ rows)) pairs → AllByRecursion (IsAllowed query rows) pairs
allowed_before query entry rows low [] less h all = tt
allowed_before query entry rows low (pair ∷ pairs) less h all = (
  record { row = all.0.row; found = sym (found_after entry pair.0 rows (omega (arith, less, h.0))) ∙ all.0.found; passes = all.0.passes; copies = all.0.copies },
  allowed_before query entry rows (suc pair.0) pairs (omega (arith, less, h.0)) h.2 all.1,
)

copies_allowed : (repeat : Option ℕ) (bound n : ℕ) → IfSome repeat (λ (k : ℕ). bound ≤ k + 1) → n ≤ bound → IfSome repeat (λ (k : ℕ). n ≤ k + 1)
copies_allowed None bound n h less = tt
copies_allowed (Some k) bound n h less = omega (arith, h, less)

-- the pairs of a point whose counts are within the bound are allowed
pub point_allowed : {R : Type 0} (query : PackageQuery R) (bound low : ℕ) (rows : List (ℕ × R)) (x : List ℕ) → AscendsFrom low rows
    → AllByRecursion (λ (entry : ℕ × R). IsTrue (query.passes entry.1)) rows → IfSome query.repeat (λ (k : ℕ). bound ≤ k + 1) → AllByRecursion (λ (n : ℕ). n ≤ bound) x
    → AllByRecursion (IsAllowed query rows) (package_at (ids_of rows) x)
point_allowed query bound low [] x up passes repeat within = tt
point_allowed query bound low (entry ∷ rows) [] up passes repeat within = tt
point_allowed query bound low (entry ∷ rows) (zero ∷ x) up passes repeat within =
    allowed_after query entry rows (suc entry.0) (package_at (ids_of rows) x) (omega arith) (package_rises (suc entry.0) rows x up.1)
    (point_allowed query bound (suc entry.0) rows x up.1 passes.1 repeat within.1)
point_allowed query bound low (entry ∷ rows) (suc n ∷ x) up passes repeat within = (
  record { row = entry.1; found = found_first entry entry.0 rows refl; passes = passes.0; copies = copies_allowed query.repeat bound (suc n) repeat within.0 },
  allowed_after query entry rows (suc entry.0) (package_at (ids_of rows) x) (omega arith) (package_rises (suc entry.0) rows x up.1)
      (point_allowed query bound (suc entry.0) rows x up.1 passes.1 repeat within.1),
)

-- each package whose pairs are allowed is that of some point
pub record HasPoint {R : Type 0} (bound : ℕ) (rows : List (ℕ × R)) (pairs : List (ℕ × ℕ)) : Type 0 where
  pub x : List ℕ
  pub each : length x ≡ length rows
  pub within : AllByRecursion (λ (n : ℕ). n ≤ bound) x
  pub same : package_at (ids_of rows) x ≡ pairs

no_row : {R : Type 0} (query : PackageQuery R) (pair : ℕ × ℕ) → IsAllowed query [] pair → ⊥
no_row query pair allowed = let none = allowed.found in cc

-- a count of at least 1 is a pair of the package
takes : {R : Type 0} (entry : ℕ × R) (rows : List (ℕ × R)) (n : ℕ) (x : List ℕ) → 1 ≤ n → package_at (ids_of (entry ∷ rows)) (n ∷ x) ≡ (entry.0, n) ∷ package_at (ids_of rows) x
takes entry rows zero x h = absurd (omega (arith, h))
takes entry rows (suc n) x h = refl

later_rises : (low : ℕ) (one : ℕ × ℕ) (others : List (ℕ × ℕ)) → low < one.0 → RisesFrom low (one ∷ others) → RisesFrom (suc low) (one ∷ others)
later_rises low one others later h = (omega (arith, later), h.1, h.2)

pub point_of : {R : Type 0} (query : PackageQuery R) (bound low : ℕ) (rows : List (ℕ × R)) (pairs : List (ℕ × ℕ)) → AscendsFrom low rows → RisesFrom low pairs
    → AllByRecursion (IsAllowed query rows) pairs → AllByRecursion (λ (pair : ℕ × ℕ). pair.1 ≤ bound) pairs → HasPoint bound rows pairs
point_of query bound low [] [] up rises all within = record { x = []; each = refl; within = tt; same = refl }
point_of query bound low [] (pair ∷ pairs) up rises all within = absurd (no_row query pair all.0)
point_of query bound low (entry ∷ rows) [] up rises all within =
    let rest = point_of query bound (suc entry.0) rows [] up.1 tt tt tt in
    record { x = zero ∷ rest.x; each = omega (arith, rest.each); within = (omega arith, rest.within); same = rest.same }
point_of query bound low (entry ∷ rows) (pair ∷ pairs) up rises all within = ⊎_elim
    (λ (later : entry.0 < pair.0).
    let next : RisesFrom (suc entry.0) (pair ∷ pairs) = (omega (arith, later), rises.1, rises.2) in
    let rest = point_of query bound (suc entry.0) rows (pair ∷ pairs) up.1 next
    (allowed_before query entry rows (suc entry.0) (pair ∷ pairs) (omega arith) next all) within in
    record { x = zero ∷ rest.x; each = omega (arith, rest.each); within = (omega arith, rest.within); same = rest.same })
    (λ (here : pair.0 ≤ entry.0).
    let from : entry.0 ≤ pair.0 = found_from entry.0 pair.0 all.0.row (entry ∷ rows) (omega arith, up.1) all.0.found in
    let is : pair.0 ≡ entry.0 = omega (arith, here, from) in
    let next : RisesFrom (suc entry.0) pairs = rw is at rises.2 in
    let rest = point_of query bound (suc entry.0) rows pairs up.1 next
    (allowed_before query entry rows (suc entry.0) pairs (omega arith) next all.1) within.1 in
    let first : (entry.0, pair.1) ≡ (pair.0, pair.1) = ap (λ (i : ℕ). (i, pair.1)) (sym is) in
    record {
      x = pair.1 ∷ rest.x;
      each = omega (arith, rest.each);
      within = (within.0, rest.within);
      same = takes entry rows pair.1 rest.x rises.1 ∙ ap (λ (l : List (ℕ × ℕ)). (entry.0, pair.1) ∷ l) rest.same ∙ ap (λ (p : ℕ × ℕ). p ∷ pairs) first;
    })
    (cases_lt entry.0 pair.0)

-- and of one alone
never_later : {R : Type 0} (id n : ℕ) (rows : List (ℕ × R)) (x : List ℕ) (pairs : List (ℕ × ℕ)) → AscendsFrom (suc id) rows → package_at (ids_of rows) x ≡ (id, n) ∷ pairs → ⊥
never_later id n rows x pairs up e =
    let rises = subst (λ (l : List (ℕ × ℕ)). RisesFrom (suc id) l) e (package_rises (suc id) rows x up) in omega (arith, rises.0)

pub one_point : {R : Type 0} (low : ℕ) (rows : List (ℕ × R)) (x y : List ℕ) → AscendsFrom low rows → length x ≡ length rows → length y ≡ length rows
    → package_at (ids_of rows) x ≡ package_at (ids_of rows) y → x ≡ y
one_point low [] [] [] up l m e = refl
one_point low [] (n ∷ x) y up l m e = absurd (omega (arith, l))
one_point low [] [] (n ∷ y) up l m e = absurd (omega (arith, m))
one_point low (entry ∷ rows) [] y up l m e = absurd (omega (arith, l))
one_point low (entry ∷ rows) (n ∷ x) [] up l m e = absurd (omega (arith, m))
one_point low (entry ∷ rows) (zero ∷ x) (zero ∷ y) up l m e =
    ap (λ (xs : List ℕ). zero ∷ xs) (one_point (suc entry.0) rows x y up.1 (omega (arith, l)) (omega (arith, m)) e)
one_point low (entry ∷ rows) (zero ∷ x) (suc k ∷ y) up l m e = absurd (never_later entry.0 (suc k) rows x (package_at (ids_of rows) y) up.1 e)
one_point low (entry ∷ rows) (suc n ∷ x) (zero ∷ y) up l m e = absurd (never_later entry.0 (suc n) rows y (package_at (ids_of rows) x) up.1 (sym e))
one_point low (entry ∷ rows) (suc n ∷ x) (suc k ∷ y) up l m e =
    let tails : package_at (ids_of rows) x ≡ package_at (ids_of rows) y = cc in
    let pair : ◌≡◌ {A = ℕ × ℕ} (entry.0, suc n) (entry.0, suc k) = cc in
    let second : suc n ≡ suc k = ap (λ (p : ℕ × ℕ). p.1) pair in
    let heads : n ≡ k = cc in
    let rest : x ≡ y = one_point (suc entry.0) rows x y up.1 (omega (arith, l)) (omega (arith, m)) tails in cc
