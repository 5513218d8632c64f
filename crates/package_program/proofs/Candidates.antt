-- The rows that pass, among all rows of a table.
use Rattle.std.proofs.Common.{◌≡◌, ◌≢◌, ℕ, suc, ◌<◌, ◌≤◌, List, [], ◌∷◌, refl, sym, ap, ◌∙◌, Bool, true, false, eqb, cond, Option, Some, None, IsTrue, arith, ⊎_elim, ◌⊎◌, inl, inr, ℤ, ◌+ℤ◌}
use Rattle.std.proofs.lemmas.Bool.Decides.{eqb_tells}
use Rattle.std.specs.List.{AllByRecursion}
use Rattle.package_query.specs.Meaning.{pair_gives, total, IsAllowed}
use Rattle.package_query.specs.Package.{AscendsFrom, row_at}
use Rattle.package_query.specs.Query.{PackageQuery}
use Rattle.package_program.specs.Program.{candidates}

pub tells : (b : Bool) → (b ≡ true) ⊎ (b ≡ false)
tells true = inl refl
tells false = inr refl

-- a row is found after one with a lesser id
pub found_after : {R : Type 0} (entry : ℕ × R) (id : ℕ) (rows : List (ℕ × R)) → entry.0 < id → row_at id (entry ∷ rows) ≡ row_at id rows
found_after entry id rows h = ⊎_elim
    (λ (same : (eqb entry.0 id ≡ true) × (entry.0 ≡ id)). absurd (omega (arith, same.1, h)))
    (λ (apart : (eqb entry.0 id ≡ false) × (entry.0 ≢ id)). ap (λ (b : Bool). cond b (Some entry.1) (row_at id rows)) apart.0)
    (eqb_tells entry.0 id)

pub found_first : {R : Type 0} (entry : ℕ × R) (id : ℕ) (rows : List (ℕ × R)) → entry.0 ≡ id → row_at id (entry ∷ rows) ≡ Some entry.1
found_first entry id rows h = ⊎_elim
    (λ (same : (eqb entry.0 id ≡ true) × (entry.0 ≡ id)). ap (λ (b : Bool). cond b (Some entry.1) (row_at id rows)) same.0)
    (λ (apart : (eqb entry.0 id ≡ false) × (entry.0 ≢ id)). absurd (apart.1 h))
    (eqb_tells entry.0 id)

found_other : {R : Type 0} (entry : ℕ × R) (id : ℕ) (rows : List (ℕ × R)) → eqb entry.0 id ≡ false → row_at id (entry ∷ rows) ≡ row_at id rows
found_other entry id rows h = ap (λ (b : Bool). cond b (Some entry.1) (row_at id rows)) h

none_found : {R : Type 0} (row : R) → ◌≡◌ {A = Option R} None (Some row) → ⊥
none_found row e = cc

-- no row has a lesser id than the first
pub found_from : {R : Type 0} (low id : ℕ) (row : R) (rows : List (ℕ × R)) → AscendsFrom low rows → row_at id rows ≡ Some row → low ≤ id
found_from low id row [] h found = absurd (none_found row found)
found_from low id row (entry ∷ rows) h found = ⊎_elim
    (λ (same : (eqb entry.0 id ≡ true) × (entry.0 ≡ id)). omega (arith, same.1, h.0))
    (λ (apart : (eqb entry.0 id ≡ false) × (entry.0 ≢ id)).
    let later : suc entry.0 ≤ id = found_from (suc entry.0) id row rows h.1 (sym (found_other entry id rows apart.0) ∙ found) in
    omega (arith, later, h.0))
    (eqb_tells entry.0 id)

-- a row that passes is a candidate, and one that doesn't is none
kept : {R : Type 0} (query : PackageQuery R) (entry : ℕ × R) (rows : List (ℕ × R)) → query.passes entry.1 ≡ true → candidates query (entry ∷ rows) ≡ entry ∷ candidates query rows
kept query entry rows h = ap (λ (b : Bool). cond b (entry ∷ candidates query rows) (candidates query rows)) h

left_out : {R : Type 0} (query : PackageQuery R) (entry : ℕ × R) (rows : List (ℕ × R)) → query.passes entry.1 ≡ false → candidates query (entry ∷ rows) ≡ candidates query rows
left_out query entry rows h = ap (λ (b : Bool). cond b (entry ∷ candidates query rows) (candidates query rows)) h

pub ascend_from : {R : Type 0} (low next : ℕ) (rows : List (ℕ × R)) → low ≤ next → AscendsFrom next rows → AscendsFrom low rows
ascend_from low next [] h up = tt
ascend_from low next (entry ∷ rows) h up = (omega (arith, h, up.0), up.1)

pub candidates_ascend : {R : Type 0} (query : PackageQuery R) (low : ℕ) (rows : List (ℕ × R)) → AscendsFrom low rows → AscendsFrom low (candidates query rows)
candidates_ascend query low [] h = tt
candidates_ascend {R} query low (entry ∷ rows) h =
    let rest : AscendsFrom (suc entry.0) (candidates query rows) = candidates_ascend query (suc entry.0) rows h.1 in
    ⊎_elim
    (λ (yes : query.passes entry.1 ≡ true).
    let whole : AscendsFrom low (entry ∷ candidates query rows) = (h.0, rest) in rw (kept query entry rows yes) whole)
    (λ (no : query.passes entry.1 ≡ false). rw (left_out query entry rows no) (ascend_from low (suc entry.0) (candidates query rows) (omega (arith, h.0)) rest))
    (tells (query.passes entry.1))

pub all_pass : {R : Type 0} (query : PackageQuery R) (rows : List (ℕ × R)) → AllByRecursion (λ (entry : ℕ × R). IsTrue (query.passes entry.1)) (candidates query rows)
all_pass query [] = tt
all_pass {R} query (entry ∷ rows) =
    let rest : AllByRecursion (λ (entry : ℕ × R). IsTrue (query.passes entry.1)) (candidates query rows) = all_pass query rows in
    ⊎_elim
    (λ (yes : query.passes entry.1 ≡ true).
    let whole : AllByRecursion (λ (entry : ℕ × R). IsTrue (query.passes entry.1)) (entry ∷ candidates query rows) = (rw yes refl, rest) in rw (kept query entry rows yes) whole)
    (λ (no : query.passes entry.1 ≡ false). rw (left_out query entry rows no) rest)
    (tells (query.passes entry.1))

-- a candidate is found in the table
pub found_among_rows : {R : Type 0} (query : PackageQuery R) (low id : ℕ) (row : R) (rows : List (ℕ × R)) → AscendsFrom low rows → row_at id (candidates query rows) ≡ Some row → row_at id rows ≡ Some row
found_among_rows query low id row [] h found = found
found_among_rows query low id row (entry ∷ rows) h found = ⊎_elim
    (λ (yes : query.passes entry.1 ≡ true).
    let here : row_at id (entry ∷ candidates query rows) ≡ Some row = sym (ap (row_at id) (kept query entry rows yes)) ∙ found in
    ⊎_elim
    (λ (same : (eqb entry.0 id ≡ true) × (entry.0 ≡ id)).
    found_first entry id rows same.1 ∙ sym (found_first entry id (candidates query rows) same.1) ∙ here)
    (λ (apart : (eqb entry.0 id ≡ false) × (entry.0 ≢ id)).
    found_other entry id rows apart.0 ∙ found_among_rows query (suc entry.0) id row rows h.1 (sym (found_other entry id (candidates query rows) apart.0) ∙ here))
    (eqb_tells entry.0 id))
    (λ (no : query.passes entry.1 ≡ false).
    let later : row_at id rows ≡ Some row = found_among_rows query (suc entry.0) id row rows h.1 (sym (ap (row_at id) (left_out query entry rows no)) ∙ found) in
    found_after entry id rows (found_from (suc entry.0) id row rows h.1 later) ∙ later)
    (tells (query.passes entry.1))

-- and a row of the table that passes is found among the candidates
passes_not : {R : Type 0} (query : PackageQuery R) (one other : R) → query.passes one ≡ false → IsTrue (query.passes other) → Some one ≡ Some other → ⊥
passes_not query one other fails passes same = let is : one ≡ other = cc in let both : query.passes one ≡ query.passes other = ap query.passes is in cc

pub found_among_candidates : {R : Type 0} (query : PackageQuery R) (id : ℕ) (row : R) (rows : List (ℕ × R)) → IsTrue (query.passes row) → row_at id rows ≡ Some row → row_at id (candidates query rows) ≡ Some row
found_among_candidates query id row [] passes found = found
found_among_candidates query id row (entry ∷ rows) passes found = ⊎_elim
    (λ (same : (eqb entry.0 id ≡ true) × (entry.0 ≡ id)).
    let is : Some entry.1 ≡ Some row = sym (found_first entry id rows same.1) ∙ found in
    ⊎_elim
    (λ (yes : query.passes entry.1 ≡ true).
    ap (row_at id) (kept query entry rows yes) ∙ found_first entry id (candidates query rows) same.1 ∙ is)
    (λ (no : query.passes entry.1 ≡ false). absurd (passes_not query entry.1 row no passes is))
    (tells (query.passes entry.1)))
    (λ (apart : (eqb entry.0 id ≡ false) × (entry.0 ≢ id)).
    let rest : row_at id (candidates query rows) ≡ Some row = found_among_candidates query id row rows passes (sym (found_other entry id rows apart.0) ∙ found) in
    ⊎_elim
    (λ (yes : query.passes entry.1 ≡ true).
    ap (row_at id) (kept query entry rows yes) ∙ found_other entry id (candidates query rows) apart.0 ∙ rest)
    (λ (no : query.passes entry.1 ≡ false). ap (row_at id) (left_out query entry rows no) ∙ rest)
    (tells (query.passes entry.1)))
    (eqb_tells entry.0 id)

-- the same of the pairs of a package, and of its total
pub allowed_among_rows : {R : Type 0} (query : PackageQuery R) (rows : List (ℕ × R)) (pairs : List (ℕ × ℕ)) → AscendsFrom 0 rows
    → AllByRecursion (IsAllowed query (candidates query rows)) pairs → AllByRecursion (IsAllowed query rows) pairs
allowed_among_rows query rows [] h all = tt
allowed_among_rows query rows (pair ∷ pairs) h all = (
  record { row = all.0.row; found = found_among_rows query 0 pair.0 all.0.row rows h all.0.found; passes = all.0.passes; copies = all.0.copies },
  allowed_among_rows query rows pairs h all.1,
)

pub allowed_among_candidates : {R : Type 0} (query : PackageQuery R) (rows : List (ℕ × R)) (pairs : List (ℕ × ℕ))
    → AllByRecursion (IsAllowed query rows) pairs → AllByRecursion (IsAllowed query (candidates query rows)) pairs
allowed_among_candidates query rows [] all = tt
allowed_among_candidates query rows (pair ∷ pairs) all = (
  record { row = all.0.row; found = found_among_candidates query pair.0 all.0.row rows all.0.passes all.0.found; passes = all.0.passes; copies = all.0.copies },
  allowed_among_candidates query rows pairs all.1,
)

pub total_among : {R : Type 0} (query : PackageQuery R) (terms : List (R → ℤ)) (rows : List (ℕ × R)) (pairs : List (ℕ × ℕ)) → AscendsFrom 0 rows
    → AllByRecursion (IsAllowed query (candidates query rows)) pairs → total terms rows pairs ≡ total terms (candidates query rows) pairs
total_among query terms rows [] h all = refl
total_among {R} query terms rows (pair ∷ pairs) h all =
    let found : row_at pair.0 rows ≡ row_at pair.0 (candidates query rows) = found_among_rows query 0 pair.0 all.0.row rows h all.0.found ∙ sym all.0.found in
    ap (λ (found : Option R). pair_gives terms pair.1 found +ℤ total terms rows pairs) found
    ∙ ap (λ (z : ℤ). pair_gives terms pair.1 (row_at pair.0 (candidates query rows)) +ℤ z) (total_among query terms rows pairs h all.1)
