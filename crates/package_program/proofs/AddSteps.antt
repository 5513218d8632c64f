-- Steps of the sums over candidates.
use Rattle.std.proofs.Common.{◌≡◌, ℕ, zero, suc, ◌+◌, ◌*◌, ◌<◌, ◌≤◌, List, [], ◌∷◌, ◌++◌, take, sum, length, get_or, ℤ, pos, refl, sym, ap, ◌∙◌, arith}
use Rattle.std.proofs.lemmas.List.{take_more, map-append, length-map}
use Rattle.std.proofs.lemmas.List.Sums.{sum_by_more}
use Rattle.std.specs.Borrow.{Bor}
use Rattle.std.specs.Int.RustNames.{unsigned_abs}
use Rattle.std.specs.List.{AllByRecursion}
use Rattle.table_schema.specs.declared.cells.Cell.{Cell}
use Rattle.package_program.specs.Program.{per_copy, coefficient, adds, sizes, most_sum}
use Rattle.package_program.specs.Translation.{entries_of, IsFirstAbove}

pub all_at : {X : Type 0} (P : X → Type 0) (xs : List X) (i : ℕ) (d : X) → i < length xs → AllByRecursion P xs → P (get_or xs i d)
all_at P [] i d l all = absurd (omega (arith, l))
all_at P (x ∷ xs) zero d l all = all.0
all_at P (x ∷ xs) (suc i) d l all = all_at P xs i d (omega (arith, l)) all.1

pub entry_at : (rows : List (Bor (ℕ × List Cell))) (i : ℕ) (row : Bor (ℕ × List Cell)) → get_or (entries_of rows) i row.now ≡ (get_or rows i row).now
entry_at [] i row = refl
entry_at (first ∷ rows) zero row = refl
entry_at (first ∷ rows) (suc i) row = entry_at rows i row

pub row_at_place : (rows : List (Bor (ℕ × List Cell))) (i : ℕ) (row : Bor (ℕ × List Cell)) (cells : List Cell) → row ≡ get_or rows i row → cells ≡ row.now.1 → cells ≡ (get_or (entries_of rows) i row.now).1
row_at_place rows i row cells is same =
    same ∙ ap (λ (b : Bor (ℕ × List Cell)). b.now.1) is ∙ ap (λ (entry : ℕ × List Cell). entry.1) (sym (entry_at rows i row))

size_at : {R : Type 0} (bound : ℕ) (terms : List (R → ℤ)) (rows : List (ℕ × R)) (i : ℕ) (row : ℕ × R) → i < length rows
    → get_or (sizes bound terms rows) i 0 ≡ bound * unsigned_abs (per_copy terms (get_or rows i row).1)
size_at bound terms [] i row l = absurd (omega (arith, l))
size_at bound terms (first ∷ rows) zero row l = refl
size_at bound terms (first ∷ rows) (suc i) row l = size_at bound terms rows i row (omega (arith, l))

pub size_more : {R : Type 0} (bound : ℕ) (terms : List (R → ℤ)) (rows : List (ℕ × R)) (i : ℕ) (row : ℕ × R) (one : ℤ) → i < length rows → one ≡ per_copy terms (get_or rows i row).1
    → sum (take i (sizes bound terms rows)) + bound * unsigned_abs one ≡ sum (take (i + 1) (sizes bound terms rows))
size_more bound terms rows i row one l is =
    let whole = sum_by_more (λ (n : ℕ). n) (sizes bound terms rows) i 0 (rw length-map l) in
    let here = size_at bound terms rows i row l in
    let size : bound * unsigned_abs one ≡ bound * unsigned_abs (per_copy terms (get_or rows i row).1) = ap (λ (z : ℤ). bound * unsigned_abs z) is in
    omega (arith, whole, here, size)

coefficient_is : {R : Type 0} (bound : ℕ) (terms : List (R → ℤ)) (row : R) (found one : ℤ) → one ≡ per_copy terms row → (bound ≡ 0 → found ≡ pos 0) → (1 ≤ bound → found ≡ one) → found ≡ coefficient bound terms row
coefficient_is zero terms row found one is none some = none refl
coefficient_is (suc bound) terms row found one is none some = some (omega arith) ∙ is

pub adds_more : {R : Type 0} (bound : ℕ) (terms : List (R → ℤ)) (rows : List (ℕ × R)) (i : ℕ) (row : ℕ × R) (found one : ℤ) → i < length rows → one ≡ per_copy terms (get_or rows i row).1
    → (bound ≡ 0 → found ≡ pos 0) → (1 ≤ bound → found ≡ one) → adds bound terms (take i rows) ++ found ∷ [] ≡ adds bound terms (take (i + 1) rows)
adds_more bound terms rows i row found one l is none some =
    ap (λ (z : ℤ). adds bound terms (take i rows) ++ z ∷ []) (coefficient_is bound terms (get_or rows i row).1 found one is none some)
    ∙ sym (ap (adds bound terms) (take_more rows i row l) ∙ map-append _ (take i rows) (get_or rows i row ∷ []))

-- the first sum above the limit
pub first_above : {R : Type 0} (bound : ℕ) (terms : List (R → ℤ)) (rows : List (ℕ × R)) (i : ℕ) (row : ℕ × R) (one : ℤ) (total more : ℕ) → i < length rows → one ≡ per_copy terms (get_or rows i row).1
    → total ≡ sum (take i (sizes bound terms rows)) → total ≤ most_sum → more ≡ bound * unsigned_abs one → most_sum < total + more
    → IsFirstAbove (sizes bound terms rows) (total + more)
first_above bound terms rows i row one total more l is so_far small size above = record {
  place = i;
  inside = rw length-map l;
  so_far = omega (arith, so_far, small);
  reached = let next = size_more bound terms rows i row one l is in omega (arith, next, so_far, size);
  above = above;
}
