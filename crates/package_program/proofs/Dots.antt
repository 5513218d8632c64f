-- Sums over rows and counts side by side.
use Rattle.std.proofs.Common.{◌≡◌, ℕ, zero, suc, ◌*◌, ◌<◌, ◌≤◌, List, [], ◌∷◌, length, map, sum, refl, sym, ap, ◌∙◌, Bool, true, false, ℤ, pos, ◌+ℤ◌, ◌-ℤ◌, ◌*ℤ◌, neg_ℤ, Option, arith}
use Rattle.std.proofs.lemmas.Int.{ints, unsigned_abs-mul}
use Rattle.std.proofs.lemmas.List.Sums.{sum_by-cons}
use Rattle.std.proofs.Math.IntN.{*ℤ_comm}
use Rattle.std.proofs.Math.Nat.{mul-le-mul}
use Rattle.std.specs.Int.RustNames.{unsigned_abs}
use Rattle.std.specs.List.{AllByRecursion}
use Rattle.lin_bound.proofs.Products.{mul-add_right, mul-sub_left}
use Rattle.lin_bound.specs.Problem.{value_at}
use Rattle.lin_bound.specs.Sums.{sum_below, int_at, nat_at}
use Rattle.package_query.specs.Meaning.{copies_give, pair_gives, total}
use Rattle.package_query.specs.Package.{AscendsFrom, RisesFrom, row_at}
use Rattle.package_program.specs.Program.{ids_of, per_copy, coefficient, signed, adds, sizes}
use Rattle.package_program.specs.Points.{package_at}
use Rattle.package_program.proofs.Candidates.{found_after, found_first}
use Rattle.package_program.proofs.PointLemmas.{package_rises}

-- the sum over rows and counts
abbrev pub dot : {R : Type 0} → (R → ℤ) → List (ℕ × R) → List ℕ → ℤ
dot g [] x = pos 0
dot g (entry ∷ rows) [] = pos 0
dot g (entry ∷ rows) (n ∷ x) = (pos n *ℤ g entry.1) +ℤ dot g rows x

-- pairs with greater ids have the same total without a row
total_after : {R : Type 0} (terms : List (R → ℤ)) (entry : ℕ × R) (rows : List (ℕ × R)) (low : ℕ) (pairs : List (ℕ × ℕ)) → entry.0 < low → RisesFrom low pairs
    → total terms (entry ∷ rows) pairs ≡ total terms rows pairs
total_after terms entry rows low [] less h = refl
total_after {R} terms entry rows low (pair ∷ pairs) less h =
    let first : row_at pair.0 (entry ∷ rows) ≡ row_at pair.0 rows = found_after entry pair.0 rows (omega (arith, less, h.0)) in
    let rest = total_after terms entry rows (suc pair.0) pairs (omega (arith, less, h.0)) h.2 in
    ap (λ (found : Option R). pair_gives terms pair.1 found +ℤ total terms (entry ∷ rows) pairs) first
    ∙ ap (λ (z : ℤ). pair_gives terms pair.1 (row_at pair.0 rows) +ℤ z) rest

-- so many copies give so many times what one gives
copies-times : {R : Type 0} (terms : List (R → ℤ)) (n : ℕ) (row : R) → copies_give terms n row ≡ pos n *ℤ per_copy terms row
copies-times [] n row = omega (arith, ints)
copies-times (term ∷ terms) n row =
    let rest = copies-times terms n row in
    let parts = mul-add_right (pos n) (pos 1 *ℤ term row) (per_copy terms row) in
    let one : pos 1 *ℤ term row ≡ term row = omega (arith, ints) in
    let moved = ap (λ (z : ℤ). pos n *ℤ z) one in
    omega (arith, ints, rest, parts, moved)

-- a package's total is that sum
pub total-dot : {R : Type 0} (terms : List (R → ℤ)) (low : ℕ) (rows : List (ℕ × R)) (x : List ℕ) → AscendsFrom low rows → length x ≡ length rows
    → total terms rows (package_at (ids_of rows) x) ≡ dot (per_copy terms) rows x
total-dot terms low [] [] up e = refl
total-dot terms low [] (n ∷ x) up e = absurd (omega (arith, e))
total-dot terms low (entry ∷ rows) [] up e = absurd (omega (arith, e))
total-dot terms low (entry ∷ rows) (zero ∷ x) up e =
    let without = total_after terms entry rows (suc entry.0) (package_at (ids_of rows) x) (omega arith) (package_rises (suc entry.0) rows x up.1) in
    let rest = total-dot terms (suc entry.0) rows x up.1 (omega (arith, e)) in
    omega (arith, ints, without, rest)
total-dot terms low (entry ∷ rows) (suc n ∷ x) up e =
    let without = total_after terms entry rows (suc entry.0) (package_at (ids_of rows) x) (omega arith) (package_rises (suc entry.0) rows x up.1) in
    let rest = total-dot terms (suc entry.0) rows x up.1 (omega (arith, e)) in
    let first = ap (pair_gives terms (suc n)) (found_first entry entry.0 rows refl) in
    let copies = copies-times terms (suc n) entry.1 in
    omega (arith, ints, without, rest, first, copies)

-- the first of a sum
sum-first : (f : ℕ → ℤ) (n : ℕ) → sum_below f (suc n) ≡ f 0 +ℤ sum_below (λ (i : ℕ). f (suc i)) n
sum-first f zero = omega (arith, ints)
sum-first f (suc n) = let rest = sum-first f n in omega (arith, ints, rest)

-- a program's sum at a point is that sum too
value-dot : {R : Type 0} (g : R → ℤ) (rows : List (ℕ × R)) (x : List ℕ) → length x ≡ length rows
    → value_at (map (λ (entry : ℕ × R). g entry.1) rows) x (length rows) ≡ dot g rows x
value-dot g [] [] e = refl
value-dot g [] (n ∷ x) e = absurd (omega (arith, e))
value-dot g (entry ∷ rows) [] e = absurd (omega (arith, e))
value-dot {R} g (entry ∷ rows) (n ∷ x) e =
    let rest = value-dot g rows x (omega (arith, e)) in
    let first = sum-first (λ (i : ℕ). int_at (map (λ (entry : ℕ × R). g entry.1) (entry ∷ rows)) i *ℤ pos (nat_at (n ∷ x) i)) (length rows) in
    let turned : g entry.1 *ℤ pos n ≡ pos n *ℤ g entry.1 = *ℤ_comm (g entry.1) (pos n) in
    omega (arith, ints, first, turned, rest)

dot-neg : {R : Type 0} (g : R → ℤ) (rows : List (ℕ × R)) (x : List ℕ) → dot (λ (row : R). neg_ℤ (g row)) rows x ≡ neg_ℤ (dot g rows x)
dot-neg g [] x = refl
dot-neg g (entry ∷ rows) [] = refl
dot-neg g (entry ∷ rows) (n ∷ x) =
    let rest = dot-neg g rows x in
    let turned : pos n *ℤ neg_ℤ (g entry.1) ≡ neg_ℤ (g entry.1) *ℤ pos n = *ℤ_comm (pos n) (neg_ℤ (g entry.1)) in
    let back : pos n *ℤ g entry.1 ≡ g entry.1 *ℤ pos n = *ℤ_comm (pos n) (g entry.1) in
    let minus : neg_ℤ (g entry.1) ≡ pos 0 -ℤ g entry.1 = omega (arith, ints) in
    let parts = mul-sub_left (pos 0) (g entry.1) (pos n) in
    let none : pos 0 *ℤ pos n ≡ pos 0 = omega (arith, ints) in
    let moved = ap (λ (z : ℤ). z *ℤ pos n) minus in
    omega (arith, ints, rest, turned, back, parts, none, moved)

dot-signed : {R : Type 0} (negated : Bool) (g : R → ℤ) (rows : List (ℕ × R)) (x : List ℕ) → dot (λ (row : R). signed negated (g row)) rows x ≡ signed negated (dot g rows x)
dot-signed true g rows x = dot-neg g rows x
dot-signed false g rows x = refl

-- where no row can occur, nothing adds anything
dot-bound : {R : Type 0} (bound : ℕ) (terms : List (R → ℤ)) (rows : List (ℕ × R)) (x : List ℕ) → AllByRecursion (λ (n : ℕ). n ≤ bound) x
    → dot (coefficient bound terms) rows x ≡ dot (per_copy terms) rows x
dot-bound (suc bound) terms rows x within = refl
dot-bound zero terms [] x within = refl
dot-bound zero terms (entry ∷ rows) [] within = refl
dot-bound zero terms (entry ∷ rows) (n ∷ x) within =
    let rest = dot-bound zero terms rows x within.1 in
    let none : n ≡ 0 = omega (arith, within.0) in
    let here = ap (λ (k : ℕ). pos k *ℤ per_copy terms entry.1) none in
    omega (arith, ints, rest, here)

signed-adds : {R : Type 0} (bound : ℕ) (terms : List (R → ℤ)) (negated : Bool) (rows : List (ℕ × R))
    → map (signed negated) (adds bound terms rows) ≡ map (λ (entry : ℕ × R). signed negated (coefficient bound terms entry.1)) rows
signed-adds bound terms negated [] = refl
signed-adds bound terms negated (entry ∷ rows) = ap (λ (l : List ℤ). signed negated (coefficient bound terms entry.1) ∷ l) (signed-adds bound terms negated rows)

-- so a program's row is the total of the package, negated or not
pub row-total : {R : Type 0} (bound : ℕ) (terms : List (R → ℤ)) (negated : Bool) (low : ℕ) (rows : List (ℕ × R)) (x : List ℕ) → AscendsFrom low rows → length x ≡ length rows
    → AllByRecursion (λ (n : ℕ). n ≤ bound) x
    → value_at (map (signed negated) (adds bound terms rows)) x (length rows) ≡ signed negated (total terms rows (package_at (ids_of rows) x))
row-total {R} bound terms negated low rows x up e within =
    ap (λ (row : List ℤ). value_at row x (length rows)) (signed-adds bound terms negated rows)
    ∙ value-dot (λ (row : R). signed negated (coefficient bound terms row)) rows x e
    ∙ dot-signed negated (coefficient bound terms) rows x
    ∙ ap (signed negated) (dot-bound bound terms rows x within ∙ sym (total-dot terms low rows x up e))

-- and no total is larger than the sizes of the rows allow
part_small : (bound n : ℕ) (z : ℤ) → n ≤ bound → unsigned_abs (pos n *ℤ z) ≤ bound * unsigned_abs z
part_small bound n z h =
    let size = unsigned_abs-mul (pos n) z in
    let more : n * unsigned_abs z ≤ bound * unsigned_abs z = mul-le-mul h (omega arith) in
    omega (arith, ints, size, more)

dot_small : {R : Type 0} (bound : ℕ) (terms : List (R → ℤ)) (rows : List (ℕ × R)) (x : List ℕ) → AllByRecursion (λ (n : ℕ). n ≤ bound) x
    → unsigned_abs (dot (per_copy terms) rows x) ≤ sum (sizes bound terms rows)
dot_small bound terms [] x within = omega (arith, ints)
dot_small bound terms (entry ∷ rows) [] within = omega (arith, ints)
dot_small bound terms (entry ∷ rows) (n ∷ x) within =
    let rest = dot_small bound terms rows x within.1 in
    let here = part_small bound n (per_copy terms entry.1) within.0 in
    let both = sum_by-cons (λ (k : ℕ). k) (bound * unsigned_abs (per_copy terms entry.1)) (sizes bound terms rows) in
    omega (arith, ints, rest, here, both)

pub total_small : {R : Type 0} (bound : ℕ) (terms : List (R → ℤ)) (low : ℕ) (rows : List (ℕ × R)) (x : List ℕ) → AscendsFrom low rows → length x ≡ length rows
    → AllByRecursion (λ (n : ℕ). n ≤ bound) x → unsigned_abs (total terms rows (package_at (ids_of rows) x)) ≤ sum (sizes bound terms rows)
total_small bound terms low rows x up e within = rw (total-dot terms low rows x up e) (dot_small bound terms rows x within)
