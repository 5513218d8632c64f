-- Laws of sums over the places below a number.
use Rattle.std.proofs.Common.{◌≡◌, ◌≢◌, ℕ, zero, suc, ◌+◌, ◌*◌, ◌<◌, ◌≤◌, refl, sym, ap, arith, mul-add, inl, inr}
use Rattle.std.specs.Prelude.{ℤ, pos, ◌+ℤ◌, ◌-ℤ◌, ◌*ℤ◌, ◌≤ℤ◌}
use Rattle.std.proofs.lemmas.Int.{ints}
use Rattle.std.proofs.lemmas.Bool.{cases_lt}
use Rattle.std.proofs.Math.IntN.{*ℤ-zero, zero-*ℤ}
use Rattle.lin_bound.specs.Sums.{sum_below, count_below}
use Rattle.lin_bound.proofs.Products.{mul-add_left, mul-add_right}

-- equal at each place, equal in sum
pub sum-ext : (f g : ℕ → ℤ) (n : ℕ) → ((i : ℕ) → i < n → f i ≡ g i) → sum_below f n ≡ sum_below g n
sum-ext f g zero same = refl
sum-ext f g (suc n) same =
    omega (arith, ints, sum-ext f g n (λ i h. same i (omega arith)), same n (omega arith))

-- no greater at any place, no greater in sum
pub sum-le : (f g : ℕ → ℤ) (n : ℕ) → ((i : ℕ) → i < n → f i ≤ℤ g i) → sum_below f n ≤ℤ sum_below g n
sum-le f g zero below = omega (arith, ints)
sum-le f g (suc n) below =
    omega (arith, ints, sum-le f g n (λ i h. below i (omega arith)), below n (omega arith))

-- the sum of zeros
pub sum-zero : (f : ℕ → ℤ) (n : ℕ) → ((i : ℕ) → i < n → f i ≡ pos 0) → sum_below f n ≡ pos 0
sum-zero f zero none = refl
sum-zero f (suc n) none =
    omega (arith, ints, sum-zero f n (λ i h. none i (omega arith)), none n (omega arith))

-- the sum of zeros and of one place
pub sum-single : (f : ℕ → ℤ) (j n : ℕ) → j < n → ((i : ℕ) → i < n → i ≢ j → f i ≡ pos 0) → sum_below f n ≡ f j
sum-single f j zero within others = absurd (omega arith)
sum-single f j (suc n) within others =
    elim (cases_lt j n) [
      | inl lt ↦ omega (arith, ints, sum-single f j n lt (λ i h ne. others i (omega arith) ne), others n (omega arith) (λ e. absurd (omega (arith, e))))
      | inr le ↦
          let at : n ≡ j = omega arith in
          omega (arith, ints, sum-zero f n (λ i h. others i (omega arith) (λ e. absurd (omega (arith, e, at)))), ap f at)
    ]

-- the sum of sums
pub sum-add : (f g : ℕ → ℤ) (n : ℕ) → sum_below (λ i. f i +ℤ g i) n ≡ sum_below f n +ℤ sum_below g n
sum-add f g zero = refl
sum-add f g (suc n) = omega (arith, ints, sum-add f g n)

-- the sum of differences
pub sum-sub : (f g : ℕ → ℤ) (n : ℕ) → sum_below (λ i. f i -ℤ g i) n ≡ sum_below f n -ℤ sum_below g n
sum-sub f g zero = refl
sum-sub f g (suc n) = omega (arith, ints, sum-sub f g n)

-- a factor on the left comes out of a sum
pub sum-scale : (c : ℤ) (f : ℕ → ℤ) (n : ℕ) → sum_below (λ i. c *ℤ f i) n ≡ c *ℤ sum_below f n
sum-scale c f zero = sym (*ℤ-zero c)
sum-scale c f (suc n) = omega (arith, ints, sum-scale c f n, mul-add_right c (sum_below f n) (f n))

-- and on the right
pub sum-scale_right : (c : ℤ) (f : ℕ → ℤ) (n : ℕ) → sum_below (λ i. f i *ℤ c) n ≡ sum_below f n *ℤ c
sum-scale_right c f zero = sym (zero-*ℤ c)
sum-scale_right c f (suc n) = omega (arith, ints, sum-scale_right c f n, mul-add_left (sum_below f n) (f n) c)

-- two sums change their order
pub sum-swap : (f : ℕ → ℕ → ℤ) (n m : ℕ) → sum_below (λ i. sum_below (λ j. f i j) m) n ≡ sum_below (λ j. sum_below (λ i. f i j) n) m
sum-swap f zero m = sym (sum-zero (λ j. pos 0) m (λ i h. refl))
sum-swap f (suc n) m =
    omega (arith, ints, sum-swap f n m, sum-add (λ j. sum_below (λ i. f i j) n) (λ j. f n j) m)

-- the same of sizes: no greater at any place
pub count-le : (f g : ℕ → ℕ) (n : ℕ) → ((i : ℕ) → i < n → f i ≤ g i) → count_below f n ≤ count_below g n
count-le f g zero below = omega arith
count-le f g (suc n) below =
    omega (arith, count-le f g n (λ i h. below i (omega arith)), below n (omega arith))

-- no greater than so much at any place
pub count-most : (f : ℕ → ℕ) (most n : ℕ) → ((i : ℕ) → i < n → f i ≤ most) → count_below f n ≤ n * most
count-most f most zero below = omega arith
count-most f most (suc n) below =
    omega (arith, count-most f most n (λ i h. below i (omega arith)), below n (omega arith))

-- more places, no smaller a sum
pub count-more : (f : ℕ → ℕ) (m n : ℕ) → m ≤ n → count_below f m ≤ count_below f n
count-more f m zero h = omega (arith, ap (count_below f) (none m h))
  where
    none : (m : ℕ) → m ≤ 0 → m ≡ 0
    none m h = omega arith
count-more f m (suc n) h =
    elim (cases_lt m (suc n)) [
      | inl lt ↦ omega (arith, count-more f m n (omega arith))
      | inr le ↦
          let at : m ≡ suc n = omega arith in omega (arith, ap (count_below f) at)
    ]

-- equal at each place
pub count-ext : (f g : ℕ → ℕ) (n : ℕ) → ((i : ℕ) → i < n → f i ≡ g i) → count_below f n ≡ count_below g n
count-ext f g zero same = refl
count-ext f g (suc n) same =
    omega (arith, count-ext f g n (λ i h. same i (omega arith)), same n (omega arith))

-- the sum of sums
pub count-add : (f g : ℕ → ℕ) (n : ℕ) → count_below (λ i. f i + g i) n ≡ count_below f n + count_below g n
count-add f g zero = refl
count-add f g (suc n) = omega (arith, count-add f g n)

-- a factor comes out of a sum
pub count-scale : (c : ℕ) (f : ℕ → ℕ) (n : ℕ) → count_below (λ i. c * f i) n ≡ c * count_below f n
count-scale c f zero = omega arith
count-scale c f (suc n) = omega (arith, count-scale c f n, mul-add c (count_below f n) (f n))

-- the sum of zeros
pub count-zero : (f : ℕ → ℕ) (n : ℕ) → ((i : ℕ) → i < n → f i ≡ 0) → count_below f n ≡ 0
count-zero f zero none = refl
count-zero f (suc n) none =
    omega (arith, count-zero f n (λ i h. none i (omega arith)), none n (omega arith))

-- two sums change their order
pub count-swap : (f : ℕ → ℕ → ℕ) (n m : ℕ) → count_below (λ i. count_below (λ j. f i j) m) n ≡ count_below (λ j. count_below (λ i. f i j) n) m
count-swap f zero m = sym (count-zero (λ j. 0) m (λ i h. refl))
count-swap f (suc n) m =
    omega (arith, count-swap f n m, count-add (λ j. count_below (λ i. f i j) n) (λ j. f n j) m)
