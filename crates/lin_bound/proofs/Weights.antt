-- Weights that are made row by row.
use Rattle.std.proofs.Common.{◌≡◌, ℕ, suc, ◌+◌, ◌*◌, ◌<◌, ◌≤◌, List, [], length, arith, add-one, ap, ◌∙◌, get_or-set_same, get_or-set_other, below_more, mul-le-mul_left}
use Rattle.std.specs.Prelude.{ℤ, pos, ◌-ℤ◌, ◌*ℤ◌, unsigned_abs, slice_set, slice_index_or, slice_range}
use Rattle.std.proofs.lemmas.Int.{ints}
use Rattle.std.proofs.lemmas.List.Edits.{length-between, get_or-between}
use Rattle.lin_bound.specs.Sums.{sum_below, int_at, nat_at}
use Rattle.lin_bound.specs.Problem.{ProblemData, variables, row_count, row_of, coefficient_of}
use Rattle.lin_bound.specs.Bound.{share_of}
use Rattle.lin_bound.specs.Weights.{weight_by, mass_by, mass, IsLight, AreWeights}
use Rattle.lin_bound.specs.declared.mult.Mult.{Mult}
use Rattle.lin_bound.proofs.Sizes.{abs-sub, abs-times, abs-sum_below}
use Rattle.lin_bound.proofs.Sums.{count-more}

-- the sizes of the first n rows are kept
abbrev pub AreSizes : List (List ℤ) → List ℕ → ℕ → Type 0
AreSizes rows sizes n = (j i : ℕ) → j < n → i < length (slice_index_or rows j [])
    → unsigned_abs (int_at (slice_index_or rows j []) i) ≤ nat_at sizes j

pub sizes_more : (rows : List (List ℤ)) (sizes : List ℕ) (row size : ℕ) → row < length sizes → AreSizes rows sizes row
    → ((i : ℕ) → i < length (slice_index_or rows row []) → unsigned_abs (int_at (slice_index_or rows row []) i) ≤ size)
    → AreSizes rows (slice_set sizes row size) (row + 1)
sizes_more rows sizes row size within before now j i below =
    below_more (λ (k : ℕ). (i : ℕ) → i < length (slice_index_or rows k []) → unsigned_abs (int_at (slice_index_or rows k []) i) ≤ nat_at (slice_set sizes row size) k) row
    (λ k lt i h. omega (arith, before k i lt h, get_or-set_other sizes row k size 0 (λ e. absurd (omega (arith, e, lt)))))
    (λ i h. omega (arith, now i h, get_or-set_same sizes row size 0 within))
    j below i

-- while a row is taken: the weights before a place are less, the others are as they were
pub record IsTaking (old now : List ℤ) (multiplier : ℕ) (coefficients : List ℤ) (place : ℕ) : Type 0 where
  pub taken : (k : ℕ) → k < place → int_at now k ≡ int_at old k -ℤ (pos multiplier *ℤ int_at coefficients k)
  pub kept : (k : ℕ) → place ≤ k → int_at now k ≡ int_at old k

pub take_more : (old now : List ℤ) (multiplier : ℕ) (coefficients : List ℤ) (place : ℕ) (next : ℤ) → place < length now
    → next ≡ int_at now place -ℤ (pos multiplier *ℤ int_at coefficients place) → IsTaking old now multiplier coefficients place
    → IsTaking old (slice_set now place next) multiplier coefficients (place + 1)
take_more old now multiplier coefficients place next within next_is taking = record {
  taken = below_more (λ (k : ℕ). int_at (slice_set now place next) k ≡ int_at old k -ℤ (pos multiplier *ℤ int_at coefficients k)) place
      (λ k lt. get_or-set_other now place k next (pos 0) (λ e. absurd (omega (arith, e, lt))) ∙ taking.taken k lt)
      (get_or-set_same now place next (pos 0) within ∙ (next_is ∙ ap (λ (w : ℤ). w -ℤ (pos multiplier *ℤ int_at coefficients place)) (taking.kept place (omega arith))));
  kept = λ k h. get_or-set_other now place k next (pos 0) (λ e. absurd (omega (arith, e, h))) ∙ taking.kept k (omega (arith, h));
}

-- the next weight fits
pub next_fits : (old now : List ℤ) (multiplier : ℕ) (coefficients : List ℤ) (place most : ℕ)
    → ((k : ℕ) → k < length coefficients → unsigned_abs (int_at old k) + multiplier * unsigned_abs (int_at coefficients k) < most)
    → place < length coefficients → IsTaking old now multiplier coefficients place
    → unsigned_abs (int_at now place) + multiplier * unsigned_abs (int_at coefficients place) < most
next_fits old now multiplier coefficients place most fits within taking =
    omega (arith, fits place within, ap (λ (w : ℤ). unsigned_abs w) (taking.kept place (omega arith)))

-- no larger than the mass
pub weight_by_size : (p : ProblemData) (mult : Mult) (n i : ℕ) → unsigned_abs (weight_by p mult n i) ≤ mass_by p mult n i
weight_by_size p mult n i =
    let taken = abs-sum_below (share_of p mult i) (λ (j : ℕ). nat_at mult.lambda j * unsigned_abs (coefficient_of p j i)) n (λ j h. omega (arith, abs-times (nat_at mult.lambda j) (coefficient_of p j i))) in
    omega (arith, abs-sub (pos mult.d *ℤ int_at p.cost i) (sum_below (share_of p mult i) n), abs-times mult.d (int_at p.cost i), taken)

-- fewer rows have no more mass
pub mass_more : (p : ProblemData) (mult : Mult) (n i : ℕ) → n ≤ row_count p → mass_by p mult n i ≤ mass p mult i
mass_more p mult n i h =
    omega (arith, count-more (λ (j : ℕ). nat_at mult.lambda j * unsigned_abs (coefficient_of p j i)) n (row_count p) h)

-- what is at a place of a block
pub piece_at : (xs : List ℤ) (start count k : ℕ) → k < count → int_at (slice_range xs start (start + count)) k ≡ int_at xs (start + k)
piece_at xs start count k h = get_or-between xs start (start + count) k (pos 0) (omega (arith, h))

-- the costs of a block fit
pub costs_fit : (p : ProblemData) (mult : Mult) (most start count : ℕ) → IsLight p mult most → start + count ≤ variables p
    → (k : ℕ) → k < count → mult.d * unsigned_abs (int_at (slice_range p.cost start (start + count)) k) < most
costs_fit p mult most start count light block k h =
    omega (arith, light (start + k) (omega (arith, block, h)), ap (λ (z : ℤ). mult.d * unsigned_abs z) (piece_at p.cost start count k h))

-- and make the weights without rows
pub costs_set : (p : ProblemData) (mult : Mult) (start count : ℕ) (weights : List ℤ) → length weights ≡ count
    → ((k : ℕ) → k < length weights → int_at weights k ≡ pos mult.d *ℤ int_at (slice_range p.cost start (start + count)) k)
    → AreWeights p mult 0 start weights
costs_set p mult start count weights each set k h =
    let piece = ap (λ (z : ℤ). pos mult.d *ℤ z) (piece_at p.cost start count k (omega (arith, h, each))) in
    omega (arith, ints, set k h, piece)

-- a row fits beside the weights of the rows before it
pub row_fits : (p : ProblemData) (mult : Mult) (most row start count : ℕ) (weights : List ℤ) → IsLight p mult most
    → start + count ≤ variables p → row < row_count p → length weights ≡ count → AreWeights p mult row start weights
    → (k : ℕ) → k < count
    → unsigned_abs (int_at weights k) + nat_at mult.lambda row * unsigned_abs (int_at (slice_range (row_of p row) start (start + count)) k) < most
row_fits p mult most row start count weights light block below each are k h =
    omega (arith, light (start + k) (omega (arith, block, h)), mass_more p mult (suc row) (start + k) (omega (arith, below)), weight_by_size p mult row (start + k), ap (λ (w : ℤ). unsigned_abs w) (are k (omega (arith, h, each))), ap (λ (z : ℤ). nat_at mult.lambda row * unsigned_abs z) (piece_at (row_of p row) start count k h))

-- and when it is taken, the weights are those of one row more
pub row_taken : (p : ProblemData) (mult : Mult) (row start count : ℕ) (old now : List ℤ) → length old ≡ count → length now ≡ count
    → AreWeights p mult row start old
    → ((k : ℕ) → k < length now → int_at now k ≡ int_at old k -ℤ (pos (nat_at mult.lambda row) *ℤ int_at (slice_range (row_of p row) start (start + count)) k))
    → AreWeights p mult (row + 1) start now
row_taken p mult row start count old now old_each now_each are taken =
    let next : AreWeights p mult (suc row) start now = λ k h.
    omega (arith, ints, taken k h, are k (omega (arith, h, old_each, now_each)), ap (λ (z : ℤ). pos (nat_at mult.lambda row) *ℤ z) (piece_at (row_of p row) start count k (omega (arith, h, now_each)))) in
    rw add-one next

-- one row more adds no more than its multiplier times its size
pub mass_next : (p : ProblemData) (mult : Mult) (row total part size : ℕ) → ((i : ℕ) → i < variables p → mass_by p mult row i ≤ total)
    → ((i : ℕ) → i < variables p → unsigned_abs (coefficient_of p row i) ≤ size) → part ≡ nat_at mult.lambda row * size
    → (i : ℕ) → i < variables p → mass_by p mult (row + 1) i ≤ total + part
mass_next p mult row total part size before sized part_is =
    let next : (i : ℕ) → i < variables p → mass_by p mult (suc row) i ≤ total + part = λ i h.
    omega (arith, before i h, part_is, mul-le-mul_left (nat_at mult.lambda row) (sized i h)) in
    rw add-one next

-- the same, of a piece of a row that is known by its equations
pub block_fits : (p : ProblemData) (mult : Mult) (most row start count : ℕ) (weights whole : List ℤ) (multipliers : List ℕ) → IsLight p mult most
    → start + count ≤ variables p → row < row_count p → length weights ≡ count → AreWeights p mult row start weights
    → whole ≡ row_of p row → multipliers ≡ mult.lambda → length (row_of p row) ≡ variables p
    → (k : ℕ) → k < length (slice_range whole start (start + count))
    → unsigned_abs (int_at weights k) + nat_at multipliers row * unsigned_abs (int_at (slice_range whole start (start + count)) k) < most
block_fits p mult most row start count weights whole multipliers light block below each are whole_is multipliers_is row_each k h =
    let piece_each = length-between whole start (start + count) (omega (arith, block, row_each, ap (λ (xs : List ℤ). length xs) whole_is)) in
    rw (whole_is, multipliers_is) (row_fits p mult most row start count weights light block below each are k (omega (arith, h, piece_each)))

pub block_taken : (p : ProblemData) (mult : Mult) (row start count : ℕ) (old now whole : List ℤ) (multipliers : List ℕ) → length old ≡ count → length now ≡ count
    → AreWeights p mult row start old → whole ≡ row_of p row → multipliers ≡ mult.lambda
    → ((k : ℕ) → k < length now → int_at now k ≡ int_at old k -ℤ (pos (nat_at multipliers row) *ℤ int_at (slice_range whole start (start + count)) k))
    → AreWeights p mult (row + 1) start now
block_taken p mult row start count old now whole multipliers old_each now_each are whole_is multipliers_is taken =
    row_taken p mult row start count old now old_each now_each are (rw (whole_is, multipliers_is) at taken)
