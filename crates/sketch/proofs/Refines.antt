-- The problem of a part of a legal problem is legal, and its rows keep what the whole problem's rows keep.
use Rattle.std.proofs.Common.{◌≡◌, ℕ, ◌+◌, ◌*◌, ◌^◌, ◌<◌, ◌≤◌, List, [], ◌∷◌, ◌++◌, length, map, refl, sym, ap, ◌∙◌, arith}
use Rattle.std.specs.Prelude.{ℤ, pos, ◌-ℤ◌, unsigned_abs}
use Rattle.std.specs.List.{range_with_len}
use Rattle.std.proofs.lemmas.Int.{ints, clamps}
use Rattle.std.proofs.lemmas.List.{length-map, get_or-map}
use Rattle.std.proofs.lemmas.List.FromFn.{length-map-range_with_len, map-range_with_len_more, get_or-map-range_with_len}
use Rattle.lin_bound.specs.Sums.{count_below, int_at, nat_at}
use Rattle.lin_bound.specs.Problem.{ProblemData, variables, row_count, row_of, load, IsLegal}
use Rattle.lin_bound.proofs.Sums.{count-ext}
use Rattle.sketch.specs.Parts.{IsPartOf}
use Rattle.sketch.specs.Refined.{numbers_at, side_left, held_side, refine_of}
use Rattle.sketch.proofs.Cuts.{part-le, part_length}

held_small : (z : ℤ) → unsigned_abs (held_side z) ≤ 2 ^ 61
held_small z = omega (arith, ints, clamps)

pub number_at : (part : List ℕ) (numbers : List ℤ) (k : ℕ) → k < length part → int_at (numbers_at part numbers) k ≡ int_at numbers (nat_at part k)
number_at part numbers k h = get_or-map (int_at numbers) part k 0 (pos 0) h

pub upper_at : (part uppers : List ℕ) (k : ℕ) → k < length part → nat_at (map (nat_at uppers) part) k ≡ nat_at uppers (nat_at part k)
upper_at part uppers k h = get_or-map (nat_at uppers) part k 0 0 h

pub side_at : (p : ProblemData) (others : List ℤ) (j : ℕ) → j < row_count p → int_at (map (side_left p others) (range_with_len 0 (row_count p))) j ≡ side_left p others j
side_at p others j h = get_or-map-range_with_len (side_left p others) 0 (row_count p) j j (pos 0) h (omega arith)

pub row_at_refine : (p : ProblemData) (part : List ℕ) (others : List ℤ) (j : ℕ) → j < row_count p → row_of (refine_of p part others) j ≡ numbers_at part (row_of p j)
row_at_refine p part others j h = get_or-map (numbers_at part) p.rows j [] [] h

-- a line's load over a part's members is no greater than over all variables
refine_load : (p : ProblemData) (part : List ℕ) (numbers : List ℤ) → IsPartOf p part → load (map (nat_at p.upper) part) (numbers_at part numbers) (length part) ≤ load p.upper numbers (variables p)
refine_load p part numbers is =
    let weigh = λ (i : ℕ). nat_at p.upper i * unsigned_abs (int_at numbers i) in
    let one = λ (k : ℕ). nat_at (map (nat_at p.upper) part) k * unsigned_abs (int_at (numbers_at part numbers) k) in
    let same : count_below one (length part) ≡ count_below (λ (k : ℕ). weigh (nat_at part k)) (length part) = count-ext one (λ (k : ℕ). weigh (nat_at part k)) (length part) (λ k h. rw (upper_at part p.upper k h, number_at part numbers k h) refl) in
    omega (arith, same, part-le weigh p part is)

pub refine_legal : (p : ProblemData) (part : List ℕ) (others : List ℤ) → IsLegal p → IsPartOf p part → IsLegal (refine_of p part others)
refine_legal p part others legal is =
    let vars : variables (refine_of p part others) ≡ length part = length-map part (int_at p.cost) in
    let rows : row_count (refine_of p part others) ≡ row_count p = length-map p.rows (numbers_at part) in
    let few = part_length p part is in
    record {
      rhs_each = length-map-range_with_len (side_left p others) 0 (row_count p) ∙ sym rows;
      upper_each = length-map part (nat_at p.upper) ∙ sym vars;
      row_each = λ j h. ap length (row_at_refine p part others j (omega (arith, h, rows))) ∙ length-map part (int_at (row_of p j)) ∙ sym vars;
      few_variables = omega (arith, vars, few, legal.few_variables);
      few_rows = omega (arith, rows, legal.few_rows);
      cost_load = rw vars (omega (arith, refine_load p part p.cost is, legal.cost_load));
      row_loads = λ j h.
          let within : j < row_count p = omega (arith, h, rows) in
          rw (row_at_refine p part others j within, vars) (omega (arith, refine_load p part (row_of p j) is, legal.row_loads j within));
      rhs_small = λ j h.
          let within : j < row_count p = omega (arith, h, rows) in
          rw (side_at p others j within) (held_small (int_at p.rhs j -ℤ int_at others j));
      upper_small = λ k h.
          let within : k < length part = omega (arith, h, vars) in
          rw (upper_at part p.upper k within) (legal.upper_small (nat_at part k) (is.each k within));
    }

-- also of lists that are the part's
pub made_legal : (p : ProblemData) (part : List ℕ) (others : List ℤ) → IsLegal p → IsPartOf p part → (cost : List ℤ) (rows : List (List ℤ)) (rhs : List ℤ) (upper : List ℕ) → cost ≡ numbers_at part p.cost → rows ≡ map (numbers_at part) p.rows → rhs ≡ map (side_left p others) (range_with_len 0 (row_count p)) → upper ≡ map (nat_at p.upper) part
    → IsLegal (record { cost = cost; rows = rows; rhs = rhs; upper = upper })
made_legal p part others legal is cost rows rhs upper cost_is rows_is rhs_is upper_is =
    rw (cost_is, rows_is, rhs_is, upper_is) (refine_legal p part others legal is)

-- the sides of the rows so far, and the next one
pub sides_more : (p : ProblemData) (others : List ℤ) (j : ℕ) → map (side_left p others) (range_with_len 0 (j + 1)) ≡ map (side_left p others) (range_with_len 0 j) ++ side_left p others j ∷ []
sides_more p others j = map-range_with_len_more (side_left p others) 0 j j (omega arith)
