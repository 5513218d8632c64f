-- The sketch of a legal problem is legal.
use Rattle.std.proofs.Common.{◌≡◌, ℕ, ◌*◌, ◌^◌, ◌<◌, ◌≤◌, List, [], length, get_or, map, sym, ap, ◌∙◌, arith}
use Rattle.std.specs.Prelude.{ℤ, pos, unsigned_abs}
use Rattle.std.proofs.lemmas.List.{length-map, get_or-map, get_or_read}
use Rattle.lin_bound.specs.Sums.{count_below, int_at, nat_at}
use Rattle.lin_bound.specs.Problem.{ProblemData, variables, row_count, row_of, load, IsLegal}
use Rattle.lin_bound.proofs.Sums.{count-le, count-more}
use Rattle.sketch.specs.Parts.{part_at, mean, upper_sum, IsEven, ArePartsOf, IsPartOf}
use Rattle.sketch.specs.Sketched.{means_of, sketch_of}
use Rattle.sketch.proofs.Totals.{count-same, count_over_parts}
use Rattle.sketch.proofs.Cuts.{part-le, each_is_part, parts_length}
use Rattle.sketch.proofs.Means.{part_load}

-- an item of the list of parts is a part
pub item_is_part : (p : ProblemData) (parts : List (List ℕ)) (g : ℕ) (item slice : List ℕ) → ArePartsOf p parts → g < length parts → item ≡ get_or parts g item → slice ≡ item → IsPartOf p slice
item_is_part p parts g item slice cut h item_is slice_is =
    rw (slice_is ∙ get_or_read parts g item h item_is []) (each_is_part p parts g cut h)

-- the first uppers of a part are small together
pub uppers_small : (p : ProblemData) (part : List ℕ) → IsEven p → IsPartOf p part → (i : ℕ) → i ≤ length part → count_below (λ (k : ℕ). nat_at p.upper (nat_at part k)) i ≤ 10 ^ 12
uppers_small p part even is i h =
    let some = count-more (λ (k : ℕ). nat_at p.upper (nat_at part k)) i (length part) h in
    let all = part-le (nat_at p.upper) p part is in
    let sum = count-same (nat_at p.upper) (nat_at p.upper 0) (variables p) even.same in
    omega (arith, some, all, sum, even.small)

-- ---- loads

module _ (p : ProblemData) (parts : List (List ℕ)) (even : IsEven p) (cut : ArePartsOf p parts) where
  upper_at : (g : ℕ) → g < length parts → nat_at (map (upper_sum p.upper) parts) g ≡ upper_sum p.upper (part_at parts g)
  upper_at g h = get_or-map (upper_sum p.upper) parts g [] 0 h

  mean_at : (numbers : List ℤ) (g : ℕ) → g < length parts → int_at (means_of parts numbers) g ≡ mean numbers (part_at parts g)
  mean_at numbers g h = get_or-map (mean numbers) parts g [] (pos 0) h

  same_upper : (g : ℕ) → g < length parts → (k : ℕ) → k < length (part_at parts g) → nat_at p.upper (nat_at (part_at parts g) k) ≡ nat_at p.upper 0
  same_upper g h k l = even.same (nat_at (part_at parts g) k) ((each_is_part p parts g cut h).each k l)

  -- the sketch of a line has no greater load
  sketch_load : (numbers : List ℤ) → load (map (upper_sum p.upper) parts) (means_of parts numbers) (length parts) ≤ load p.upper numbers (variables p)
  sketch_load numbers =
      let weigh = λ (i : ℕ). nat_at p.upper i * unsigned_abs (int_at numbers i) in
      let of_part = λ (g : ℕ). count_below (λ (k : ℕ). weigh (nat_at (part_at parts g) k)) (length (part_at parts g)) in
      let one = λ (g : ℕ). nat_at (map (upper_sum p.upper) parts) g * unsigned_abs (int_at (means_of parts numbers) g) in
      let each : (g : ℕ) → g < length parts → one g ≤ of_part g = λ g h. rw (upper_at g h, mean_at numbers g h) (part_load p.upper (part_at parts g) numbers (nat_at p.upper 0) (same_upper g h)) in
      let all : count_below one (length parts) ≤ count_below of_part (length parts) = count-le one of_part (length parts) each in
      omega (arith, all, count_over_parts weigh p parts cut)

  row_at_sketch : (j : ℕ) → j < row_count p → row_of (sketch_of p parts) j ≡ means_of parts (row_of p j)
  row_at_sketch j h = get_or-map (means_of parts) p.rows j [] [] h

  pub sketch_legal : IsLegal p → IsLegal (sketch_of p parts)
  sketch_legal legal =
      let vars : variables (sketch_of p parts) ≡ length parts = length-map parts (mean p.cost) in
      let rows : row_count (sketch_of p parts) ≡ row_count p = length-map p.rows (means_of parts) in
      let uppers = length-map parts (upper_sum p.upper) in
      let few = parts_length p parts cut in
      record {
        rhs_each = legal.rhs_each ∙ sym rows;
        upper_each = uppers ∙ sym vars;
        row_each = λ j h. ap length (row_at_sketch j (omega (arith, h, rows))) ∙ length-map parts (mean (row_of p j)) ∙ sym vars;
        few_variables = omega (arith, vars, few, legal.few_variables);
        few_rows = omega (arith, rows, legal.few_rows);
        cost_load = rw vars (omega (arith, sketch_load p.cost, legal.cost_load));
        row_loads = λ j h.
            let within : j < row_count p = omega (arith, h, rows) in
            rw (row_at_sketch j within, vars) (omega (arith, sketch_load (row_of p j), legal.row_loads j within));
        rhs_small = λ j h. legal.rhs_small j (omega (arith, h, rows));
        upper_small = λ g h.
            let within : g < length parts = omega (arith, h, vars) in
            rw (upper_at g within) (uppers_small p (part_at parts g) even (each_is_part p parts g cut within) (length (part_at parts g)) (omega arith));
      }

  -- also of lists that are the sketch's
  pub made_legal : IsLegal p → (cost : List ℤ) (rows : List (List ℤ)) (rhs : List ℤ) (upper : List ℕ) → cost ≡ means_of parts p.cost → rows ≡ map (means_of parts) p.rows → rhs ≡ p.rhs → upper ≡ map (upper_sum p.upper) parts
      → IsLegal (record { cost = cost; rows = rows; rhs = rhs; upper = upper })
  made_legal legal cost rows rhs upper cost_is rows_is rhs_is upper_is = rw (cost_is, rows_is, rhs_is, upper_is) (sketch_legal legal)
