-- The program of a bound query fits the machine's numbers.
use Rattle.std.proofs.Common.{◌≡◌, ℕ, zero, suc, ◌+◌, ◌*◌, ◌^◌, ◌<◌, ◌≤◌, List, [], ◌∷◌, length, map, sum, replicate, get_or, ℤ, neg_ℤ, Bool, true, false, refl, sym, ap, ◌∙◌, length-append, arith}
use Rattle.std.proofs.lemmas.Int.{ints, clamps}
use Rattle.std.proofs.lemmas.List.{get_or-replicate, length-map, length-replicate}
use Rattle.std.proofs.lemmas.List.Sums.{sum_by-cons}
use Rattle.std.proofs.Math.Nat.{mul-le-mul}
use Rattle.std.specs.Int.RustNames.{unsigned_abs}
use Rattle.std.specs.List.{AllByRecursion, flat_map}
use Rattle.lin_bound.specs.Problem.{IsLegal, load}
use Rattle.lin_bound.specs.Sums.{count_below, int_at, nat_at}
use Rattle.package_query.specs.Package.{AscendsFrom}
use Rattle.package_query.specs.Query.{Conjunct}
use Rattle.table_schema.specs.declared.cells.Cell.{Cell}
use Rattle.bound_query.specs.Asks.{asks}
use Rattle.bound_query.specs.Fits.{rows_of, rows_for as count_for}
use Rattle.bound_query.specs.Terms.{compared, conjunct_of}
use Rattle.bound_query.specs.declared.queries.BoundConjunct.{BoundConjunct}
use Rattle.bound_query.specs.declared.queries.BoundQuery.{BoundQuery}
use Rattle.bound_query.specs.declared.queries.Op.{Op}
use Rattle.bound_query.specs.declared.queries.Op.TheVariants as ops
use Rattle.package_program.specs.Linear.{RiseFrom, IsLinear}
use Rattle.package_program.specs.Numbers.{IsSmall}
use Rattle.package_program.specs.Program.{Side, sides, per_copy, coefficient, adds, signed, held, sizes, ids_of, rows_for, rhs_for, problem_of, goal_terms, goal_negated, IsSmallSum, AreSumsSmall}
use Rattle.package_program.proofs.Sides.{Inequality, inequalities, inequalities_of, row_of, rhs_of, all-rows, all-rhs, all-both}

-- a small sum has small numbers
one_small : (bound n rest : ℕ) → suc bound * n + rest ≤ 2 ^ 60 → (n ≤ 2 ^ 60) × (rest ≤ 2 ^ 60)
one_small bound n rest h =
    let some : 1 ≤ suc bound = omega arith in
    let once : 1 * n ≤ suc bound * n = mul-le-mul some (omega arith) in
    (omega (arith, once, h), omega (arith, h))

pub adds_small : {R : Type 0} (bound : ℕ) (terms : List (R → ℤ)) (rows : List (ℕ × R)) → IsSmallSum bound rows terms → AllByRecursion IsSmall (adds bound terms rows)
adds_small bound terms [] small = tt
adds_small zero terms (row ∷ rows) small =
    let parts = sum_by-cons (λ (n : ℕ). n) (zero * unsigned_abs (per_copy terms row.1)) (sizes zero terms rows) in
    (omega (arith, ints), adds_small zero terms rows (omega (arith, parts, small)))
adds_small (suc bound) terms (row ∷ rows) small =
    let parts = sum_by-cons (λ (n : ℕ). n) (suc bound * unsigned_abs (per_copy terms row.1)) (sizes (suc bound) terms rows) in
    let both = one_small bound (unsigned_abs (per_copy terms row.1)) (sum (sizes (suc bound) terms rows)) (omega (arith, parts, small)) in
    (both.0, adds_small (suc bound) terms rows both.1)

-- the load of a row is the sum of its sizes
count-first : (f : ℕ → ℕ) (n : ℕ) → count_below f (suc n) ≡ f 0 + count_below (λ (i : ℕ). f (suc i)) n
count-first f zero = omega arith
count-first f (suc n) = let rest = count-first f n in omega (arith, rest)

one_size : {R : Type 0} (bound : ℕ) (terms : List (R → ℤ)) (negated : Bool) (row : R) → bound * unsigned_abs (signed negated (coefficient bound terms row)) ≡ bound * unsigned_abs (per_copy terms row)
one_size zero terms negated row = omega arith
one_size (suc bound) terms true row = ap (λ (n : ℕ). suc bound * n) (turned (per_copy terms row))
  where
    turned : (z : ℤ) → unsigned_abs (neg_ℤ z) ≡ unsigned_abs z
    turned z = omega (arith, ints)
one_size (suc bound) terms false row = refl

load-is : {R : Type 0} (bound : ℕ) (terms : List (R → ℤ)) (negated : Bool) (rows : List (ℕ × R))
    → load (replicate (length rows) bound) (map (signed negated) (adds bound terms rows)) (length rows) ≡ sum (sizes bound terms rows)
load-is bound terms negated [] = refl
load-is bound terms negated (row ∷ rows) =
    let rest = load-is bound terms negated rows in
    let first = count-first (λ (i : ℕ). nat_at (replicate (suc (length rows)) bound) i * unsigned_abs (int_at (map (signed negated) (adds bound terms (row ∷ rows))) i)) (length rows) in
    let here = one_size bound terms negated row.1 in
    let parts = sum_by-cons (λ (n : ℕ). n) (bound * unsigned_abs (per_copy terms row.1)) (sizes bound terms rows) in
    omega (arith, rest, first, here, parts)

load_small : {R : Type 0} (bound : ℕ) (terms : List (R → ℤ)) (negated : Bool) (rows : List (ℕ × R)) → IsSmallSum bound rows terms
    → load (replicate (length rows) bound) (map (signed negated) (adds bound terms rows)) (length rows) ≤ 2 ^ 60
load_small bound terms negated rows small = omega (arith, load-is bound terms negated rows, small)

-- the inequalities of small sums
sides_small : {R : Type 0} (bound : ℕ) (rows : List (ℕ × R)) (terms : List (R → ℤ)) (some : List Side) → IsSmallSum bound rows terms
    → AllByRecursion (λ (kept : Inequality R). IsSmallSum bound rows kept.terms) (map (λ (side : Side). record { terms = terms; side = side }) some)
sides_small bound rows terms [] small = tt
sides_small bound rows terms (side ∷ some) small = (small, sides_small bound rows terms some small)

all_small : {R : Type 0} (bound : ℕ) (rows : List (ℕ × R)) (conjuncts : List (Conjunct R)) → AllByRecursion (IsSmallSum bound rows) (map (λ (conjunct : Conjunct R). conjunct.terms) conjuncts)
    → AllByRecursion (λ (kept : Inequality R). IsSmallSum bound rows kept.terms) (flat_map inequalities_of conjuncts)
all_small bound rows [] small = tt
all_small {R} bound rows (conjunct ∷ conjuncts) small =
    all-both (λ (kept : Inequality R). IsSmallSum bound rows kept.terms) (inequalities_of conjunct) (flat_map inequalities_of conjuncts)
    (sides_small bound rows conjunct.terms (sides conjunct.comparison) small.0) (all_small bound rows conjuncts small.1)

row_length : {R : Type 0} (bound : ℕ) (rows : List (ℕ × R)) (kept : List (Inequality R)) (j : ℕ) → j < length kept → length (get_or (map (row_of bound rows) kept) j []) ≡ length rows
row_length bound rows [] j l = absurd (omega (arith, l))
row_length bound rows (one ∷ kept) zero l = length-map _ _ ∙ length-map _ _
row_length bound rows (one ∷ kept) (suc j) l = row_length bound rows kept j (omega (arith, l))

row_small : {R : Type 0} (bound : ℕ) (rows : List (ℕ × R)) (kept : List (Inequality R)) (j : ℕ) → j < length kept → AllByRecursion (λ (kept : Inequality R). IsSmallSum bound rows kept.terms) kept
    → load (replicate (length rows) bound) (get_or (map (row_of bound rows) kept) j []) (length rows) ≤ 2 ^ 60
row_small bound rows [] j l small = absurd (omega (arith, l))
row_small bound rows (one ∷ kept) zero l small = load_small bound one.terms one.side.negated rows small.0
row_small bound rows (one ∷ kept) (suc j) l small = row_small bound rows kept j (omega (arith, l)) small.1

held_small : (z : ℤ) → unsigned_abs (held z) ≤ 2 ^ 61
held_small z = omega (arith, ints, clamps)

side_small : {R : Type 0} (kept : List (Inequality R)) (j : ℕ) → unsigned_abs (int_at (map rhs_of kept) j) ≤ 2 ^ 61
side_small [] j = omega (arith, ints)
side_small (one ∷ kept) zero = held_small one.side.most
side_small (one ∷ kept) (suc j) = side_small kept j

-- how many rows there are
one_count : (conjunct : BoundConjunct) → length (inequalities_of (conjunct_of conjunct)) ≡ count_for conjunct.op
one_count conjunct = by_op conjunct.op conjunct.low conjunct.high
  where
    by_op : (op : Op) (low high : ℤ) → length (inequalities (conjunct_of conjunct).terms (compared op low high)) ≡ count_for op
    by_op ops.Le low high = refl
    by_op ops.Lt low high = refl
    by_op ops.Ge low high = refl
    by_op ops.Gt low high = refl
    by_op ops.Eq low high = refl
    by_op ops.Between low high = refl

all_count : (conjuncts : List BoundConjunct) → length (flat_map inequalities_of (map conjunct_of conjuncts)) ≡ rows_of conjuncts
all_count [] = refl
all_count (conjunct ∷ conjuncts) =
    length-append (inequalities_of (conjunct_of conjunct)) (flat_map inequalities_of (map conjunct_of conjuncts))
    ∙ omega (arith, one_count conjunct, all_count conjuncts)

some_rows : (op : Op) → 1 ≤ count_for op
some_rows ops.Le = omega arith
some_rows ops.Lt = omega arith
some_rows ops.Ge = omega arith
some_rows ops.Gt = omega arith
some_rows ops.Eq = omega arith
some_rows ops.Between = omega arith

pub few_conjuncts : (conjuncts : List BoundConjunct) → length conjuncts ≤ rows_of conjuncts
few_conjuncts [] = omega arith
few_conjuncts (conjunct ∷ conjuncts) = omega (arith, some_rows conjunct.op, few_conjuncts conjuncts)

pub program_legal : (query : BoundQuery) (rows : List (ℕ × List Cell)) → length rows ≤ 100000 → AreSumsSmall (asks query) query.row_bound rows → IsLegal (problem_of (asks query) query.row_bound rows)
program_legal query rows few small =
    let conditions = map conjunct_of query.conjuncts in
    let kept = flat_map inequalities_of conditions in
    let bound = query.row_bound in
    let variables : length (map (signed (goal_negated (asks query).goal)) (adds bound (goal_terms (asks query).goal) rows)) ≡ length rows = length-map _ _ ∙ length-map _ _ in
    let rows-are : flat_map (rows_for bound rows) conditions ≡ map (row_of bound rows) kept = all-rows bound rows conditions in
    let rhs-are : flat_map rhs_for conditions ≡ map rhs_of kept = all-rhs conditions in
    let rows_count : length (flat_map (rows_for bound rows) conditions) ≡ length kept = ap length rows-are ∙ length-map _ _ in
    let rhs_count : length (flat_map rhs_for conditions) ≡ length kept = ap length rhs-are ∙ length-map _ _ in
    record {
      rhs_each = rhs_count ∙ sym rows_count;
      upper_each = length-replicate _ _ ∙ sym variables;
      row_each = λ (j : ℕ) (l : j < length (flat_map (rows_for bound rows) conditions)).
          ap (λ (all : List (List ℤ)). length (get_or all j [])) rows-are ∙ row_length bound rows kept j (omega (arith, l, rows_count)) ∙ sym variables;
      few_variables = omega (arith, variables, few);
      few_rows = omega (arith, rows_count, all_count query.conjuncts, query.sizes.few_rows);
      cost_load = rw variables (load_small bound (goal_terms (asks query).goal) (goal_negated (asks query).goal) rows small.0);
      row_loads = λ (j : ℕ) (l : j < length (flat_map (rows_for bound rows) conditions)).
          let one : load (replicate (length rows) bound) (get_or (map (row_of bound rows) kept) j []) (length rows) ≤ 2 ^ 60 =
          row_small bound rows kept j (omega (arith, l, rows_count)) (all_small bound rows conditions small.1) in
          rw (rows-are, variables) one;
      rhs_small = λ (j : ℕ) (l : j < length (flat_map (rows_for bound rows) conditions)). rw rhs-are (side_small kept j);
      upper_small = λ (i : ℕ) (l : i < length (map (signed (goal_negated (asks query).goal)) (adds bound (goal_terms (asks query).goal) rows))).
          let upper = get_or-replicate (length rows) i bound 0 (omega (arith, l, variables)) in omega (arith, upper, query.copies.few_copies);
    }

-- and it has one id a variable
ids_rise : {R : Type 0} (low : ℕ) (rows : List (ℕ × R)) → AscendsFrom low rows → RiseFrom low (ids_of rows)
ids_rise low [] up = tt
ids_rise low (row ∷ rows) up = (up.0, ids_rise (suc row.0) rows up.1)

first_upper : (n bound : ℕ) → nat_at (replicate n bound) 0 ≤ bound
first_upper zero bound = omega arith
first_upper (suc n) bound = omega arith

pub program_linear : (query : BoundQuery) (rows : List (ℕ × List Cell)) → AscendsFrom 0 rows → IsLinear (record { problem = problem_of (asks query) query.row_bound rows; ids = ids_of rows })
program_linear query rows up =
    let bound = query.row_bound in
    let variables : length (map (signed (goal_negated (asks query).goal)) (adds bound (goal_terms (asks query).goal) rows)) ≡ length rows = length-map _ _ ∙ length-map _ _ in
    record {
      ascending = ids_rise 0 rows up;
      each = length-map _ _ ∙ sym variables;
      even = λ (i : ℕ) (l : i < length (map (signed (goal_negated (asks query).goal)) (adds bound (goal_terms (asks query).goal) rows))).
          get_or-replicate (length rows) i bound 0 (omega (arith, l, variables)) ∙ sym (get_or-replicate (length rows) 0 bound 0 (omega (arith, l, variables)));
      few = omega (arith, first_upper (length rows) bound, query.copies.few_copies);
    }
