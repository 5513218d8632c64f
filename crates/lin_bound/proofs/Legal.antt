-- A problem of known numbers is legal where a test that computes says so.
use Rattle.std.proofs.Common.{◌≡◌, ℕ, zero, suc, ◌^◌, ◌<◌, Bool, true, ◌&&◌, length, ap, ◌∙◌, arith, inl, inr, eqb, ltb, leb}
use Rattle.std.specs.Prelude.{unsigned_abs}
use Rattle.std.proofs.lemmas.Bool.{cases_lt, and_parts}
use borrow.Author.Tests.{eqb-true, ltb-true, leb-true}
use Rattle.lin_bound.specs.Sums.{int_at, nat_at}
use Rattle.lin_bound.specs.Problem.{ProblemData, variables, row_count, row_of, load, IsLegal}

-- a test of each number below another
abbrev pub each_below : (ℕ → Bool) → ℕ → Bool
each_below test zero = true
each_below test (suc n) = each_below test n && test n

each-from_test : (test : ℕ → Bool) (n : ℕ) → each_below test n ≡ true → (i : ℕ) → i < n → test i ≡ true
each-from_test test zero passes i h = absurd (omega arith)
each-from_test test (suc n) passes i h =
    let parts = and_parts (each_below test n) (test n) passes in
    elim (cases_lt i n) [
      | inl lt ↦ each-from_test test n parts.0 i lt
      | inr le ↦
          let at : i ≡ n = omega arith in ap test at ∙ parts.1
    ]

-- the lengths and counts of a legal problem, as one test
abbrev pub shape_test : ProblemData → Bool
shape_test p = (eqb (length p.rhs) (row_count p) && eqb (length p.upper) (variables p))
    && (ltb (variables p) (2 ^ 32) && leb (row_count p) 64)

-- what it says of one row, as a test
abbrev pub row_test : ProblemData → ℕ → Bool
row_test p j = eqb (length (row_of p j)) (variables p)
    && (leb (load p.upper (row_of p j) (variables p)) (2 ^ 60) && leb (unsigned_abs (int_at p.rhs j)) (2 ^ 61))

-- and all of it
abbrev pub legal_test : ProblemData → Bool
legal_test p = (shape_test p && leb (load p.upper p.cost (variables p)) (2 ^ 60))
    && (each_below (row_test p) (row_count p) && each_below (λ (i : ℕ). leb (nat_at p.upper i) (10 ^ 12)) (variables p))

pub legal-from_test : (p : ProblemData) → legal_test p ≡ true → IsLegal p
legal-from_test p passes =
    let small = λ (i : ℕ). leb (nat_at p.upper i) (10 ^ 12) in
    let halves = and_parts (shape_test p && leb (load p.upper p.cost (variables p)) (2 ^ 60)) (each_below (row_test p) (row_count p) && each_below small (variables p)) passes in
    let front = and_parts (shape_test p) (leb (load p.upper p.cost (variables p)) (2 ^ 60)) halves.0 in
    let back = and_parts (each_below (row_test p) (row_count p)) (each_below small (variables p)) halves.1 in
    let shape = and_parts (eqb (length p.rhs) (row_count p) && eqb (length p.upper) (variables p)) (ltb (variables p) (2 ^ 32) && leb (row_count p) 64) front.0 in
    let lengths = and_parts (eqb (length p.rhs) (row_count p)) (eqb (length p.upper) (variables p)) shape.0 in
    let counts = and_parts (ltb (variables p) (2 ^ 32)) (leb (row_count p) 64) shape.1 in
    let row = λ (j : ℕ) (h : j < row_count p). and_parts (eqb (length (row_of p j)) (variables p)) (leb (load p.upper (row_of p j) (variables p)) (2 ^ 60) && leb (unsigned_abs (int_at p.rhs j)) (2 ^ 61)) (each-from_test (row_test p) (row_count p) back.0 j h) in
    let sizes = λ (j : ℕ) (h : j < row_count p). and_parts (leb (load p.upper (row_of p j) (variables p)) (2 ^ 60)) (leb (unsigned_abs (int_at p.rhs j)) (2 ^ 61)) (row j h).1 in
    record {
      rhs_each = eqb-true _ _ lengths.0;
      upper_each = eqb-true _ _ lengths.1;
      row_each = λ j h. eqb-true _ _ (row j h).0;
      few_variables = ltb-true _ _ counts.0;
      few_rows = leb-true _ _ counts.1;
      cost_load = leb-true _ _ front.1;
      row_loads = λ j h. leb-true _ _ (sizes j h).0;
      rhs_small = λ j h. leb-true _ _ (sizes j h).1;
      upper_small = λ i h. leb-true _ _ (each-from_test small (variables p) back.1 i h);
    }
