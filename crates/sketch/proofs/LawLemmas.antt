-- The laws in `src/laws.rt`.
use Rattle.std.proofs.Common.{◌≡◌, ◌≢◌, ℕ, zero, suc, ◌+◌, ◌-◌, ◌^◌, ◌<◌, ◌≤◌, ◌⊎◌, inl, inr, List, [], length, set, refl, sym, ap, ◌∙◌, arith}
use Rattle.std.specs.Prelude.{◌↔◌, ℤ, pos, ◌+ℤ◌, ◌-ℤ◌, ◌*ℤ◌, ◌≤ℤ◌, unsigned_abs}
use Rattle.std.proofs.lemmas.Int.{ints, clamps}
use Rattle.std.proofs.lemmas.Bool.{cases_lt}
use Rattle.std.proofs.lemmas.Bool.Decides.{nat_tests}
use Rattle.std.proofs.lemmas.List.{length-map, get_or-map, get_or-set_same, get_or-set_other, ext_get_or}
use Rattle.lin_bound.specs.Sums.{sum_below, count_below, int_at, nat_at}
use Rattle.lin_bound.specs.Problem.{ProblemData, variables, row_count, row_of, value_at, row_at, IsLegal, IsWithin, IsFeasible}
use Rattle.lin_bound.proofs.Sums.{sum-ext, count-zero}
use Rattle.lin_bound.proofs.Sizes.{abs-sum_below}
use Rattle.sketch.specs.Parts.{part_at, mean, upper_sum, IsEven, ArePartsOf, IsPartOf}
use Rattle.sketch.specs.Sketched.{means_of, sketch_of}
use Rattle.sketch.specs.Held.{given, given_at, given_by_all, given_by_others, without, held_at, others_of, IsHeldOf, IsRealOf}
use Rattle.sketch.specs.Refined.{numbers_at, refine_of, held_side, AreSmall}
use Rattle.sketch.specs.Joined.{counts_at, AreRealOf, IsJoined}
use Rattle.sketch.specs.Laws.{AddsUp, IsSketched, all_sketched, all_real, KeepsWith}
use Rattle.sketch.specs.declared.held.HeldPart.{HeldPart}
use Rattle.sketch.specs.declared.held.HeldPart.TheVariants.{Sketch, Real}
use Rattle.sketch.proofs.Totals.{over_parts, count_over_parts, count-place, count-same}
use Rattle.sketch.proofs.Cuts.{each_is_part, parts_length}
use Rattle.sketch.proofs.Gifts.{gift, gifts_size, given_size}
use Rattle.sketch.proofs.Refines.{number_at, upper_at, side_at, row_at_refine}

-- ---- the sketch

pub each_is_sketched : (p : ProblemData) (parts : List (List ℕ)) (g : ℕ) → g < length parts → IsSketched p parts g
each_is_sketched p parts g h = record {
  cost = get_or-map (mean p.cost) parts g [] (pos 0) h;
  rows = λ j l.
      ap (λ (row : List ℤ). int_at row g) (get_or-map (means_of parts) p.rows j [] [] l) ∙ get_or-map (mean (row_of p j)) parts g [] (pos 0) h;
  upper = get_or-map (upper_sum p.upper) parts g [] 0 h;
}

-- ---- points of the sketch

sketch_line : (parts : List (List ℕ)) (point : List ℕ) (numbers : List ℤ) → length point ≡ length parts → value_at (means_of parts numbers) point (length parts) ≡ given_by_all numbers parts (all_sketched point)
sketch_line parts point numbers long =
    sum-ext (λ (g : ℕ). int_at (means_of parts numbers) g *ℤ pos (nat_at point g)) (given_at numbers parts (all_sketched point)) (length parts) each
  where
    each : (g : ℕ) → g < length parts → int_at (means_of parts numbers) g *ℤ pos (nat_at point g) ≡ given_at numbers parts (all_sketched point) g
    each g h =
        let mean_is : int_at (means_of parts numbers) g ≡ mean numbers (part_at parts g) = get_or-map (mean numbers) parts g [] (pos 0) h in
        let held_is : held_at (all_sketched point) g ≡ Sketch (nat_at point g) = get_or-map (λ (count : ℕ). Sketch count) point g 0 (Sketch 0) (omega (arith, h, long)) in
        ap (λ (z : ℤ). z *ℤ pos (nat_at point g)) mean_is ∙ sym (ap (given numbers (part_at parts g)) held_is)

pub sketch_adds_up : (p : ProblemData) (parts : List (List ℕ)) (point : List ℕ) → length point ≡ length parts → AddsUp (sketch_of p parts) p parts (all_sketched point) point
sketch_adds_up p parts point long =
    let vars : variables (sketch_of p parts) ≡ length parts = length-map parts (mean p.cost) in
    record {
      cost = rw vars (sketch_line parts point p.cost long);
      rows = λ j h.
          let row : row_of (sketch_of p parts) j ≡ means_of parts (row_of p j) = get_or-map (means_of parts) p.rows j [] [] h in
          rw (row, vars) (sketch_line parts point (row_of p j) long);
    }

-- ---- points that are put together

-- what a variable adds
abbrev pub taken : List ℤ → List ℕ → ℕ → ℤ
taken numbers point i = int_at numbers i *ℤ pos (nat_at point i)

joined_line : (p : ProblemData) (parts counts : List (List ℕ)) (point : List ℕ) (numbers : List ℤ) → ArePartsOf p parts → length counts ≡ length parts → IsJoined p parts counts point → value_at numbers point (variables p) ≡ given_by_all numbers parts (all_real counts)
joined_line p parts counts point numbers cut long joined =
    sym (over_parts (taken numbers point) p parts cut)
    ∙ sum-ext (λ (g : ℕ). sum_below (λ (k : ℕ). taken numbers point (nat_at (part_at parts g) k)) (length (part_at parts g))) (given_at numbers parts (all_real counts)) (length parts) each
  where
    each : (g : ℕ) → g < length parts → sum_below (λ (k : ℕ). taken numbers point (nat_at (part_at parts g) k)) (length (part_at parts g)) ≡ given_at numbers parts (all_real counts) g
    each g h =
        let held_is : held_at (all_real counts) g ≡ Real (counts_at counts g) = get_or-map (λ (of_part : List ℕ). Real of_part) counts g [] (Sketch 0) (omega (arith, h, long)) in
        sum-ext (λ (k : ℕ). taken numbers point (nat_at (part_at parts g) k)) (gift numbers (part_at parts g) (counts_at counts g)) (length (part_at parts g))
        (λ k l. ap (λ (count : ℕ). int_at numbers (nat_at (part_at parts g) k) *ℤ pos count) (joined.placed g k h l))
        ∙ sym (ap (given numbers (part_at parts g)) held_is)

pub joined_adds_up : (p : ProblemData) (parts counts : List (List ℕ)) (point : List ℕ) → ArePartsOf p parts → length counts ≡ length parts → IsJoined p parts counts point → AddsUp p p parts (all_real counts) point
joined_adds_up p parts counts point cut long joined = record {
  cost = joined_line p parts counts point p.cost cut long joined;
  rows = λ j h. joined_line p parts counts point (row_of p j) cut long joined;
}

-- what is 0 at each member is 0 at each variable
all_members : (f : ℕ → ℕ) (p : ProblemData) (parts : List (List ℕ)) → ArePartsOf p parts → ((g k : ℕ) → g < length parts → k < length (part_at parts g) → f (nat_at (part_at parts g) k) ≡ 0) → (i : ℕ) → i < variables p → f i ≡ 0
all_members f p parts cut none i h =
    let of_part = λ (g : ℕ). count_below (λ (k : ℕ). f (nat_at (part_at parts g) k)) (length (part_at parts g)) in
    let nothing : count_below of_part (length parts) ≡ 0 = count-zero of_part (length parts) (λ g l. count-zero (λ (k : ℕ). f (nat_at (part_at parts g) k)) (length (part_at parts g)) (λ k m. none g k l m)) in
    omega (arith, nothing, count_over_parts f p parts cut, count-place f (variables p) i h)

pub joined_is_feasible : (p : ProblemData) (parts counts : List (List ℕ)) (point : List ℕ) → ArePartsOf p parts → AreRealOf p parts counts → IsJoined p parts counts point → ((j : ℕ) → j < row_count p → given_by_all (row_of p j) parts (all_real counts) ≤ℤ int_at p.rhs j) → IsFeasible p point
joined_is_feasible p parts counts point cut real joined keeps = record {
  each = joined.each;
  within = λ i h.
      let above = λ (v : ℕ). nat_at point v - nat_at p.upper v in
      let none = all_members above p parts cut (λ g k l m.
      let within = (real.each g l).within k m in
      let placed = joined.placed g k l m in
      omega (arith, within, placed)) i h in
      omega (arith, none);
  keeps = λ j h. rw (joined_line p parts counts point (row_of p j) cut real.lists joined) (keeps j h);
}

pub one_is_joined : (p : ProblemData) (parts counts : List (List ℕ)) (one other : List ℕ) → ArePartsOf p parts → IsJoined p parts counts one → IsJoined p parts counts other → one ≡ other
one_is_joined p parts counts one other cut first second =
    ext_get_or 0 one other (first.each ∙ sym second.each) (λ i h.
    let apart = λ (v : ℕ). (nat_at one v - nat_at other v) + (nat_at other v - nat_at one v) in
    let none = all_members apart p parts cut (λ g k l m. omega (arith, first.placed g k l m, second.placed g k l m)) i (omega (arith, h, first.each)) in
    omega (arith, none))

-- ---- what others give

without-same : (f : ℕ → ℤ) (g h : ℕ) → h ≡ g → without g f h ≡ pos 0
without-same f g h e = grind (arith, nat_tests)

without-other : (f : ℕ → ℤ) (g h : ℕ) → h ≢ g → without g f h ≡ f h
without-other f g h e = grind (arith, nat_tests)

sum-without : (f : ℕ → ℤ) (g n : ℕ) → g < n → sum_below (without g f) n ≡ sum_below f n -ℤ f g
sum-without f g zero h = absurd (omega (arith, h))
sum-without f g (suc n) h =
    elim (cases_lt g n) [
      | inl lt ↦ omega (arith, ints, sum-without f g n lt, without-other f g n (λ e. omega (arith, e, lt)))
      | inr le ↦
          let at : n ≡ g = omega arith in
          let below = sum-ext (without g f) f n (λ i l. without-other f g i (λ e. omega (arith, e, l, at))) in
          omega (arith, ints, below, without-same f g n at, ap f at)
    ]

pub others_are_the_rest : (p : ProblemData) (parts : List (List ℕ)) (held : List HeldPart) (g j : ℕ) → g < length parts → j < row_count p → int_at (others_of p parts held g) j ≡ (given_by_all (row_of p j) parts held -ℤ given_at (row_of p j) parts held g)
others_are_the_rest p parts held g j h l =
    get_or-map (λ (row : List ℤ). given_by_others row parts held g) p.rows j [] (pos 0) l ∙ sum-without (given_at (row_of p j) parts held) g (length parts) h

same_or_not : (a b : ℕ) → (a ≡ b) ⊎ (a ≢ b)
same_or_not a b =
    elim (cases_lt a b) [
      | inl lt ↦ inr (λ e. omega (arith, e, lt))
      | inr le ↦ elim (cases_lt b a) [
        | inl less ↦ inr (λ e. omega (arith, e, less))
        | inr more ↦ inl (omega (arith, le, more))
      ]
    ]

pub one_is_held_anew : (numbers : List ℤ) (parts : List (List ℕ)) (held : List HeldPart) (g : ℕ) (new : HeldPart) → g < length parts → g < length held
    → given_by_all numbers parts (set held g new) ≡ (given_by_others numbers parts held g +ℤ given numbers (part_at parts g) new)
one_is_held_anew numbers parts held g new h l =
    let rest = sum-without (given_at numbers parts (set held g new)) g (length parts) h in
    let others = sum-ext (without g (given_at numbers parts (set held g new))) (without g (given_at numbers parts held)) (length parts) (λ i m. each i (same_or_not i g)) in
    let here : given_at numbers parts (set held g new) g ≡ given numbers (part_at parts g) new = ap (given numbers (part_at parts g)) (get_or-set_same held g new (Sketch 0) l) in
    omega (arith, ints, rest, others, here)
  where
    each : (i : ℕ) → (i ≡ g) ⊎ (i ≢ g) → without g (given_at numbers parts (set held g new)) i ≡ without g (given_at numbers parts held) i
    each i (inl same) =
        without-same (given_at numbers parts (set held g new)) g i same ∙ sym (without-same (given_at numbers parts held) g i same)
    each i (inr other) =
        without-other (given_at numbers parts (set held g new)) g i other
        ∙ ap (given numbers (part_at parts i)) (get_or-set_other held g i new (Sketch 0) other)
        ∙ sym (without-other (given_at numbers parts held) g i other)

-- the most that a part gives
abbrev pub most : ℕ → ℕ
most h = 2 ^ 60

pub others_are_small : (p : ProblemData) (parts : List (List ℕ)) (held : List HeldPart) (g : ℕ) → IsLegal p → IsEven p → ArePartsOf p parts → ((h : ℕ) → h < length parts → IsHeldOf p (part_at parts h) (held_at held h)) → AreSmall (others_of p parts held g)
others_are_small p parts held g legal even cut within j l =
    let rows : length (others_of p parts held g) ≡ row_count p = length-map p.rows (λ (row : List ℤ). given_by_others row parts held g) in
    let here : j < row_count p = omega (arith, l, rows) in
    let is = get_or-map (λ (row : List ℤ). given_by_others row parts held g) p.rows j [] (pos 0) here in
    rw is (omega (arith, sum_small here, count-same most (2 ^ 60) (length parts) (λ h m. refl), parts_length p parts cut, legal.few_variables))
  where
    sum_small : j < row_count p → unsigned_abs (given_by_others (row_of p j) parts held g) ≤ count_below most (length parts)
    sum_small here = abs-sum_below (without g (given_at (row_of p j) parts held)) most (length parts) (λ h m. one h m (same_or_not h g))
      where
        one : (h : ℕ) → h < length parts → (h ≡ g) ⊎ (h ≢ g) → unsigned_abs (without g (given_at (row_of p j) parts held) h) ≤ 2 ^ 60
        one h m (inl same) = rw (without-same (given_at (row_of p j) parts held) g h same) (omega arith)
        one h m (inr other) =
            let size = given_size p (row_of p j) (part_at parts h) (each_is_part p parts h cut m) even (held_at held h) (within h m) in
            rw (without-other (given_at (row_of p j) parts held) g h other) (omega (arith, size, legal.row_loads j here))

-- ---- refined parts

below_held : (sum number : ℤ) → unsigned_abs sum ≤ 2 ^ 60 → sum ≤ℤ number → sum ≤ℤ held_side number
below_held sum number small h = omega (arith, ints, clamps, small, h)

held_below : (sum number : ℤ) → unsigned_abs sum ≤ 2 ^ 60 → sum ≤ℤ held_side number → sum ≤ℤ number
held_below sum number small h = omega (arith, ints, clamps, small, h)

module _ (p : ProblemData) (part : List ℕ) (others : List ℤ) (counts : List ℕ) (legal : IsLegal p) (is : IsPartOf p part) where
  vars : variables (refine_of p part others) ≡ length part
  vars = length-map part (int_at p.cost)

  rows : row_count (refine_of p part others) ≡ row_count p
  rows = length-map p.rows (numbers_at part)

  refined_row : (j : ℕ) → j < row_count p → row_at (refine_of p part others) j counts ≡ given (row_of p j) part (Real counts)
  refined_row j h =
      rw (row_at_refine p part others j h, vars)
      (sum-ext (λ (k : ℕ). int_at (numbers_at part (row_of p j)) k *ℤ pos (nat_at counts k)) (gift (row_of p j) part counts) (length part)
      (λ k l. ap (λ (z : ℤ). z *ℤ pos (nat_at counts k)) (number_at part (row_of p j) k l)))

  real_of : IsWithin (refine_of p part others) counts → IsRealOf p part counts
  real_of within = record {
    each = within.each ∙ vars;
    within = λ k h. omega (arith, within.within k (omega (arith, h, vars)), upper_at part p.upper k h);
  }

  row_small : IsRealOf p part counts → (j : ℕ) → j < row_count p → unsigned_abs (given (row_of p j) part (Real counts)) ≤ 2 ^ 60
  row_small real j h =
      omega (arith, gifts_size p (row_of p j) part is counts real (length part) (omega arith), legal.row_loads j h)

  pub refined_keeps_rows : IsFeasible (refine_of p part others) counts ↔ KeepsWith p part others counts
  refined_keeps_rows = (there, back)
    where
      there : IsFeasible (refine_of p part others) counts → KeepsWith p part others counts
      there feasible =
          let real = real_of (record { each = feasible.each; within = feasible.within }) in
          record {
            real = real;
            keeps = λ j h.
                let kept = rw (refined_row j h, side_at p others j h) at (feasible.keeps j (omega (arith, h, rows))) in
                let below = held_below (given (row_of p j) part (Real counts)) (int_at p.rhs j -ℤ int_at others j) (row_small real j h) kept in
                omega (arith, ints, below);
          }

      back : KeepsWith p part others counts → IsFeasible (refine_of p part others) counts
      back keeps = record {
        each = keeps.real.each ∙ sym vars;
        within = λ k h. omega (arith, keeps.real.within k (omega (arith, h, vars)), upper_at part p.upper k (omega (arith, h, vars)));
        keeps = λ j l.
            let h : j < row_count p = omega (arith, l, rows) in
            let sum = given (row_of p j) part (Real counts) in
            let side = int_at p.rhs j -ℤ int_at others j in
            let kept : sum ≤ℤ side = omega (arith, ints, keeps.keeps j h) in
            rw (refined_row j h, side_at p others j h) (below_held sum side (row_small keeps.real j h) kept);
      }
