-- The program of a query means the query.
use Rattle.std.proofs.Common.{◌≡◌, ℕ, zero, suc, ◌^◌, ◌<◌, ◌≤◌, List, [], ◌∷◌, length, map, sum, refl, sym, ap, ◌∙◌, Bool, true, false, ℤ, pos, ◌≤ℤ◌, neg_ℤ, Option, Some, None, not, if◌then◌else◌, arith}
use Rattle.std.proofs.lemmas.Int.{ints}
use Rattle.std.proofs.lemmas.List.{get_or-replicate, length-map}
use Rattle.std.specs.Int.RustNames.{unsigned_abs}
use Rattle.std.specs.List.{AllByRecursion, flat_map}
use Rattle.lin_bound.specs.Problem.{IsFeasible, IsWithin, cost_at, value_at}
use Rattle.lin_bound.specs.Sums.{nat_at}
use Rattle.package_query.specs.Package.{row_at}
use Rattle.package_query.specs.Meaning.{pair_gives, IsAllowed, Meets, total, worth, goal_worth}
use Rattle.package_query.specs.Package.{AscendsFrom}
use Rattle.package_query.specs.Query.{Conjunct, Goal, PackageQuery}
use Rattle.package_program.specs.Program.{candidates, adds, signed, goal_terms, goal_negated, sizes}
use Rattle.package_program.specs.Meaning.{program, taken, IsOnlyPoint, IsTranslatable, ProgramKeepsMeaning}
use Rattle.package_program.proofs.Candidates.{candidates_ascend, all_pass, allowed_among_rows, allowed_among_candidates, total_among}
use Rattle.package_program.proofs.PointLemmas.{package_rises, point_allowed, point_of, one_point}
use Rattle.package_program.proofs.Dots.{row-total, total_small}
use Rattle.package_program.proofs.Sides.{Inequality, inequalities_of, row_of, rhs_of, all-rows, all-rhs, IsKept, AreSmall, keeps_inequalities, inequalities_keep, rows_of_inequalities, inequalities_of_rows, all-to}

-- counts by place, and one by one
each_count : (bound : ℕ) (x : List ℕ) → ((i : ℕ) → i < length x → nat_at x i ≤ bound) → AllByRecursion (λ (n : ℕ). n ≤ bound) x
each_count bound [] h = tt
each_count bound (n ∷ x) h = (h 0 (omega arith), each_count bound x (λ (i : ℕ) (l : i < length x). h (suc i) (omega arith)))

count_at : (bound : ℕ) (x : List ℕ) → AllByRecursion (λ (n : ℕ). n ≤ bound) x → (i : ℕ) → i < length x → nat_at x i ≤ bound
count_at bound [] all i l = absurd (omega (arith, l))
count_at bound (n ∷ x) all zero l = all.0
count_at bound (n ∷ x) all (suc i) l = count_at bound x all.1 i (omega (arith, l))

-- each total is small, since the sizes are
totals_small : {R : Type 0} (totals : List (R → ℤ) → ℤ) (size : List (R → ℤ) → ℕ) (conjuncts : List (Conjunct R)) → ((terms : List (R → ℤ)) → unsigned_abs (totals terms) ≤ size terms)
    → AllByRecursion (λ (terms : List (R → ℤ)). size terms ≤ 2 ^ 60) (map (λ (conjunct : Conjunct R). conjunct.terms) conjuncts) → AreSmall totals conjuncts
totals_small totals size [] h all = tt
totals_small totals size (conjunct ∷ conjuncts) h all = (omega (arith, h conjunct.terms, all.0), totals_small totals size conjuncts h all.1)

-- no terms add up to 0
none-gives : {R : Type 0} (count : ℕ) (found : Option R) → pair_gives [] count found ≡ pos 0
none-gives count None = refl
none-gives count (Some row) = refl

total-none : {R : Type 0} (rows : List (ℕ × R)) (pairs : List (ℕ × ℕ)) → total [] rows pairs ≡ pos 0
total-none rows [] = refl
total-none rows (pair ∷ pairs) =
    let here = none-gives pair.1 (row_at pair.0 rows) in
    let rest = total-none rows pairs in
    omega (arith, ints, here, rest)

-- the cost of a total
goal_signed : {R : Type 0} (goal : Option (Goal R)) (rows : List (ℕ × R)) (pairs : List (ℕ × ℕ))
    → signed (goal_negated goal) (total (goal_terms goal) rows pairs) ≡ goal_worth goal rows pairs
goal_signed None rows pairs = total-none rows pairs
goal_signed (Some goal) rows pairs = by_way goal.maximize (total goal.terms rows pairs)
  where
    by_way : (maximize : Bool) (z : ℤ) → signed (not maximize) z ≡ (if maximize then z else neg_ℤ z)
    by_way true z = refl
    by_way false z = refl

module _ {R : Type 0} (query : PackageQuery R) (bound : ℕ) (rows : List (ℕ × R)) (is : IsTranslatable query bound rows) where
  up : AscendsFrom 0 (candidates query rows)
  up = candidates_ascend query 0 rows is.ascending

  each_is : (x : List ℕ) → IsWithin (program query bound rows) x → length x ≡ length (candidates query rows)
  each_is x within = within.each ∙ length-map _ _ ∙ length-map _ _

  counts : (x : List ℕ) → IsWithin (program query bound rows) x → AllByRecursion (λ (n : ℕ). n ≤ bound) x
  counts x within = each_count bound x (λ (i : ℕ) (l : i < length x).
      let each = each_is x within in
      let inside : i < length (candidates query rows) = omega (arith, l, each) in
      let most = get_or-replicate (length (candidates query rows)) i bound 0 inside in
      let at = within.within i (omega (arith, l, within.each)) in
      omega (arith, at, most))

  allowed : (x : List ℕ) → IsWithin (program query bound rows) x → AllByRecursion (IsAllowed query (candidates query rows)) (taken query rows x)
  allowed x within = point_allowed query bound 0 (candidates query rows) x up (all_pass query rows) is.repeat (counts x within)

  value-is : (x : List ℕ) → IsWithin (program query bound rows) x → (terms : List (R → ℤ)) (negated : Bool)
      → value_at (map (signed negated) (adds bound terms (candidates query rows))) x (length (candidates query rows)) ≡ signed negated (total terms rows (taken query rows x))
  value-is x within terms negated =
      row-total bound terms negated 0 (candidates query rows) x up (each_is x within) (counts x within)
      ∙ ap (signed negated) (sym (total_among query terms rows (taken query rows x) is.ascending (allowed x within)))

  small : (x : List ℕ) → IsWithin (program query bound rows) x → AreSmall (λ (terms : List (R → ℤ)). total terms rows (taken query rows x)) query.conjuncts
  small x within = totals_small (λ (terms : List (R → ℤ)). total terms rows (taken query rows x)) (λ (terms : List (R → ℤ)). sum (sizes bound terms (candidates query rows))) query.conjuncts
      (λ (terms : List (R → ℤ)). rw (total_among query terms rows (taken query rows x) is.ascending (allowed x within))
      (total_small bound terms 0 (candidates query rows) x up (each_is x within) (counts x within)))
      is.small.1

  -- the rows of the program, as the inequalities that they are
  variables-are : length (map (signed (goal_negated query.goal)) (adds bound (goal_terms query.goal) (candidates query rows))) ≡ length (candidates query rows)
  variables-are = length-map _ _ ∙ length-map _ _

  meets : (x : List ℕ) → IsWithin (program query bound rows) x → IsFeasible (program query bound rows) x → Meets query rows (taken query rows x)
  meets x within feasible = record {
    rises = package_rises 0 (candidates query rows) x up;
    each = allowed_among_rows query rows (taken query rows x) is.ascending (allowed x within);
    conjuncts = inequalities_keep (λ (terms : List (R → ℤ)). total terms rows (taken query rows x)) query.conjuncts (small x within)
        (all-to (λ (kept : Inequality R). value_at (row_of bound (candidates query rows) kept) x (length (candidates query rows)) ≤ℤ rhs_of kept)
        (IsKept (λ (terms : List (R → ℤ)). total terms rows (taken query rows x))) (flat_map inequalities_of query.conjuncts)
        (λ (kept : Inequality R) (h : value_at (row_of bound (candidates query rows) kept) x (length (candidates query rows)) ≤ℤ rhs_of kept).
        rw (value-is x within kept.terms kept.side.negated) at h)
        (inequalities_of_rows (row_of bound (candidates query rows)) rhs_of (flat_map inequalities_of query.conjuncts) _ _ x _ (length (candidates query rows))
        (all-rows bound (candidates query rows) query.conjuncts) (all-rhs query.conjuncts) variables-are feasible.keeps));
  }

  feasible : (x : List ℕ) → IsWithin (program query bound rows) x → Meets query rows (taken query rows x) → IsFeasible (program query bound rows) x
  feasible x within meets = record {
    each = within.each;
    within = within.within;
    keeps = rows_of_inequalities (row_of bound (candidates query rows)) rhs_of (flat_map inequalities_of query.conjuncts) _ _ x _ (length (candidates query rows))
        (all-rows bound (candidates query rows) query.conjuncts) (all-rhs query.conjuncts) variables-are
        (all-to (IsKept (λ (terms : List (R → ℤ)). total terms rows (taken query rows x)))
        (λ (kept : Inequality R). value_at (row_of bound (candidates query rows) kept) x (length (candidates query rows)) ≤ℤ rhs_of kept) (flat_map inequalities_of query.conjuncts)
        (λ (kept : Inequality R) (h : signed kept.side.negated (total kept.terms rows (taken query rows x)) ≤ℤ rhs_of kept). rw (value-is x within kept.terms kept.side.negated) h)
        (keeps_inequalities (λ (terms : List (R → ℤ)). total terms rows (taken query rows x)) query.conjuncts (small x within) meets.conjuncts));
  }

  worth_is : (x : List ℕ) → IsWithin (program query bound rows) x → cost_at (program query bound rows) x ≡ worth query rows (taken query rows x)
  worth_is x within =
      let cost : value_at (map (signed (goal_negated query.goal)) (adds bound (goal_terms query.goal) (candidates query rows))) x (length (map (signed (goal_negated query.goal)) (adds bound (goal_terms query.goal) (candidates query rows))))
      ≡ signed (goal_negated query.goal) (total (goal_terms query.goal) rows (taken query rows x)) = rw variables-are (value-is x within (goal_terms query.goal) (goal_negated query.goal)) in
      cost ∙ goal_signed query.goal rows (taken query rows x)

  covers : (pairs : List (ℕ × ℕ)) → Meets query rows pairs → (x : List ℕ) × IsOnlyPoint query bound rows pairs x
  covers pairs met =
      let has = point_of query bound 0 (candidates query rows) pairs up met.rises (allowed_among_candidates query rows pairs met.each) (is.bounds pairs met) in
      let within : IsWithin (program query bound rows) has.x = record {
        each = rw variables-are has.each;
        within = λ (i : ℕ) (l : i < length (map (signed (goal_negated query.goal)) (adds bound (goal_terms query.goal) (candidates query rows)))).
            let inside : i < length (candidates query rows) = rw variables-are at l in
            let most = get_or-replicate (length (candidates query rows)) i bound 0 inside in
            let here = count_at bound has.x has.within i (omega (arith, inside, has.each)) in
            omega (arith, most, here);
      } in (
        has.x,
        record {
          within = within;
          same = has.same;
          only = λ (other : List ℕ) (inside : IsWithin (program query bound rows) other) (same : taken query rows other ≡ pairs).
              one_point 0 (candidates query rows) other has.x up (each_is other inside) has.each (same ∙ sym has.same);
        },
      )

pub translated : (R : Type 0) → ProgramKeepsMeaning R
translated R query bound rows is = record {
  meets = λ (x : List ℕ) (within : IsWithin (program query bound rows) x). (meets query bound rows is x within, feasible query bound rows is x within);
  worth = worth_is query bound rows is;
  covers = covers query bound rows is;
}
