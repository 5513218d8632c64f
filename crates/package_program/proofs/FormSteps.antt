-- Steps of the translation.
use Rattle.std.proofs.Common.{◌≡◌, ℕ, zero, suc, ◌+◌, ◌<◌, ◌≤◌, List, [], ◌∷◌, ◌++◌, length, map, take, get_or, cond, Bool, true, false, IsTrue, Option, Some, None, Result, Err, ℤ, refl, sym, ap, ◌∙◌, subst, add-one, append-nil, arith}
use Rattle.std.proofs.lemmas.Grind.{flat_map-append}
use Rattle.std.proofs.lemmas.List.{take_more, map-append, length-map}
use Rattle.std.proofs.lemmas.List.Elements.{filter_more}
use Rattle.std.specs.Borrow.{Bor}
use Rattle.std.specs.List.{AllByRecursion, flat_map}
use Rattle.package_query.specs.Query.{Conjunct}
use Rattle.table_schema.specs.declared.cells.Cell.{Cell}
use Rattle.bound_query.specs.Asks.{asks, IsAskedOf, AreAskedOf}
use Rattle.bound_query.specs.Fits.{fits_terms, fits_conjuncts, fits_goal}
use Rattle.bound_query.specs.Rows.{true_on}
use Rattle.bound_query.specs.Terms.{term_value, compared, conjunct_of, goal_of}
use Rattle.bound_query.specs.declared.queries.BoundConjunct.{BoundConjunct}
use Rattle.bound_query.specs.declared.queries.BoundGoal.{BoundGoal}
use Rattle.bound_query.specs.declared.queries.BoundQuery.{BoundQuery}
use Rattle.bound_query.specs.declared.queries.BoundTerm.{BoundTerm}
use Rattle.package_program.specs.Program.{candidates, adds, rows_for, rhs_for, signed_rows, held_sides, goal_terms, sums_of, IsSmallSum}
use Rattle.package_program.specs.Translation.{entries_of, IsFirstTooLarge, SumGives, CostGives, costs_of, conditions_of, condition_sums, RowsGive, ProgramGives, AreCandidates}
use Rattle.package_program.specs.declared.faults.FormFault.{FormFault}
use Rattle.package_program.specs.declared.faults.FormFault.TheVariants.{LimitCandidates, TooLarge, Memory}
use Rattle.package_program.proofs.Candidates.{candidates_ascend}
use Rattle.package_program.proofs.Legal.{few_conjuncts}
use Rattle.package_program.proofs.RowSteps.{map-kept}
use Rattle.package_program.proofs.TermSums.{both_true}

-- one row more of the table
pub candidate_more : (query : BoundQuery) (rows : List (ℕ × List Cell)) (i : ℕ) (row : ℕ × List Cell) (passes : Bool) (found next : List (Bor (ℕ × List Cell))) → i < length rows → row ≡ get_or rows i row
    → passes ≡ true_on query.filter row.1 → entries_of found ≡ candidates (asks query) (take i rows) → entries_of next ≡ entries_of found ++ cond passes (row ∷ []) []
    → entries_of next ≡ candidates (asks query) (take (i + 1) rows)
candidate_more query rows i row passes found next l is told so_far more =
    more ∙ ap (λ (some : List (ℕ × List Cell)). some ++ cond passes (row ∷ []) []) so_far
    ∙ ap (λ (b : Bool). candidates (asks query) (take i rows) ++ cond b (row ∷ []) []) told
    ∙ ap (λ (r : ℕ × List Cell). candidates (asks query) (take i rows) ++ cond (true_on query.filter r.1) (r ∷ []) []) is
    ∙ sym (filter_more (λ (entry : ℕ × List Cell). true_on query.filter entry.1) rows i row l)

pub entry_pushed : (found next : List (Bor (ℕ × List Cell))) (row : Bor (ℕ × List Cell)) → next ≡ found ++ row ∷ [] → entries_of next ≡ entries_of found ++ row.now ∷ []
entry_pushed found next row e = ap entries_of e ∙ map-append _ found (row ∷ [])

pub none_pushed : (found next : List (Bor (ℕ × List Cell))) → next ≡ found → entries_of next ≡ entries_of found ++ []
none_pushed found next e = ap entries_of e ∙ sym (append-nil (entries_of found))

-- the rows fit the goal's terms, and those of each conjunct
goal_fits_row : (row : List Cell) (goal : Option BoundGoal) (some : BoundGoal) → goal ≡ Some some → IsTrue (fits_goal row goal) → IsTrue (fits_terms row some.terms)
goal_fits_row row goal some is h = subst (λ (g : Option BoundGoal). IsTrue (fits_goal row g)) is h

pub goal_fits : (query : BoundQuery) (rows : List (ℕ × List Cell)) (goal : BoundGoal) (terms : List BoundTerm) → query.goal ≡ Some goal → terms ≡ goal.terms
    → AllByRecursion (λ (entry : ℕ × List Cell). IsAskedOf query entry.1) rows → AllByRecursion (λ (entry : ℕ × List Cell). IsTrue (fits_terms entry.1 terms)) rows
goal_fits query [] goal terms is same all = tt
goal_fits query (row ∷ rows) goal terms is same all =
    (rw same (goal_fits_row row.1 query.goal goal is all.0.goal), goal_fits query rows goal terms is same all.1)

conjunct_fits_row : (row : List Cell) (conjuncts : List BoundConjunct) (j : ℕ) (conjunct : BoundConjunct) → j < length conjuncts → IsTrue (fits_conjuncts row conjuncts) → IsTrue (fits_terms row (get_or conjuncts j conjunct).terms)
conjunct_fits_row row [] j conjunct l h = absurd (omega (arith, l))
conjunct_fits_row row (first ∷ conjuncts) zero conjunct l h = (both_true (fits_terms row first.terms) (fits_conjuncts row conjuncts) h).0
conjunct_fits_row row (first ∷ conjuncts) (suc j) conjunct l h = conjunct_fits_row row conjuncts j conjunct (omega (arith, l)) (both_true (fits_terms row first.terms) (fits_conjuncts row conjuncts) h).1

pub conjunct_fits : (query : BoundQuery) (rows : List (ℕ × List Cell)) (j : ℕ) (conjunct : BoundConjunct) (terms : List BoundTerm) → j < length query.conjuncts → conjunct ≡ get_or query.conjuncts j conjunct → terms ≡ conjunct.terms
    → AllByRecursion (λ (entry : ℕ × List Cell). IsAskedOf query entry.1) rows → AllByRecursion (λ (entry : ℕ × List Cell). IsTrue (fits_terms entry.1 terms)) rows
conjunct_fits query [] j conjunct terms l is same all = tt
conjunct_fits query (row ∷ rows) j conjunct terms l is same all = (
  rw same (subst (λ (c : BoundConjunct). IsTrue (fits_terms row.1 c.terms)) (sym is) (conjunct_fits_row row.1 query.conjuncts j conjunct l all.0.conjuncts)),
  conjunct_fits query rows j conjunct terms l is same all.1,
)

-- without a goal each cost is 0
pub no_goal : (query : BoundQuery) (rows : List (ℕ × List Cell)) (result : Result (List ℤ) FormFault) → query.goal ≡ None → SumGives 0 query.row_bound [] rows (adds query.row_bound [] rows) result → CostGives query rows result
no_goal query rows result is gives =
    let goal : goal_of query.goal ≡ None = ap goal_of is in
    rw goal (rw (map-kept (adds query.row_bound [] rows)) gives)

pub goal_kept : (query : BoundQuery) (rows : List (ℕ × List Cell)) (goal : BoundGoal) (terms : List BoundTerm) (sum : List ℤ) → query.goal ≡ Some goal → terms ≡ goal.terms → goal.maximize ≡ true
    → (sum ≡ adds query.row_bound (map term_value terms) rows) × IsSmallSum query.row_bound rows (map term_value terms) → (sum ≡ costs_of query rows) × IsSmallSum query.row_bound rows (goal_terms (goal_of query.goal))
goal_kept query rows goal terms sum is same maximize gives =
    let with_terms : (sum ≡ adds query.row_bound (map term_value goal.terms) rows) × IsSmallSum query.row_bound rows (map term_value goal.terms) = rw same at gives in
    rw (is, maximize) (with_terms.0 ∙ sym (map-kept (adds query.row_bound (map term_value goal.terms) rows)), with_terms.1)

-- the number of a conjunct
pub number_small : (query : BoundQuery) (j : ℕ) → j < length query.conjuncts → j < 62
number_small query j l = omega (arith, l, few_conjuncts query.conjuncts, query.sizes.few_rows)

-- the conditions by place
condition_at : (conjuncts : List BoundConjunct) (j : ℕ) (conjunct : BoundConjunct) → j < length conjuncts → get_or (map conjunct_of conjuncts) j (conjunct_of conjunct) ≡ conjunct_of (get_or conjuncts j conjunct)
condition_at [] j conjunct l = refl
condition_at (first ∷ conjuncts) zero conjunct l = refl
condition_at (first ∷ conjuncts) (suc j) conjunct l = condition_at conjuncts j conjunct (omega (arith, l))

sum_at : (conditions : List (Conjunct (List Cell))) (j : ℕ) (condition : Conjunct (List Cell)) → j < length conditions
    → get_or (map (λ (c : Conjunct (List Cell)). c.terms) conditions) j [] ≡ (get_or conditions j condition).terms
sum_at [] j condition l = absurd (omega (arith, l))
sum_at (first ∷ conditions) zero condition l = refl
sum_at (first ∷ conditions) (suc j) condition l = sum_at conditions j condition (omega (arith, l))

flat_more : {X A : Type 0} (f : X → List A) (xs : List X) (i : ℕ) (d : X) → i < length xs → flat_map f (take (i + 1) xs) ≡ flat_map f (take i xs) ++ f (get_or xs i d)
flat_more f xs i d l =
    ap (flat_map f) (take_more xs i d l) ∙ flat_map-append f (take i xs) (get_or xs i d ∷ []) ∙ ap (λ (l : List _). flat_map f (take i xs) ++ l) (append-nil (f (get_or xs i d)))

all_more : {X : Type 0} (P : X → Type 0) (xs : List X) (i : ℕ) (d : X) → i < length xs → AllByRecursion P (take i xs) → P (get_or xs i d) → AllByRecursion P (take (suc i) xs)
all_more P [] i d l all p = absurd (omega (arith, l))
all_more P (x ∷ xs) zero d l all p = (p, tt)
all_more P (x ∷ xs) (suc i) d l all p = (all.0, all_more P xs i d (omega (arith, l)) all.1 p)

-- one conjunct more
module _ (query : BoundQuery) (rows : List (ℕ × List Cell)) (j : ℕ) (conjunct : BoundConjunct) (l : j < length query.conjuncts) (is : conjunct ≡ get_or query.conjuncts j conjunct) where
  inside : j < length (conditions_of query)
  inside = rw length-map l

  condition-is : get_or (conditions_of query) j (conjunct_of conjunct) ≡ conjunct_of conjunct
  condition-is = condition_at query.conjuncts j conjunct l ∙ sym (ap conjunct_of is)

  terms-are : get_or (condition_sums query) j [] ≡ map term_value conjunct.terms
  terms-are = sum_at (conditions_of query) j (conjunct_of conjunct) inside ∙ ap (λ (c : Conjunct (List Cell)). c.terms) condition-is

  pub rows_more : (old new : List (List ℤ)) (sum : List ℤ) → old ≡ flat_map (rows_for query.row_bound rows) (take j (conditions_of query)) → sum ≡ adds query.row_bound (map term_value conjunct.terms) rows
      → new ≡ old ++ signed_rows sum (compared conjunct.op conjunct.low conjunct.high) → new ≡ flat_map (rows_for query.row_bound rows) (take (j + 1) (conditions_of query))
  rows_more old new sum so_far made added =
      added ∙ ap (λ (some : List (List ℤ)). some ++ signed_rows sum (compared conjunct.op conjunct.low conjunct.high)) so_far
      ∙ ap (λ (one : List ℤ). flat_map (rows_for query.row_bound rows) (take j (conditions_of query)) ++ signed_rows one (compared conjunct.op conjunct.low conjunct.high)) made
      ∙ ap (λ (c : Conjunct (List Cell)). flat_map (rows_for query.row_bound rows) (take j (conditions_of query)) ++ rows_for query.row_bound rows c) (sym condition-is)
      ∙ sym (flat_more (rows_for query.row_bound rows) (conditions_of query) j (conjunct_of conjunct) inside)

  pub rhs_more : (old new : List ℤ) → old ≡ flat_map rhs_for (take j (conditions_of query))
      → new ≡ old ++ held_sides (compared conjunct.op conjunct.low conjunct.high) → new ≡ flat_map rhs_for (take (j + 1) (conditions_of query))
  rhs_more old new so_far added =
      added ∙ ap (λ (some : List ℤ). some ++ held_sides (compared conjunct.op conjunct.low conjunct.high)) so_far
      ∙ ap (λ (c : Conjunct (List Cell)). flat_map rhs_for (take j (conditions_of query)) ++ rhs_for c) (sym condition-is)
      ∙ sym (flat_more rhs_for (conditions_of query) j (conjunct_of conjunct) inside)

  pub small_more : AllByRecursion (IsSmallSum query.row_bound rows) (take j (condition_sums query)) → IsSmallSum query.row_bound rows (map term_value conjunct.terms)
      → AllByRecursion (IsSmallSum query.row_bound rows) (take (j + 1) (condition_sums query))
  small_more all one =
      rw add-one (all_more (IsSmallSum query.row_bound rows) (condition_sums query) j [] (rw length-map inside) all (rw terms-are one))

  pub sum_fails : (fault : FormFault) (number : ℕ) (wanted : List ℤ) → number ≡ j + 1 → AllByRecursion (IsSmallSum query.row_bound rows) (take j (condition_sums query))
      → SumGives number query.row_bound (map term_value conjunct.terms) rows wanted (Err fault) → RowsGive query rows (Err fault)
  sum_fails (LimitCandidates count) number wanted named all gives = gives
  sum_fails (TooLarge found total) number wanted named all gives = (
    j,
    gives.0 ∙ named,
    record {
      inside = rw length-map inside;
      before = all;
      passed = rw terms-are gives.1;
    },
  )
  sum_fails (Memory fault) number wanted named all gives = tt

-- what fails in the goal or in a condition fails in the program
pub cost_fails : (query : BoundQuery) (rows : List (ℕ × List Cell)) (fault : FormFault) → CostGives query rows (Err fault) → ProgramGives query rows (Err fault)
cost_fails query rows (LimitCandidates count) gives = gives
cost_fails query rows (TooLarge number total) gives = rw gives.0 (record { inside = omega arith; before = tt; passed = gives.1 })
cost_fails query rows (Memory fault) gives = tt

pub rows_fail : (query : BoundQuery) (rows : List (ℕ × List Cell)) (fault : FormFault) → IsSmallSum query.row_bound rows (goal_terms (goal_of query.goal)) → RowsGive query rows (Err fault) → ProgramGives query rows (Err fault)
rows_fail query rows (LimitCandidates count) small gives = gives
rows_fail query rows (TooLarge number total) small gives =
    let first : IsFirstTooLarge query.row_bound rows (sums_of (asks query)) (suc gives.0) total = record { inside = omega (arith, gives.2.inside); before = (small, gives.2.before); passed = gives.2.passed } in
    rw (gives.1 ∙ add-one gives.0) first
rows_fail query rows (Memory fault) small gives = tt

-- the candidates are rows of the table
asked_kept : (query : BoundQuery) (rows : List (ℕ × List Cell)) → AllByRecursion (λ (entry : ℕ × List Cell). IsAskedOf query entry.1) rows → AllByRecursion (λ (entry : ℕ × List Cell). IsAskedOf query entry.1) (candidates (asks query) rows)
asked_kept query [] all = tt
asked_kept query (row ∷ rows) all = by_test (true_on query.filter row.1) (asked_kept query rows all.1)
  where
    by_test : (b : Bool) → AllByRecursion (λ (entry : ℕ × List Cell). IsAskedOf query entry.1) (candidates (asks query) rows)
        → AllByRecursion (λ (entry : ℕ × List Cell). IsAskedOf query entry.1) (cond b (row ∷ candidates (asks query) rows) (candidates (asks query) rows))
    by_test true rest = (all.0, rest)
    by_test false rest = rest

pub are_candidates : (query : BoundQuery) (rows found : List (ℕ × List Cell)) → AreAskedOf query rows → found ≡ candidates (asks query) rows → length found ≤ 100000 → AreCandidates query found
are_candidates query rows found asked is few =
    let all : AreCandidates query (candidates (asks query) rows) = record { ascending = candidates_ascend (asks query) 0 rows asked.ascending; few = rw is at few; each = asked_kept query rows asked.each } in
    rw is all
