-- Steps between points and packages.
use Rattle.std.proofs.Common.{◌≡◌, ◌≢◌, ◌⊎◌, inl, inr, ℕ, zero, suc, ◌+◌, ◌<◌, ◌≤◌, List, [], ◌∷◌, ◌++◌, take, length, get_or, Bool, true, false, eqb, cond, Option, Some, None, refl, sym, ap, ◌∙◌, subst, add-one, append-nil, append_assoc, arith, ⊎_elim}
use Rattle.std.proofs.lemmas.Bool.{cases_lt}
use Rattle.std.proofs.lemmas.Bool.Decides.{eqb_tells}
use Rattle.std.proofs.lemmas.List.{take_all, get_or_append_left}
use Rattle.std.specs.List.{AllByRecursion}
use Rattle.std.specs.Option.{MatchOption, IsSome}
use Rattle.lin_bound.specs.Problem.{variables}
use Rattle.lin_bound.specs.Sums.{nat_at}
use Rattle.package_judge.specs.Packages.{IsLimited, IsPackageOf}
use Rattle.package_query.specs.Package.{IsPackage, RisesFrom}
use Rattle.package_program.specs.Linear.{LinearData, RiseFrom, IsLinear}
use Rattle.package_program.specs.Points.{package_at, first_count, after_first, ArePairsOf, IsPointOf}

-- what is refused only if it is none is made if it is one
pub made_where : {A : Type 0} {Whole : Type 0} (Q : A → Type 0) (found : Option A) → Whole → MatchOption found (¬ Whole) Q → IsSome found
made_where Q None whole told = absurd (told whole)
made_where Q (Some x) whole told = refl

-- one count more
more : (ids counts : List ℕ) (place d : ℕ) → place < length ids → place < length counts
    → package_at (take (suc place) ids) (take (suc place) counts) ≡ package_at (take place ids) (take place counts) ++ package_at (get_or ids place d ∷ []) (get_or counts place d ∷ [])
more [] counts place d l m = absurd (omega (arith, l))
more (id ∷ ids) [] place d l m = absurd (omega (arith, m))
more (id ∷ ids) (zero ∷ counts) zero d l m = refl
more (id ∷ ids) (suc n ∷ counts) zero d l m = refl
more (id ∷ ids) (zero ∷ counts) (suc place) d l m = more ids counts place d (omega (arith, l)) (omega (arith, m))
more (id ∷ ids) (suc n ∷ counts) (suc place) d l m = ap (λ (rest : List (ℕ × ℕ)). (id, suc n) ∷ rest) (more ids counts place d (omega (arith, l)) (omega (arith, m)))

pub package_more : (ids counts : List ℕ) (place : ℕ) → place < length ids → place < length counts
    → package_at (take (place + 1) ids) (take (place + 1) counts) ≡ package_at (take place ids) (take place counts) ++ package_at (get_or ids place 0 ∷ []) (get_or counts place 0 ∷ [])
package_more ids counts place l m = rw add-one (more ids counts place 0 l m)

-- ids that rise
rise_at : (low : ℕ) (ids : List ℕ) (i : ℕ) → RiseFrom low ids → i < length ids → low ≤ nat_at ids i
rise_at low [] i up l = absurd (omega (arith, l))
rise_at low (id ∷ ids) zero up l = up.0
rise_at low (id ∷ ids) (suc i) up l = let rest = rise_at (suc id) ids i up.1 (omega (arith, l)) in omega (arith, rest, up.0)

rise_apart : (low : ℕ) (ids : List ℕ) (i j : ℕ) → RiseFrom low ids → i < j → j < length ids → nat_at ids i < nat_at ids j
rise_apart low [] i j up h l = absurd (omega (arith, l))
rise_apart low (id ∷ ids) i zero up h l = absurd (omega (arith, h))
rise_apart low (id ∷ ids) zero (suc j) up h l = let rest = rise_at (suc id) ids j up.1 (omega (arith, l)) in omega (arith, rest)
rise_apart low (id ∷ ids) (suc i) (suc j) up h l = rise_apart (suc id) ids i j up.1 (omega (arith, h)) (omega (arith, l))

rises_within : (low : ℕ) (ids counts : List ℕ) → RiseFrom low ids → RisesFrom low (package_at ids counts)
rises_within low [] counts up = tt
rises_within low (id ∷ ids) [] up = tt
rises_within low (id ∷ ids) (zero ∷ counts) up = sooner low (suc id) (package_at ids counts) (omega (arith, up.0)) (rises_within (suc id) ids counts up.1)
  where
    sooner : (low next : ℕ) (pairs : List (ℕ × ℕ)) → low ≤ next → RisesFrom next pairs → RisesFrom low pairs
    sooner low next [] h rises = tt
    sooner low next (pair ∷ pairs) h rises = (omega (arith, h, rises.0), rises.1, rises.2)
rises_within low (id ∷ ids) (suc n ∷ counts) up = (up.0, omega arith, rises_within (suc id) ids counts up.1)

pub pairs_are : (linear : LinearData) (point : List ℕ) (place : ℕ) (pairs : List (ℕ × ℕ)) → IsLinear linear → length point ≡ length linear.ids → length linear.ids ≤ place
    → pairs ≡ package_at (take place linear.ids) (take place point) → AllByRecursion IsLimited pairs → (pairs ≡ package_at linear.ids point) × IsPackageOf pairs
pairs_are linear point place pairs is each all same limited =
    let whole : pairs ≡ package_at linear.ids point =
    same ∙ ap (λ (ids : List ℕ). package_at ids (take place point)) (take_all place linear.ids all) ∙ ap (package_at linear.ids) (take_all place point (omega (arith, all, each))) in
    let rises : IsPackage pairs = rw whole (rises_within 0 linear.ids point is.ascending) in
    (whole, record { rises = rises; limited = limited })

-- pairs of variables after those that are done
pub record AreLater (linear : LinearData) (place : ℕ) (left : List (ℕ × ℕ)) : Type 0 where
  pub after : (i : ℕ) → i < place → AllByRecursion (λ (pair : ℕ × ℕ). nat_at linear.ids i < pair.0) left
  pub are : ArePairsOf linear left

all_above : (id low : ℕ) (pairs : List (ℕ × ℕ)) → id < low → RisesFrom low pairs → AllByRecursion (λ (pair : ℕ × ℕ). id < pair.0) pairs
all_above id low [] h rises = tt
all_above id low (pair ∷ pairs) h rises = (omega (arith, h, rises.0), all_above id (suc pair.0) pairs (omega (arith, h, rises.0)) rises.2)

-- a pair of a variable that isn't done is of a later one
pair_place : (linear : LinearData) (place : ℕ) (pair : ℕ × ℕ) (left : List (ℕ × ℕ)) (is : AreLater linear place (pair ∷ left)) → place ≤ is.are.0.place
pair_place linear place pair left is = ⊎_elim
    (λ (before : is.are.0.place < place). absurd (omega (arith, (is.after is.are.0.place before).0, is.are.0.id)))
    (λ (here : place ≤ is.are.0.place). here)
    (cases_lt is.are.0.place place)

-- the first pair has the next id, and a count that its upper allows
pub first_within : (linear : LinearData) (place : ℕ) (pair : ℕ × ℕ) (left : List (ℕ × ℕ)) → IsLinear linear → place < length linear.ids → AreLater linear place (pair ∷ left) → pair.0 ≡ nat_at linear.ids place
    → pair.1 ≤ nat_at linear.problem.upper place
first_within linear place pair left is inside later same = ⊎_elim
    (λ (after : place < later.are.0.place).
    let apart = rise_apart 0 linear.ids place later.are.0.place is.ascending after later.are.0.inside in absurd (omega (arith, apart, later.are.0.id, same)))
    (λ (upto : later.are.0.place ≤ place).
    let at : later.are.0.place ≡ place = omega (arith, upto, pair_place linear place pair left later) in
    subst (λ (k : ℕ). pair.1 ≤ nat_at linear.problem.upper k) at later.are.0.copies)
    (cases_lt place later.are.0.place)

-- no pair is left after all variables
pub none_left : (linear : LinearData) (place : ℕ) (pair : ℕ × ℕ) (left : List (ℕ × ℕ)) → length linear.ids ≤ place → AreLater linear place (pair ∷ left) → ⊥
none_left linear place pair left all later = omega (arith, pair_place linear place pair left later, later.are.0.inside, all)

-- the first pair is taken
pub later_taken : (linear : LinearData) (place : ℕ) (pair : ℕ × ℕ) (left : List (ℕ × ℕ)) → RisesFrom 0 (pair ∷ left) → pair.0 ≡ nat_at linear.ids place → AreLater linear place (pair ∷ left) → AreLater linear (place + 1) left
later_taken linear place pair left rises same later = record {
  after = λ (i : ℕ) (l : i < place + 1). ⊎_elim
      (λ (before : i < place). (later.after i before).1)
      (λ (here : place ≤ i).
      let at : i ≡ place = omega (arith, here, l) in
      subst (λ (k : ℕ). AllByRecursion (λ (other : ℕ × ℕ). k < other.0) left) (same ∙ ap (nat_at linear.ids) (sym at)) (all_above pair.0 (suc pair.0) left (omega arith) rises.2))
      (cases_lt i place);
  are = later.are.1;
}

-- or it stays, since it has a later id
pub later_kept : (linear : LinearData) (place : ℕ) (pair : ℕ × ℕ) (left : List (ℕ × ℕ)) → IsLinear linear → RisesFrom 0 (pair ∷ left) → pair.0 ≢ nat_at linear.ids place → AreLater linear place (pair ∷ left) → AreLater linear (place + 1) (pair ∷ left)
later_kept linear place pair left is rises apart later = record {
  after = λ (i : ℕ) (l : i < place + 1). ⊎_elim
      (λ (before : i < place). later.after i before)
      (λ (here : place ≤ i).
      let at : i ≡ place = omega (arith, here, l) in
      let less : nat_at linear.ids place < pair.0 = above in
      subst (λ (k : ℕ). AllByRecursion (λ (other : ℕ × ℕ). nat_at linear.ids k < other.0) (pair ∷ left)) (sym at) (less, all_above (nat_at linear.ids place) (suc pair.0) left (omega (arith, less)) rises.2))
      (cases_lt i place);
  are = later.are;
}
  where
    above : nat_at linear.ids place < pair.0
    above = ⊎_elim
        (λ (after : place < later.are.0.place). let more = rise_apart 0 linear.ids place later.are.0.place is.ascending after later.are.0.inside in omega (arith, more, later.are.0.id))
        (λ (upto : later.are.0.place ≤ place).
        let at : later.are.0.place ≡ place = omega (arith, upto, pair_place linear place pair left later) in
        absurd (apart (sym later.are.0.id ∙ ap (nat_at linear.ids) at)))
        (cases_lt place later.are.0.place)

pub later_none : (linear : LinearData) (place : ℕ) → AreLater linear (place + 1) []
later_none linear place = record { after = λ (i : ℕ) (l : i < place + 1). tt; are = tt }

-- one variable of a point more
one_added : (ids counts : List ℕ) (n d : ℕ) → length counts < length ids → package_at (take (suc (length counts)) ids) (counts ++ n ∷ []) ≡ package_at (take (length counts) ids) counts ++ package_at (get_or ids (length counts) d ∷ []) (n ∷ [])
one_added [] counts n d l = absurd (omega (arith, l))
one_added (id ∷ ids) [] zero d l = refl
one_added (id ∷ ids) [] (suc n) d l = refl
one_added (id ∷ ids) (zero ∷ counts) n d l = one_added ids counts n d (omega (arith, l))
one_added (id ∷ ids) (suc k ∷ counts) n d l = ap (λ (rest : List (ℕ × ℕ)). (id, suc k) ∷ rest) (one_added ids counts n d (omega (arith, l)))

-- what the first pair adds to a package is what it takes from the left ones
taken_first : (id : ℕ) (left : List (ℕ × ℕ)) → RisesFrom 0 left → package_at (id ∷ []) (first_count id left ∷ []) ++ after_first id left ≡ left
taken_first id [] rises = refl
taken_first id (pair ∷ left) rises = by_test pair.1 (eqb_tells pair.0 id) rises.1 refl
  where
    by_test : (n : ℕ) → ((eqb pair.0 id ≡ true) × (pair.0 ≡ id)) ⊎ ((eqb pair.0 id ≡ false) × (pair.0 ≢ id)) → 1 ≤ n → pair.1 ≡ n
        → package_at (id ∷ []) (cond (eqb pair.0 id) pair.1 0 ∷ []) ++ cond (eqb pair.0 id) left (pair ∷ left) ≡ pair ∷ left
    by_test zero tells some is = absurd (omega (arith, some))
    by_test (suc n) (inl same) some is =
        ap (λ (b : Bool). package_at (id ∷ []) (cond b pair.1 0 ∷ []) ++ cond b left (pair ∷ left)) same.0
        ∙ ap (λ (k : ℕ). package_at (id ∷ []) (k ∷ []) ++ left) is
        ∙ ap (λ (k : ℕ). (k, suc n) ∷ left) (sym same.1) ∙ ap (λ (k : ℕ). (pair.0, k) ∷ left) (sym is)
    by_test (suc n) (inr apart) some is = ap (λ (b : Bool). package_at (id ∷ []) (cond b pair.1 0 ∷ []) ++ cond b left (pair ∷ left)) apart.0

pub whole_more : (ids counts next : List ℕ) (left : List (ℕ × ℕ)) (whole : List (ℕ × ℕ)) (place id : ℕ) → length counts ≡ place → place < length ids → id ≡ get_or ids place 0 → RisesFrom 0 left
    → package_at (take place ids) counts ++ left ≡ whole → next ≡ counts ++ first_count id left ∷ []
    → package_at (take (place + 1) ids) next ++ after_first id left ≡ whole
whole_more ids counts next left whole place id each inside here rises so_far pushed =
    let same : get_or ids (length counts) 0 ≡ id = ap (λ (k : ℕ). get_or ids k 0) each ∙ sym here in
    let added : package_at (take (suc (length counts)) ids) (counts ++ first_count id left ∷ []) ≡ package_at (take (length counts) ids) counts ++ package_at (id ∷ []) (first_count id left ∷ []) =
    one_added ids counts (first_count id left) 0 (omega (arith, each, inside)) ∙ ap (λ (k : ℕ). package_at (take (length counts) ids) counts ++ package_at (k ∷ []) (first_count id left ∷ [])) same in
    let step : suc (length counts) ≡ place + 1 = omega (arith, each) in
    ap (λ (l : List ℕ). package_at (take (place + 1) ids) l ++ after_first id left) pushed
    ∙ ap (λ (k : ℕ). package_at (take k ids) (counts ++ first_count id left ∷ []) ++ after_first id left) (sym step)
    ∙ ap (λ (l : List (ℕ × ℕ)). l ++ after_first id left) added
    ∙ append_assoc (package_at (take (length counts) ids) counts) (package_at (id ∷ []) (first_count id left ∷ [])) (after_first id left)
    ∙ ap (λ (l : List (ℕ × ℕ)). package_at (take (length counts) ids) counts ++ l) (taken_first id left rises)
    ∙ ap (λ (k : ℕ). package_at (take k ids) counts ++ left) each
    ∙ so_far

-- the left pairs after one variable more
pub rises_after : (id : ℕ) (left : List (ℕ × ℕ)) → RisesFrom 0 left → RisesFrom 0 (after_first id left)
rises_after id [] rises = tt
rises_after id (pair ∷ left) rises = by_test (eqb pair.0 id)
  where
    sooner : (low : ℕ) (pairs : List (ℕ × ℕ)) → RisesFrom low pairs → RisesFrom 0 pairs
    sooner low [] h = tt
    sooner low (one ∷ pairs) h = (omega arith, h.1, h.2)

    by_test : (b : Bool) → RisesFrom 0 (cond b left (pair ∷ left))
    by_test true = sooner (suc pair.0) left rises.2
    by_test false = rises

pub later_more : (linear : LinearData) (place id : ℕ) (left : List (ℕ × ℕ)) → IsLinear linear → id ≡ nat_at linear.ids place → RisesFrom 0 left → AreLater linear place left → AreLater linear (place + 1) (after_first id left)
later_more linear place id [] is here rises later = later_none linear place
later_more linear place id (pair ∷ left) is here rises later = ⊎_elim
    (λ (same : (eqb pair.0 id ≡ true) × (pair.0 ≡ id)).
    subst (λ (b : Bool). AreLater linear (place + 1) (cond b left (pair ∷ left))) (sym same.0) (later_taken linear place pair left rises (same.1 ∙ here) later))
    (λ (apart : (eqb pair.0 id ≡ false) × (pair.0 ≢ id)).
    subst (λ (b : Bool). AreLater linear (place + 1) (cond b left (pair ∷ left))) (sym apart.0)
    (later_kept linear place pair left is rises (λ (e : pair.0 ≡ nat_at linear.ids place). apart.1 (e ∙ sym here)) later))
    (eqb_tells pair.0 id)

-- a count that exceeds its upper is of no point
pub count_within : (linear : LinearData) (place id : ℕ) (left : List (ℕ × ℕ)) → IsLinear linear → place < length linear.ids → id ≡ nat_at linear.ids place → AreLater linear place left → first_count id left ≤ nat_at linear.problem.upper place
count_within linear place id [] is inside here later = omega arith
count_within linear place id (pair ∷ left) is inside here later = ⊎_elim
    (λ (same : (eqb pair.0 id ≡ true) × (pair.0 ≡ id)).
    subst (λ (b : Bool). cond b pair.1 0 ≤ nat_at linear.problem.upper place) (sym same.0) (first_within linear place pair left is inside later (same.1 ∙ here)))
    (λ (apart : (eqb pair.0 id ≡ false) × (pair.0 ≢ id)). subst (λ (b : Bool). cond b pair.1 0 ≤ nat_at linear.problem.upper place) (sym apart.0) (omega arith))
    (eqb_tells pair.0 id)

-- counts within the uppers, one more
pub within_more : (uppers counts next : List ℕ) (place n : ℕ) → length counts ≡ place → ((i : ℕ) → i < place → nat_at counts i ≤ nat_at uppers i) → next ≡ counts ++ n ∷ [] → n ≤ nat_at uppers place
    → (i : ℕ) → i < place + 1 → nat_at next i ≤ nat_at uppers i
within_more uppers counts next place n each within pushed small i l = ⊎_elim
    (λ (before : i < place).
    rw (ap (λ (l : List ℕ). get_or l i 0) pushed ∙ get_or_append_left counts (n ∷ []) 0 i (omega (arith, before, each))) (within i before))
    (λ (here : place ≤ i).
    let at : i ≡ length counts = omega (arith, here, l, each) in
    let is : nat_at next i ≡ n = ap (λ (l : List ℕ). get_or l i 0) pushed ∙ ap (λ (k : ℕ). get_or (counts ++ n ∷ []) k 0) at ∙ last counts n in
    rw is (rw (at ∙ each) small))
    (cases_lt i place)
  where
    last : (counts : List ℕ) (n : ℕ) → get_or (counts ++ n ∷ []) (length counts) 0 ≡ n
    last [] n = refl
    last (k ∷ counts) n = last counts n

-- all variables are done
pub point_is : (linear : LinearData) (counts : List ℕ) (left pairs : List (ℕ × ℕ)) (place : ℕ) → IsLinear linear → length linear.ids ≤ place → place ≤ length linear.ids → length counts ≡ place
    → ((i : ℕ) → i < place → nat_at counts i ≤ nat_at linear.problem.upper i) → package_at (take place linear.ids) counts ++ left ≡ pairs → left ≡ [] → IsPointOf linear pairs counts
point_is linear counts left pairs place is all upto each within whole none = record {
  within = record {
    each = omega (arith, each, all, upto, is.each);
    within = λ (i : ℕ) (l : i < variables linear.problem). within i (omega (arith, l, is.each, all));
  };
  same = sym (ap (λ (ids : List ℕ). package_at ids counts) (take_all place linear.ids all)) ∙ sym (append-nil (package_at (take place linear.ids) counts))
      ∙ ap (λ (l : List (ℕ × ℕ)). package_at (take place linear.ids) counts ++ l) (sym none) ∙ whole;
}

pub some_left : (linear : LinearData) (place : ℕ) (left : List (ℕ × ℕ)) → left ≢ [] → length linear.ids ≤ place → AreLater linear place left → ⊥
some_left linear place [] some all later = some refl
some_left linear place (pair ∷ left) some all later = none_left linear place pair left all later
