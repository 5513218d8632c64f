-- Conditions and the rows of a program that keep them.
use Rattle.std.proofs.Common.{◌≡◌, ℕ, zero, suc, ◌^◌, ◌<◌, ◌≤◌, List, [], ◌∷◌, ◌++◌, length, map, get_or, refl, sym, ap, ◌∙◌, ℤ, pos, ◌+ℤ◌, ◌-ℤ◌, ◌≤ℤ◌, neg_ℤ, arith}
use Rattle.std.proofs.lemmas.Int.{ints, clamps}
use Rattle.std.proofs.lemmas.List.{length-map, map-append}
use Rattle.std.specs.Int.RustNames.{unsigned_abs}
use Rattle.std.specs.List.{AllByRecursion, flat_map}
use Rattle.lin_bound.specs.Problem.{value_at}
use Rattle.lin_bound.specs.Sums.{int_at}
use Rattle.package_query.specs.Query.{Holds, Conjunct}
use Rattle.package_query.specs.declared.comparison.Comparison.{Comparison}
use Rattle.package_query.specs.declared.comparison.Comparison.TheVariants.{AtMost, Below, AtLeast, Above, Equals, Between}
use Rattle.package_program.specs.Program.{Side, sides, signed, adds, held, rows_for, rhs_for}

-- a sum that isn't large is at most a number exactly if it is at most the number held
below_held : (sum number : ℤ) → unsigned_abs sum ≤ 2 ^ 60 → sum ≤ℤ number → sum ≤ℤ held number
below_held sum number small h = omega (arith, ints, clamps, small, h)

held_below : (sum number : ℤ) → unsigned_abs sum ≤ 2 ^ 60 → sum ≤ℤ held number → sum ≤ℤ number
held_below sum number small h = omega (arith, ints, clamps, small, h)

negated_below : (sum number : ℤ) → unsigned_abs sum ≤ 2 ^ 60 → number ≤ℤ sum → neg_ℤ sum ≤ℤ held (neg_ℤ number)
negated_below sum number small h =
    below_held (neg_ℤ sum) (neg_ℤ number) (omega (arith, ints, small)) (omega (arith, ints, h))

below_negated : (sum number : ℤ) → unsigned_abs sum ≤ 2 ^ 60 → neg_ℤ sum ≤ℤ held (neg_ℤ number) → number ≤ℤ sum
below_negated sum number small h =
    let turned = held_below (neg_ℤ sum) (neg_ℤ number) (omega (arith, ints, small)) h in omega (arith, ints, turned)

-- a row of a program, with the sum that it is of
pub record Inequality (R : Type 0) : Type 0 where
  pub terms : List (R → ℤ)
  pub side : Side

abbrev pub inequalities : {R : Type 0} → List (R → ℤ) → Comparison → List (Inequality R)
inequalities {R} terms comparison = map (λ (side : Side). record { terms = terms; side = side }) (sides comparison)

abbrev pub inequalities_of : {R : Type 0} → Conjunct R → List (Inequality R)
inequalities_of conjunct = inequalities conjunct.terms conjunct.comparison

-- where each list of terms has a total
abbrev pub IsKept : {R : Type 0} → (List (R → ℤ) → ℤ) → Inequality R → Type 0
IsKept totals kept = signed kept.side.negated (totals kept.terms) ≤ℤ held kept.side.most

abbrev pub KeepsIt : {R : Type 0} → (List (R → ℤ) → ℤ) → Conjunct R → Type 0
KeepsIt totals conjunct = Holds conjunct.comparison (totals conjunct.terms)

one_holds : {R : Type 0} (totals : List (R → ℤ) → ℤ) (terms : List (R → ℤ)) (comparison : Comparison) → unsigned_abs (totals terms) ≤ 2 ^ 60
    → Holds comparison (totals terms) → AllByRecursion (IsKept totals) (inequalities terms comparison)
one_holds totals terms (AtMost most) small h = (below_held (totals terms) most small h, tt)
one_holds totals terms (Below end) small h = (below_held (totals terms) (end -ℤ pos 1) small (omega (arith, ints, h)), tt)
one_holds totals terms (AtLeast least) small h = (negated_below (totals terms) least small h, tt)
one_holds totals terms (Above end) small h = (negated_below (totals terms) (end +ℤ pos 1) small (omega (arith, ints, h)), tt)
one_holds totals terms (Equals number) small h =
    (below_held (totals terms) number small (omega (arith, ints, h)), (negated_below (totals terms) number small (omega (arith, ints, h)), tt))
one_holds totals terms (Between least most) small h =
    (below_held (totals terms) most small h.1, (negated_below (totals terms) least small h.0, tt))

holds_one : {R : Type 0} (totals : List (R → ℤ) → ℤ) (terms : List (R → ℤ)) (comparison : Comparison) → unsigned_abs (totals terms) ≤ 2 ^ 60
    → AllByRecursion (IsKept totals) (inequalities terms comparison) → Holds comparison (totals terms)
holds_one totals terms (AtMost most) small h = held_below (totals terms) most small h.0
holds_one totals terms (Below end) small h = let less = held_below (totals terms) (end -ℤ pos 1) small h.0 in omega (arith, ints, less)
holds_one totals terms (AtLeast least) small h = below_negated (totals terms) least small h.0
holds_one totals terms (Above end) small h = let more = below_negated (totals terms) (end +ℤ pos 1) small h.0 in omega (arith, ints, more)
holds_one totals terms (Equals number) small h =
    let less = held_below (totals terms) number small h.0 in
    let more = below_negated (totals terms) number small h.1.0 in
    omega (arith, ints, less, more)
holds_one totals terms (Between least most) small h =
    (below_negated (totals terms) least small h.1.0, held_below (totals terms) most small h.0)

-- of two lists one after the other
pub all-both : {X : Type 0} (P : X → Type 0) (xs ys : List X) → AllByRecursion P xs → AllByRecursion P ys → AllByRecursion P (xs ++ ys)
all-both P [] ys one other = other
all-both P (x ∷ xs) ys one other = (one.0, all-both P xs ys one.1 other)

pub all-first : {X : Type 0} (P : X → Type 0) (xs ys : List X) → AllByRecursion P (xs ++ ys) → AllByRecursion P xs
all-first P [] ys all = tt
all-first P (x ∷ xs) ys all = (all.0, all-first P xs ys all.1)

pub all-second : {X : Type 0} (P : X → Type 0) (xs ys : List X) → AllByRecursion P (xs ++ ys) → AllByRecursion P ys
all-second P [] ys all = all
all-second P (x ∷ xs) ys all = all-second P xs ys all.1

abbrev pub AreSmall : {R : Type 0} → (List (R → ℤ) → ℤ) → List (Conjunct R) → Type 0
AreSmall {R} totals conjuncts = AllByRecursion (λ (conjunct : Conjunct R). unsigned_abs (totals conjunct.terms) ≤ 2 ^ 60) conjuncts

pub keeps_inequalities : {R : Type 0} (totals : List (R → ℤ) → ℤ) (conjuncts : List (Conjunct R)) → AreSmall totals conjuncts
    → AllByRecursion (KeepsIt totals) conjuncts → AllByRecursion (IsKept totals) (flat_map inequalities_of conjuncts)
keeps_inequalities totals [] small all = tt
keeps_inequalities totals (conjunct ∷ conjuncts) small all =
    all-both (IsKept totals) (inequalities_of conjunct) (flat_map inequalities_of conjuncts)
    (one_holds totals conjunct.terms conjunct.comparison small.0 all.0) (keeps_inequalities totals conjuncts small.1 all.1)

pub inequalities_keep : {R : Type 0} (totals : List (R → ℤ) → ℤ) (conjuncts : List (Conjunct R)) → AreSmall totals conjuncts
    → AllByRecursion (IsKept totals) (flat_map inequalities_of conjuncts) → AllByRecursion (KeepsIt totals) conjuncts
inequalities_keep totals [] small all = tt
inequalities_keep totals (conjunct ∷ conjuncts) small all = (
  holds_one totals conjunct.terms conjunct.comparison small.0 (all-first (IsKept totals) (inequalities_of conjunct) (flat_map inequalities_of conjuncts) all),
  inequalities_keep totals conjuncts small.1 (all-second (IsKept totals) (inequalities_of conjunct) (flat_map inequalities_of conjuncts) all),
)

-- rows by place, and one by one
rows_one_by_one : {K : Type 0} (row : K → List ℤ) (side : K → ℤ) (kept : List K) (x : List ℕ) (n : ℕ)
    → ((j : ℕ) → j < length kept → value_at (get_or (map row kept) j []) x n ≤ℤ int_at (map side kept) j)
    → AllByRecursion (λ (one : K). value_at (row one) x n ≤ℤ side one) kept
rows_one_by_one row side [] x n h = tt
rows_one_by_one row side (one ∷ kept) x n h = (h 0 (omega arith), rows_one_by_one row side kept x n (λ (j : ℕ) (l : j < length kept). h (suc j) (omega arith)))

rows_by_place : {K : Type 0} (row : K → List ℤ) (side : K → ℤ) (kept : List K) (x : List ℕ) (n : ℕ)
    → AllByRecursion (λ (one : K). value_at (row one) x n ≤ℤ side one) kept
    → (j : ℕ) → j < length kept → value_at (get_or (map row kept) j []) x n ≤ℤ int_at (map side kept) j
rows_by_place row side [] x n all j l = absurd (omega (arith, l))
rows_by_place row side (one ∷ kept) x n all zero l = all.0
rows_by_place row side (one ∷ kept) x n all (suc j) l = rows_by_place row side kept x n all.1 j (omega (arith, l))

pub all-to : {X : Type 0} (P Q : X → Type 0) (xs : List X) → ((x : X) → P x → Q x) → AllByRecursion P xs → AllByRecursion Q xs
all-to P Q [] to all = tt
all-to P Q (x ∷ xs) to all = (to x all.0, all-to P Q xs to all.1)

-- the rows of a program are those of its inequalities
abbrev pub row_of : {R : Type 0} → ℕ → List (ℕ × R) → Inequality R → List ℤ
row_of bound rows kept = map (signed kept.side.negated) (adds bound kept.terms rows)

abbrev pub rhs_of : {R : Type 0} → Inequality R → ℤ
rhs_of kept = held kept.side.most

one-rows : {R : Type 0} (bound : ℕ) (rows : List (ℕ × R)) (terms : List (R → ℤ)) (some : List Side)
    → map (λ (side : Side). map (signed side.negated) (adds bound terms rows)) some ≡ map (row_of bound rows) (map (λ (side : Side). record { terms = terms; side = side }) some)
one-rows bound rows terms [] = refl
one-rows bound rows terms (side ∷ some) = ap (λ (l : List (List ℤ)). map (signed side.negated) (adds bound terms rows) ∷ l) (one-rows bound rows terms some)

one-rhs : {R : Type 0} (terms : List (R → ℤ)) (some : List Side)
    → map (λ (side : Side). held side.most) some ≡ map (rhs_of {R = R}) (map (λ (side : Side). record { terms = terms; side = side }) some)
one-rhs terms [] = refl
one-rhs terms (side ∷ some) = ap (λ (l : List ℤ). held side.most ∷ l) (one-rhs terms some)

pub all-rows : {R : Type 0} (bound : ℕ) (rows : List (ℕ × R)) (conjuncts : List (Conjunct R))
    → flat_map (rows_for bound rows) conjuncts ≡ map (row_of bound rows) (flat_map inequalities_of conjuncts)
all-rows bound rows [] = refl
all-rows bound rows (conjunct ∷ conjuncts) =
    ap (λ (l : List (List ℤ)). l ++ flat_map (rows_for bound rows) conjuncts) (one-rows bound rows conjunct.terms (sides conjunct.comparison))
    ∙ ap (λ (l : List (List ℤ)). map (row_of bound rows) (inequalities_of conjunct) ++ l) (all-rows bound rows conjuncts)
    ∙ sym (map-append (row_of bound rows) (inequalities_of conjunct) (flat_map inequalities_of conjuncts))

pub all-rhs : {R : Type 0} (conjuncts : List (Conjunct R)) → flat_map rhs_for conjuncts ≡ map rhs_of (flat_map inequalities_of conjuncts)
all-rhs [] = refl
all-rhs (conjunct ∷ conjuncts) =
    ap (λ (l : List ℤ). l ++ flat_map rhs_for conjuncts) (one-rhs conjunct.terms (sides conjunct.comparison))
    ∙ ap (λ (l : List ℤ). map rhs_of (inequalities_of conjunct) ++ l) (all-rhs conjuncts)
    ∙ sym (map-append rhs_of (inequalities_of conjunct) (flat_map inequalities_of conjuncts))

pub rows_of_inequalities : {K : Type 0} (row : K → List ℤ) (side : K → ℤ) (kept : List K) (rows : List (List ℤ)) (rhs : List ℤ) (x : List ℕ) (m n : ℕ)
    → rows ≡ map row kept → rhs ≡ map side kept → m ≡ n
    → AllByRecursion (λ (one : K). value_at (row one) x n ≤ℤ side one) kept → (j : ℕ) → j < length rows → value_at (get_or rows j []) x m ≤ℤ int_at rhs j
rows_of_inequalities row side kept rows rhs x m n rows_is rhs_is m_is all =
    rw (rows_is, rhs_is, m_is) (λ (j : ℕ) (l : j < length (map row kept)). rows_by_place row side kept x n all j (rw length-map at l))

pub inequalities_of_rows : {K : Type 0} (row : K → List ℤ) (side : K → ℤ) (kept : List K) (rows : List (List ℤ)) (rhs : List ℤ) (x : List ℕ) (m n : ℕ)
    → rows ≡ map row kept → rhs ≡ map side kept → m ≡ n
    → ((j : ℕ) → j < length rows → value_at (get_or rows j []) x m ≤ℤ int_at rhs j) → AllByRecursion (λ (one : K). value_at (row one) x n ≤ℤ side one) kept
inequalities_of_rows row side kept rows rhs x m n rows_is rhs_is m_is h =
    let same : (j : ℕ) → j < length (map row kept) → value_at (get_or (map row kept) j []) x n ≤ℤ int_at (map side kept) j = rw (rows_is, rhs_is, m_is) at h in
    rows_one_by_one row side kept x n (λ (j : ℕ) (l : j < length kept). same j (rw length-map l))
