-- A package meets a query exactly if it breaks it at no place.
use Rattle.std.proofs.Common.{◌≡◌, ℕ, ◌+◌, ◌≤◌, ◌≤ℤ◌, ◌&&◌, Bool, true, false, if◌then◌else◌, List, [], ◌∷◌, ◌++◌, Option, Some, None, ℤ, IsTrue, IfSome, refl, ap, ◌∙◌, arith}
use Rattle.std.specs.List.{AllByRecursion}
use Rattle.std.proofs.lemmas.Bool.{leb-true, le-leb}
use Rattle.std.proofs.lemmas.Bool.Decides.{Decides-int_eq}
use Rattle.std.proofs.lemmas.Int.{ints}
use lib.Signed.{le_z}
use Rattle.std.specs.Cmp.{first_so, second_so}
use Rattle.package_query.specs.Package.{IsPackage, row_at}
use Rattle.package_query.specs.Query.{Conjunct, PackageQuery, Holds}
use Rattle.package_query.specs.Meaning.{IsAllowed, Keeps, Meets, total}
use Rattle.package_query.specs.declared.comparison.Comparison.{Comparison}
use Rattle.package_query.specs.declared.comparison.Comparison.TheVariants.{AtMost, Below, AtLeast, Above, Equals, Between}
use Rattle.package_judge.specs.declared.judging.Place.{Place}
use Rattle.package_judge.specs.declared.judging.Place.TheVariants as places
use Rattle.package_judge.specs.Verdicts.{row_breaks, count_breaks, pair_breaks, pairs_break, keeps, conjuncts_break, breaks, first}

-- ---- the first place

pub first-some : (before later : List Place) (place : Place) → first before ≡ Some place → first (before ++ later) ≡ Some place
first-some [] later place is = let no : ⊥ = cc in absurd no
first-some (one ∷ more) later place is = is

pub first-none : (before : List Place) → first before ≡ None → before ≡ []
first-none [] none = refl
first-none (one ∷ more) none = let no : ⊥ = cc in absurd no

pub first-later : (before later : List Place) → first before ≡ None → first (before ++ later) ≡ first later
first-later before later none = ap (λ (places : List Place). first (places ++ later)) (first-none before none)

-- ---- lists without places

append_nil-first : (before later : List Place) → before ++ later ≡ [] → before ≡ []
append_nil-first [] later nil = refl
append_nil-first (one ∷ more) later nil = let no : ⊥ = cc in absurd no

append_nil-later : (before later : List Place) → before ++ later ≡ [] → later ≡ []
append_nil-later [] later nil = nil
append_nil-later (one ∷ more) later nil = let no : ⊥ = cc in absurd no

append-nils : (before later : List Place) → before ≡ [] → later ≡ [] → before ++ later ≡ []
append-nils before later first_nil later_nil = ap (λ (places : List Place). places ++ later) first_nil ∙ later_nil

pub no_places : (before later : List Place) → first before ≡ None → first later ≡ None → before ++ later ≡ []
no_places before later none none_later = append-nils before later (first-none before none) (first-none later none_later)

unbroken : (test : Bool) (place : Place) → (if test then [] else place ∷ []) ≡ [] → IsTrue test
unbroken true place nil = refl
unbroken false place nil = let no : ⊥ = cc in absurd no

none_if : (test : Bool) (place : Place) → IsTrue test → (if test then [] else place ∷ []) ≡ []
none_if test place holds = ap (λ (b : Bool). if b then [] else place ∷ []) holds

-- ---- pairs

row-unbroken : {R : Type 0} (passes : R → Bool) (id : ℕ) (found : Option R) → row_breaks passes id found ≡ [] → (row : R) × (found ≡ Some row) × IsTrue (passes row)
row-unbroken passes id None nil = let no : ⊥ = cc in absurd no
row-unbroken passes id (Some row) nil = (row, refl, unbroken (passes row) (places.Where id) nil)

count-unbroken : (repeat : Option ℕ) (pair : ℕ × ℕ) → count_breaks repeat pair ≡ [] → IfSome repeat (λ (k : ℕ). pair.1 ≤ k + 1)
count-unbroken None pair nil = tt
count-unbroken (Some k) pair nil = leb-true pair.1 (k + 1) (unbroken _ (places.Repeat pair.0) nil)

count-none : (repeat : Option ℕ) (pair : ℕ × ℕ) → IfSome repeat (λ (k : ℕ). pair.1 ≤ k + 1) → count_breaks repeat pair ≡ []
count-none None pair few = refl
count-none (Some k) pair few = none_if _ (places.Repeat pair.0) (le-leb pair.1 (k + 1) few)

-- the row is there and passes: what is left is how often it is taken
pub pair_breaks-count : {R : Type 0} (query : PackageQuery R) (rows : List (ℕ × R)) (pair : ℕ × ℕ) (row : R) → row_at pair.0 rows ≡ Some row → IsTrue (query.passes row) → pair_breaks query rows pair ≡ count_breaks query.repeat pair
pair_breaks-count {R} query rows pair row found passes =
    ap (λ (r : Option R). row_breaks query.passes pair.0 r ++ count_breaks query.repeat pair) found
    ∙ ap (λ (places : List Place). places ++ count_breaks query.repeat pair) (none_if (query.passes row) (places.Where pair.0) passes)

-- the row is there and doesn't pass
pub pair_breaks-where : {R : Type 0} (query : PackageQuery R) (rows : List (ℕ × R)) (pair : ℕ × ℕ) (row : R) → row_at pair.0 rows ≡ Some row → query.passes row ≡ false → pair_breaks query rows pair ≡ places.Where pair.0 ∷ count_breaks query.repeat pair
pair_breaks-where {R} query rows pair row found fails =
    ap (λ (r : Option R). row_breaks query.passes pair.0 r ++ count_breaks query.repeat pair) found
    ∙ ap (λ (test : Bool). (if test then [] else places.Where pair.0 ∷ []) ++ count_breaks query.repeat pair) fails

pub allowed : {R : Type 0} (query : PackageQuery R) (rows : List (ℕ × R)) (pairs : List (ℕ × ℕ)) → pairs_break query rows pairs ≡ [] → AllByRecursion (IsAllowed query rows) pairs
allowed query rows [] nil = tt
allowed query rows (pair ∷ pairs) nil =
    let here = append_nil-first (pair_breaks query rows pair) (pairs_break query rows pairs) nil in
    let later = append_nil-later (pair_breaks query rows pair) (pairs_break query rows pairs) nil in
    let row = row-unbroken query.passes pair.0 (row_at pair.0 rows) (append_nil-first (row_breaks query.passes pair.0 (row_at pair.0 rows)) (count_breaks query.repeat pair) here) in
    let count = count-unbroken query.repeat pair (append_nil-later (row_breaks query.passes pair.0 (row_at pair.0 rows)) (count_breaks query.repeat pair) here) in
    (record { row = row.0; found = row.1; passes = row.2; copies = count }, allowed query rows pairs later)

pairs-unbroken : {R : Type 0} (query : PackageQuery R) (rows : List (ℕ × R)) (pairs : List (ℕ × ℕ)) → AllByRecursion (IsAllowed query rows) pairs → pairs_break query rows pairs ≡ []
pairs-unbroken query rows [] each = refl
pairs-unbroken query rows (pair ∷ pairs) each =
    append-nils (pair_breaks query rows pair) (pairs_break query rows pairs)
    (pair_breaks-count query rows pair each.0.row each.0.found each.0.passes ∙ count-none query.repeat pair each.0.copies)
    (pairs-unbroken query rows pairs each.1)

-- ---- conjuncts

le_if : (one other : ℤ) → IsTrue (le_z one other) → one ≤ℤ other
le_if one other test = grind (arith, ints)

le_then : (one other : ℤ) → one ≤ℤ other → IsTrue (le_z one other)
le_then one other le = grind (arith, ints)

both_true : (one other : Bool) → IsTrue one → IsTrue other → IsTrue (one && other)
both_true true other first second = second
both_true false other first second = first

holds_if : (comparison : Comparison) (sum : ℤ) → IsTrue (keeps comparison sum) → Holds comparison sum
holds_if (AtMost most) sum kept = grind (arith, ints)
holds_if (Below end) sum kept = grind (arith, ints)
holds_if (AtLeast least) sum kept = grind (arith, ints)
holds_if (Above end) sum kept = grind (arith, ints)
holds_if (Equals number) sum kept = (Decides-int_eq sum number).0 kept
holds_if (Between least most) sum kept = (
  le_if least sum (first_so (le_z least sum) (le_z sum most) kept),
  le_if sum most (second_so (le_z least sum) (le_z sum most) kept),
)

kept_if : (comparison : Comparison) (sum : ℤ) → Holds comparison sum → IsTrue (keeps comparison sum)
kept_if (AtMost most) sum holds = grind (arith, ints)
kept_if (Below end) sum holds = grind (arith, ints)
kept_if (AtLeast least) sum holds = grind (arith, ints)
kept_if (Above end) sum holds = grind (arith, ints)
kept_if (Equals number) sum holds = (Decides-int_eq sum number).1 holds
kept_if (Between least most) sum holds =
    both_true (le_z least sum) (le_z sum most) (le_then least sum holds.0) (le_then sum most holds.1)

kept_all : {R : Type 0} (rows : List (ℕ × R)) (pairs : List (ℕ × ℕ)) (number : ℕ) (conjuncts : List (Conjunct R)) → conjuncts_break rows pairs number conjuncts ≡ [] → AllByRecursion (Keeps rows pairs) conjuncts
kept_all rows pairs number [] nil = tt
kept_all rows pairs number (conjunct ∷ conjuncts) nil =
    let test = keeps conjunct.comparison (total conjunct.terms rows pairs) in
    let here = append_nil-first (if test then [] else places.Conjunct number ∷ []) (conjuncts_break rows pairs (number + 1) conjuncts) nil in
    let later = append_nil-later (if test then [] else places.Conjunct number ∷ []) (conjuncts_break rows pairs (number + 1) conjuncts) nil in
    (holds_if conjunct.comparison (total conjunct.terms rows pairs) (unbroken test (places.Conjunct number) here), kept_all rows pairs (number + 1) conjuncts later)

conjuncts-unbroken : {R : Type 0} (rows : List (ℕ × R)) (pairs : List (ℕ × ℕ)) (number : ℕ) (conjuncts : List (Conjunct R)) → AllByRecursion (Keeps rows pairs) conjuncts → conjuncts_break rows pairs number conjuncts ≡ []
conjuncts-unbroken rows pairs number [] each = refl
conjuncts-unbroken rows pairs number (conjunct ∷ conjuncts) each =
    let test = keeps conjunct.comparison (total conjunct.terms rows pairs) in
    append-nils (if test then [] else places.Conjunct number ∷ []) (conjuncts_break rows pairs (number + 1) conjuncts)
    (none_if test (places.Conjunct number) (kept_if conjunct.comparison (total conjunct.terms rows pairs) each.0))
    (conjuncts-unbroken rows pairs (number + 1) conjuncts each.1)

-- ---- the law

pub meets_if : {R : Type 0} (query : PackageQuery R) (rows : List (ℕ × R)) (pairs : List (ℕ × ℕ)) → IsPackage pairs → breaks query rows pairs ≡ [] → Meets query rows pairs
meets_if query rows pairs rises nil = record {
  rises = rises;
  each = allowed query rows pairs (append_nil-first (pairs_break query rows pairs) (conjuncts_break rows pairs 1 query.conjuncts) nil);
  conjuncts = kept_all rows pairs 1 query.conjuncts (append_nil-later (pairs_break query rows pairs) (conjuncts_break rows pairs 1 query.conjuncts) nil);
}

pub nothing_breaks : {R : Type 0} (query : PackageQuery R) (rows : List (ℕ × R)) (pairs : List (ℕ × ℕ)) → Meets query rows pairs → breaks query rows pairs ≡ []
nothing_breaks query rows pairs meets =
    append-nils (pairs_break query rows pairs) (conjuncts_break rows pairs 1 query.conjuncts)
    (pairs-unbroken query rows pairs meets.each)
    (conjuncts-unbroken rows pairs 1 query.conjuncts meets.conjuncts)
