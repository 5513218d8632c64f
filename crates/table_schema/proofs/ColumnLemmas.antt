-- Lemmas on the faults of columns.
use Rattle.std.proofs.Common.{◌≡◌, ◌≢◌, ℕ, ◌+◌, ◌<◌, ◌≤◌, Bool, true, false, ltb, List, [], ◌∷◌, ◌++◌, length, take, drop, get_or, Some, None, is_some, refl, sym, ap, subst, ◌∙◌, length-append, append_assoc, append-nil, add-one, arith, slice_get}
use Rattle.std.proofs.Math.Seq.{drop-cons, take-suc}
use Rattle.std.proofs.Math.ListN.{drop_of_length-le}
use Rattle.std.proofs.lemmas.List.{length-take}
use Rattle.std.specs.Prelude.{All, AllPairs, IsTrue}
use Rattle.std.specs.List.{AllByRecursion, position_from}
use Rattle.std.specs.Str.{bytes_eq}
use Rattle.std.proofs.Math.ListN.{get_or-append}
use Rattle.std.proofs.Math.Seq.{get_or-append_seam}
use Rattle.std.proofs.lemmas.List.Elements.{All-from_recursion, recursion_from_All}
use Rattle.std.proofs.lemmas.List.Quantifiers.{all_pairs_push}
use Rattle.std.proofs.lemmas.Slice.Eq.{bytes_eq-Decides}
use borrow.Author.Tests.{ltb-false, le-ltb, lt-ltb}
use Rattle.schema_types.specs.declared.Column.{Column}
use Rattle.table_schema.specs.Columns.{has_legal_scale, place_of, scale_faults, name_faults, column_faults, schema_faults, IsSchema}
use Rattle.table_schema.specs.declared.limits.TheConstants.{MAX_COLUMNS}
use Rattle.table_schema.specs.declared.schema.SchemaFault.{SchemaFault}
use Rattle.table_schema.specs.declared.schema.SchemaFault.TheVariants.{TooManyColumns, BadScale, DuplicateColumn}

-- the faults of the columns from a place on
abbrev pub faults_from : ℕ → List Column → List SchemaFault
faults_from place columns = column_faults (take place columns) (drop place columns)

length_before : (place : ℕ) (columns : List Column) → place < length columns → length (take place columns) ≡ place
length_before place columns h = omega (arith, length-take place columns)

-- the column at a place, and those after it
at_column : (place : ℕ) (columns : List Column) (d : Column) → place < length columns → faults_from place columns ≡ scale_faults place (get_or columns place d) ++ (name_faults (take place columns) (get_or columns place d) ++ faults_from (place + 1) columns)
at_column place columns d h = rw (drop-cons columns place d h, length_before place columns h, ← take-suc columns place d h, add-one) refl

pub few_faults : (columns : List Column) → length columns ≤ MAX_COLUMNS → schema_faults columns ≡ faults_from 0 columns
few_faults columns few = rw (le-ltb MAX_COLUMNS (length columns) few) refl

pub many_faults : (columns : List Column) → MAX_COLUMNS < length columns → slice_get (schema_faults columns) 0 ≡ Some (TooManyColumns (length columns))
many_faults columns many = rw (lt-ltb MAX_COLUMNS (length columns) many) refl

pub bad_scale : (place : ℕ) (columns : List Column) (d : Column) → place < length columns → has_legal_scale (get_or columns place d).kind ≡ false → slice_get (faults_from place columns) 0 ≡ Some (BadScale place)
bad_scale place columns d h bad = rw (at_column place columns d h, bad) refl

pub duplicate : (place : ℕ) (columns : List Column) (d : Column) → place < length columns → has_legal_scale (get_or columns place d).kind ≡ true → is_some (place_of (get_or columns place d).name (take place columns)) ≡ true → slice_get (faults_from place columns) 0 ≡ Some (DuplicateColumn place)
duplicate place columns d h good there = rw (at_column place columns d h, good, there, length_before place columns h) refl

pub sound : (place : ℕ) (columns : List Column) (d : Column) → place < length columns → has_legal_scale (get_or columns place d).kind ≡ true → is_some (place_of (get_or columns place d).name (take place columns)) ≡ false → faults_from place columns ≡ faults_from (place + 1) columns
sound place columns d h good new = at_column place columns d h ∙ rw (good, new) refl

pub no_more : (place : ℕ) (columns : List Column) → length columns ≤ place → faults_from place columns ≡ []
no_more place columns end = rw (drop_of_length-le columns end) refl

-- a list without a first entry is empty
pub none_first : (faults : List SchemaFault) → None ≡ slice_get faults 0 → faults ≡ []
none_first [] e = refl
none_first (fault ∷ faults) e = absurd (cc)

-- ---- no fault exactly if the columns are those of a table

abbrev pub IsGood : Column → Type 0
IsGood column = IsTrue (has_legal_scale column.kind)

abbrev pub AreApart : Column → Column → Type 0
AreApart one other = one.name ≢ other.name

-- only an append of empty lists is empty
both_empty : (one other : List SchemaFault) → one ++ other ≡ [] → (one ≡ []) × (other ≡ [])
both_empty [] other e = (refl, e)
both_empty (fault ∷ one) other e = absurd (cc)

tests_apart : (b : Bool) → b ≡ true → b ≡ false → ⊥
tests_apart b is other = absurd (cc)

good_scale : (place : ℕ) (column : Column) → scale_faults place column ≡ [] → IsGood column
good_scale place column e = by_test (has_legal_scale column.kind) refl
  where
    by_test : (b : Bool) → has_legal_scale column.kind ≡ b → IsGood column
    by_test true is = is
    by_test false is = let given = rw is at e in absurd (cc)

new_name : (before : List Column) (column : Column) → name_faults before column ≡ [] → is_some (place_of column.name before) ≡ false
new_name before column e = by_test (is_some (place_of column.name before)) refl
  where
    by_test : (b : Bool) → is_some (place_of column.name before) ≡ b → is_some (place_of column.name before) ≡ false
    by_test true is = let given = rw is at e in absurd (cc)
    by_test false is = is

-- a name has no place among columns exactly if none has it
none_named : (name : List ℕ) (start : ℕ) (columns : List Column) → is_some (position_from (λ (column : Column). bytes_eq column.name name) start columns) ≡ false → AllByRecursion (λ (column : Column). column.name ≢ name) columns
none_named name start [] e = tt
none_named name start (column ∷ columns) e = by_test (bytes_eq column.name name) refl (λ is. none_named name (start + 1) columns (rw is at e))
  where
    by_test : (b : Bool) → bytes_eq column.name name ≡ b → (bytes_eq column.name name ≡ false → AllByRecursion (λ (column : Column). column.name ≢ name) columns) → AllByRecursion (λ (column : Column). column.name ≢ name) (column ∷ columns)
    by_test true is rest = let given = rw is at e in absurd (cc)
    by_test false is rest = (λ same. tests_apart _ ((bytes_eq-Decides column.name name).1 same) is, rest is)

not_named : (name : List ℕ) (start : ℕ) (columns : List Column) → AllByRecursion (λ (column : Column). column.name ≢ name) columns → is_some (position_from (λ (column : Column). bytes_eq column.name name) start columns) ≡ false
not_named name start [] all = refl
not_named name start (column ∷ columns) all = by_test (bytes_eq column.name name) refl (not_named name (start + 1) columns all.1)
  where
    by_test : (b : Bool) → bytes_eq column.name name ≡ b → is_some (position_from (λ (column : Column). bytes_eq column.name name) (start + 1) columns) ≡ false → is_some (position_from (λ (column : Column). bytes_eq column.name name) start (column ∷ columns)) ≡ false
    by_test true is rest = absurd (all.0 ((bytes_eq-Decides column.name name).0 is))
    by_test false is rest = rw is rest

-- columns after others that have no fault
faultless : (before columns : List Column) → AllPairs AreApart before → column_faults before columns ≡ [] → AllByRecursion IsGood columns × AllPairs AreApart (before ++ columns)
faultless before [] pairs e = (tt, subst (AllPairs AreApart) (sym (append-nil before)) pairs)
faultless before (column ∷ columns) pairs e =
    let rest = name_faults before column ++ column_faults (before ++ column ∷ []) columns in
    let scale = both_empty (scale_faults (length before) column) rest e in
    let names = both_empty (name_faults before column) (column_faults (before ++ column ∷ []) columns) scale.1 in
    let apart = none_named column.name 0 before (new_name before column names.0) in
    let longer = all_pairs_push AreApart before column pairs (All-from_recursion (λ (other : Column). other.name ≢ column.name) before apart) in
    let later = faultless (before ++ column ∷ []) columns longer names.1 in
    ((good_scale (length before) column scale.0, later.0), subst (AllPairs AreApart) (append_assoc before (column ∷ []) columns) later.1)

without_faults : (before columns : List Column) → AllByRecursion IsGood columns → AllPairs AreApart (before ++ columns) → column_faults before columns ≡ []
without_faults before [] good pairs = refl
without_faults before (column ∷ columns) good pairs =
    let apart : All (λ (other : Column). other.name ≢ column.name) before = λ k d h.
    let here : get_or (before ++ column ∷ columns) k d ≡ get_or before k d = get_or-append before (column ∷ columns) d k h in
    let there : get_or (before ++ column ∷ columns) (length before) d ≡ column = get_or-append_seam before column columns d in
    let within : length before < length (before ++ column ∷ columns) = omega (arith, length-append before (column ∷ columns)) in
    let given = pairs k (length before) d h within in
    λ same. given (ap (λ (c : Column). c.name) here ∙ (same ∙ sym (ap (λ (c : Column). c.name) there))) in
    let new : is_some (place_of column.name before) ≡ false = not_named column.name 0 before (recursion_from_All (λ (other : Column). other.name ≢ column.name) before apart) in
    let scale : has_legal_scale column.kind ≡ true = good.0 in
    let later : column_faults (before ++ column ∷ []) columns ≡ [] = without_faults (before ++ column ∷ []) columns good.1 (subst (AllPairs AreApart) (sym (append_assoc before (column ∷ []) columns)) pairs) in
    rw (scale, new) later

-- more columns than a table can have are a fault
few_columns : (columns : List Column) → schema_faults columns ≡ [] → length columns ≤ MAX_COLUMNS
few_columns columns e = by_test (ltb MAX_COLUMNS (length columns)) refl
  where
    by_test : (b : Bool) → ltb MAX_COLUMNS (length columns) ≡ b → length columns ≤ MAX_COLUMNS
    by_test true is = let given = rw is at e in absurd (cc)
    by_test false is = ltb-false _ _ is

pub is_schema : (columns : List Column) → 0 < length columns → schema_faults columns ≡ [] → IsSchema columns
is_schema columns some e =
    let few = few_columns columns e in
    let none : column_faults [] columns ≡ [] = sym (few_faults columns few) ∙ e in
    let parts = faultless [] columns (λ i j d below within. absurd (omega (arith, within))) none in
    record {
      some = some;
      few = few;
      scales = All-from_recursion IsGood columns parts.0;
      names = parts.1;
    }

pub no_faults : (columns : List Column) → IsSchema columns → schema_faults columns ≡ []
no_faults columns schema = few_faults columns schema.few ∙ without_faults [] columns (recursion_from_All IsGood columns schema.scales) schema.names
