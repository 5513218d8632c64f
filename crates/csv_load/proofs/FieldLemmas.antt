-- Lemmas on the fields of a record, column by column.
use Rattle.std.proofs.Common.{◌≡◌, ℕ, zero, suc, ◌+◌, ◌<◌, ◌≤◌, List, [], ◌∷◌, ◌++◌, length, take, drop, get_or, Some, None, Result, Ok, Err, refl, sym, ap, subst, ◌∙◌, append_assoc, append-nil, add-one, arith}
use Rattle.std.proofs.Math.Seq.{drop-cons, take-suc}
use Rattle.std.proofs.Math.ListN.{drop_of_length-le}
use Rattle.std.proofs.lemmas.List.{get_or-map, length-map}
use Rattle.csv.specs.Records.{field_at}
use Rattle.schema_types.specs.declared.Column.{Column}
use Rattle.schema_types.specs.declared.Lit.{Lit}
use Rattle.csv_load.specs.Fields.{FieldGives, FieldsGive, with_first}
use Rattle.csv_load.specs.Fields.FieldsGive.{no_more_fields, bad_field, good_field}
use Rattle.csv_load.specs.Loading.{names_of}

-- ---- fields by their places

field_is : (fields : List (List ℕ)) (place : ℕ) (field : List ℕ) → Some field ≡ field_at fields place → field ≡ get_or fields place field
unfolding field_at
field_is [] place field e = absurd (cc)
field_is (first ∷ fields) zero field e = cc
field_is (first ∷ fields) (suc place) field e = field_is fields place field e

field_there : (fields : List (List ℕ)) (place : ℕ) (d : List ℕ) → place < length fields → field_at fields place ≡ Some (get_or fields place d)
unfolding field_at
field_there [] place d h = absurd (omega (arith, h))
field_there (first ∷ fields) zero d h = refl
field_there (first ∷ fields) (suc place) d h = field_there fields place d (omega (arith, h))

pub field_within : (fields : List (List ℕ)) (place : ℕ) (field : List ℕ) → Some field ≡ field_at fields place → place < length fields
unfolding field_at
field_within [] place field e = absurd (cc)
field_within (first ∷ fields) zero field e = omega arith
field_within (first ∷ fields) (suc place) field e = omega (arith, field_within fields place field e)

pub no_field : (fields : List (List ℕ)) (place : ℕ) → place < length fields → None ≡ field_at fields place → ⊥
no_field fields place h none = let there = none ∙ field_there fields place [] h in absurd (cc)

-- ---- the header

pub same_count : (fields : List (List ℕ)) (columns : List Column) → fields ≡ names_of columns → length fields ≡ length columns
same_count fields columns e = ap length e ∙ length-map columns (λ (column : Column). column.name)

name_there : (columns : List Column) (place : ℕ) (column : Column) → place < length columns → column ≡ get_or columns place column → get_or (names_of columns) place [] ≡ column.name
name_there columns place column h is = get_or-map (λ (c : Column). c.name) columns place column [] h ∙ ap (λ (c : Column). c.name) (sym is)

pub header_field : (fields : List (List ℕ)) (columns : List Column) (place : ℕ) (column : Column) → fields ≡ names_of columns → place < length columns → column ≡ get_or columns place column → field_at fields place ≡ Some column.name
header_field fields columns place column e h is =
    let within : place < length fields = omega (arith, h, same_count fields columns e) in
    field_there fields place [] within ∙ (ap (λ (f : List (List ℕ)). Some (get_or f place [])) e ∙ ap Some (name_there columns place column h is))

pub one_more_name : (fields : List (List ℕ)) (columns : List Column) (place : ℕ) (column : Column) → length fields ≡ length columns → place < length columns → column ≡ get_or columns place column → field_at fields place ≡ Some column.name → take place fields ≡ take place (names_of columns) → take (place + 1) fields ≡ take (place + 1) (names_of columns)
one_more_name fields columns place column lengths h is there same =
    let within : place < length fields = omega (arith, h, lengths) in
    let among : place < length (names_of columns) = omega (arith, h, length-map columns (λ (c : Column). c.name)) in
    let found : Some (get_or fields place []) ≡ Some column.name = sym (field_there fields place [] within) ∙ there in
    let name : get_or fields place [] ≡ get_or (names_of columns) place [] = let equal : get_or fields place [] ≡ column.name = cc in equal ∙ sym (name_there columns place column h is) in
    rw (add-one, take-suc fields place [] within, take-suc (names_of columns) place [] among, same, name) refl

-- ---- the fields of a row

-- what was given, before what is still given
abbrev pub after : {A E : Type 0} → List A → Result (List A) E → Result (List A) E
after done (Ok more) = Ok (done ++ more)
after done (Err fault) = Err fault

pub after-with_first : {A E : Type 0} (done : List A) (entry : A) (result : Result (List A) E) → after done (with_first entry result) ≡ after (done ++ entry ∷ []) result
after-with_first done entry (Ok more) = ap Ok (sym (append_assoc done (entry ∷ []) more))
after-with_first done entry (Err fault) = refl

-- what fields give from a place on decides what all of them give
abbrev pub Goes : List Column → List (List ℕ) → List Lit → ℕ → Type 0
Goes columns fields done place = (result : Result (List Lit) ℕ) → FieldsGive place (drop place columns) (drop place fields) result → FieldsGive 0 columns fields (after done result)

pub goes_from_start : (columns : List Column) (fields : List (List ℕ)) → Goes columns fields [] 0
goes_from_start columns fields (Ok lits) gives = gives
goes_from_start columns fields (Err place) gives = gives

at_place : {A : Type 0} (xs : List A) (place : ℕ) (x : A) → place < length xs → x ≡ get_or xs place x → x ∷ drop (place + 1) xs ≡ drop place xs
at_place xs place x h is = sym (drop-cons xs place x h ∙ (rw add-one (ap (λ (y : _). y ∷ drop (suc place) xs) (sym is))))

here : (columns : List Column) (fields : List (List ℕ)) (place : ℕ) (column : Column) (field : List ℕ) (result : Result (List Lit) ℕ) → place < length columns → place < length fields → column ≡ get_or columns place column → Some field ≡ field_at fields place → FieldsGive place (column ∷ drop (place + 1) columns) (field ∷ drop (place + 1) fields) result → FieldsGive place (drop place columns) (drop place fields) result
here columns fields place column field result h within is there gives =
    subst (λ (cs : List Column). FieldsGive place cs (drop place fields) result) (at_place columns place column h is)
    (subst (λ (fs : List (List ℕ)). FieldsGive place (column ∷ drop (place + 1) columns) fs result) (at_place fields place field within (field_is fields place field there)) gives)

pub one_more_lit : (columns : List Column) (fields : List (List ℕ)) (done : List Lit) (place : ℕ) (column : Column) (field : List ℕ) (lit : Lit) → place < length columns → column ≡ get_or columns place column → Some field ≡ field_at fields place → FieldGives column.kind field (Some lit) → Goes columns fields done place → Goes columns fields (done ++ lit ∷ []) (place + 1)
one_more_lit columns fields done place column field lit h is there gives go result more =
    subst (FieldsGive 0 columns fields) (after-with_first done lit result)
    (go (with_first lit result) (here columns fields place column field (with_first lit result) h (field_within fields place field there) is there (good_field place column (drop (place + 1) columns) field (drop (place + 1) fields) lit result gives more)))

pub bad_lit : (columns : List Column) (fields : List (List ℕ)) (done : List Lit) (place : ℕ) (column : Column) (field : List ℕ) → place < length columns → column ≡ get_or columns place column → Some field ≡ field_at fields place → FieldGives column.kind field None → Goes columns fields done place → FieldsGive 0 columns fields (Err place)
bad_lit columns fields done place column field h is there gives go =
    go (Err place) (here columns fields place column field (Err place) h (field_within fields place field there) is there (bad_field place column (drop (place + 1) columns) field (drop (place + 1) fields) gives))

pub all_lits : (columns : List Column) (fields : List (List ℕ)) (done : List Lit) (place : ℕ) → length columns ≤ place → length fields ≤ place → Goes columns fields done place → FieldsGive 0 columns fields (Ok done)
all_lits columns fields done place end other go =
    let none : FieldsGive place (drop place columns) (drop place fields) (Ok []) = rw (drop_of_length-le columns end, drop_of_length-le fields other) (no_more_fields place) in
    subst (λ (lits : List Lit). FieldsGive 0 columns fields (Ok lits)) (append-nil done) (go (Ok []) none)
