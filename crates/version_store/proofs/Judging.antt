-- Lemmas on the first faults of conditions, columns, SETs and partitions.
use Rattle.std.proofs.Common.{◌≡◌, ℕ, suc, ◌<◌, Bool, true, false, inl, List, [], ◌∷◌, ◌++◌, length, drop, take, get_or, Option, Some, None, Result, Ok, Err, refl, sym, ap, ◌∙◌, append_assoc, slice_get}
use Rattle.std.specs.Prelude.{map, is_some, IsOk, if◌then◌else◌}
use Rattle.std.proofs.Math.Seq.{drop-cons}
use Rattle.schema_types.specs.declared.Column.{Column}
use Rattle.schema_types.specs.declared.Lit.{Lit}
use Rattle.table_schema.specs.Cells.{cell_gives}
use Rattle.table_schema.specs.Columns.{place_of, schema_faults}
use Rattle.table_schema.specs.declared.cells.Cell.{Cell}
use Rattle.table_schema.specs.declared.cells.CellFault.{CellFault}
use Rattle.table_schema.specs.declared.schema.SchemaFault.{SchemaFault}
use Rattle.paql_ast.specs.declared.conditions.Pred.{Pred}
use Rattle.paql_bind.specs.Conditions.{pred_faults}
use Rattle.paql_bind.specs.Faults.{IsFirst}
use Rattle.paql_bind.specs.Names.{scope, is_text_kind, number_or_zero}
use Rattle.paql_bind.specs.declared.faults.Refusal.{Refusal}
use Rattle.paql_bind.specs.declared.faults.Refusal.TheVariants.{NoColumn, WrongKind}
use Rattle.snapshots.specs.declared.tables.Table.{Table}
use Rattle.version_store.specs.Changes.{put, put_in, put_cell}
use Rattle.version_store.specs.Faults.{column_named, condition_faults, group_faults, is_among, made_fault, no_column, of_cell, set_faults, set_kind, text_faults, twice, value_faults}
use Rattle.version_store.specs.Performing.{Says, IsDue, own_group_faults, own_set_faults, set_names}
use Rattle.version_store.specs.declared.faults.CommitKind.{CommitKind}
use Rattle.version_store.specs.declared.faults.CommitKind.TheVariants.{Binding, DuplicateColumn}
use Rattle.version_store.proofs.Performed.{due_first, due_left}

-- ---- conditions

first_bound : (faults : List Refusal) (refusal : Refusal) → IsFirst faults refusal → IsDue (map Binding faults) (Binding refusal)
first_bound [] refusal is = absurd is
first_bound (first ∷ later) refusal is = inl (ap Some (ap Binding is))

pub refused_condition : (table : Table) (filter : Option Pred) (pred : Pred) (alias : List ℕ) (refusal : Refusal) → filter ≡ Some pred → alias ≡ table.name → IsFirst (pred_faults (scope table.columns alias) pred) refusal → IsDue (condition_faults table filter) (Binding refusal)
refused_condition table filter pred alias refusal is same first =
    rw (is, ← same) (first_bound (pred_faults (scope table.columns alias) pred) refusal first)

-- ---- columns of a new table

first_of : (columns : List Column) (faults : List SchemaFault) (made : SchemaFault) (kind : CommitKind) → slice_get faults 0 ≡ Some made → Says (made_fault columns made) kind → IsDue (map (made_fault columns) faults) kind
first_of columns [] made kind is says = absurd (cc)
first_of columns (first ∷ faults) made kind is says =
    let same : first ≡ made = cc in
    due_first (map (made_fault columns) (first ∷ faults)) (map (made_fault columns) faults) (made_fault columns made) kind (ap (λ (some : SchemaFault). made_fault columns some ∷ map (made_fault columns) faults) same) says

pub made_due : (columns copy : List Column) (made : SchemaFault) (kind : CommitKind) → copy ≡ columns → slice_get (schema_faults copy) 0 ≡ Some made → Says (made_fault columns made) kind → IsDue (map (made_fault columns) (schema_faults columns)) kind
made_due columns copy made kind same first says =
    first_of columns (schema_faults columns) made kind (ap (λ (some : List Column). slice_get (schema_faults some) 0) (sym same) ∙ first) says

-- ---- SETs

set_is : (columns : List Column) (before : List (List ℕ)) (set : List ℕ × Lit) (found : Option Column) → found ≡ column_named set.0 columns → own_set_faults columns before set ≡ (if is_some found then [] else Binding (NoColumn set.0) ∷ []) ++ (twice before set.0 ++ value_faults set.0 found set.1)
set_is columns before set found is = sym (ap (λ (some : Option Column). (if is_some some then [] else Binding (NoColumn set.0) ∷ []) ++ (twice before set.0 ++ value_faults set.0 some set.1)) is)

pub set_absent : (columns : List Column) (before : List (List ℕ)) (set : List ℕ × Lit) (kind : CommitKind) → None ≡ column_named set.0 columns → Says (Binding (NoColumn set.0)) kind → IsDue (own_set_faults columns before set) kind
set_absent columns before set kind none says = due_first (own_set_faults columns before set) (twice before set.0 ++ value_faults set.0 None set.1) (Binding (NoColumn set.0)) kind (set_is columns before set None none) says

pub set_twice : (columns : List Column) (before : List (List ℕ)) (set : List ℕ × Lit) (column : Column) (kind : CommitKind) → Some column ≡ column_named set.0 columns → is_among set.0 before ≡ true → Says (DuplicateColumn set.0) kind → IsDue (own_set_faults columns before set) kind
set_twice columns before set column kind is among says =
    due_first (own_set_faults columns before set) (value_faults set.0 (Some column) set.1) (DuplicateColumn set.0) kind
    (set_is columns before set (Some column) is ∙ ap (λ (b : Bool). (if b then DuplicateColumn set.0 ∷ [] else []) ++ value_faults set.0 (Some column) set.1) among) says

set_alone : (columns : List Column) (before : List (List ℕ)) (set : List ℕ × Lit) (column : Column) → Some column ≡ column_named set.0 columns → is_among set.0 before ≡ false → own_set_faults columns before set ≡ of_cell set.0 (cell_gives column.kind set.1)
set_alone columns before set column is among =
    set_is columns before set (Some column) is ∙ ap (λ (b : Bool). (if b then DuplicateColumn set.0 ∷ [] else []) ++ value_faults set.0 (Some column) set.1) among

pub set_unfit : (columns : List Column) (before : List (List ℕ)) (set : List ℕ × Lit) (column : Column) (fault : CellFault) (kind : CommitKind) → Some column ≡ column_named set.0 columns → is_among set.0 before ≡ false → cell_gives column.kind set.1 ≡ Err fault → Says (set_kind set.0 fault) kind → IsDue (own_set_faults columns before set) kind
set_unfit columns before set column fault kind is among gives says =
    due_first (own_set_faults columns before set) [] (set_kind set.0 fault) kind
    (set_alone columns before set column is among ∙ ap (λ (given : Result Cell CellFault). of_cell set.0 given) gives) says

pub set_fine : (columns : List Column) (before : List (List ℕ)) (set : List ℕ × Lit) (column : Column) → Some column ≡ column_named set.0 columns → is_among set.0 before ≡ false → IsOk (cell_gives column.kind set.1) → own_set_faults columns before set ≡ []
set_fine columns before set column is among fits = set_alone columns before set column is among ∙ by_case (cell_gives column.kind set.1) fits
  where
    by_case : (given : Result Cell CellFault) → IsOk given → of_cell set.0 given ≡ []
    by_case (Ok cell) ok = refl
    by_case (Err fault) ok = absurd (cc)

set_next : (columns : List Column) (before : List (List ℕ)) (set : List ℕ × Lit) (rest : List (List ℕ × Lit)) → set_faults columns before (set ∷ rest) ≡ own_set_faults columns before set ++ set_faults columns (before ++ set.0 ∷ []) rest
set_next columns before set rest = rw (append_assoc (no_column columns set.0) (twice before set.0 ++ value_faults set.0 (column_named set.0 columns) set.1) (set_faults columns (before ++ set.0 ∷ []) rest), append_assoc (twice before set.0) (value_faults set.0 (column_named set.0 columns) set.1) (set_faults columns (before ++ set.0 ∷ []) rest)) refl

pub sets_due : (columns : List Column) (sets : List (List ℕ × Lit)) (place : ℕ) (set : List ℕ × Lit) (kind : CommitKind) → set_faults columns [] sets ≡ set_faults columns (set_names (take place sets)) (drop place sets) → place < length sets → set ≡ get_or sets place set → IsDue (own_set_faults columns (set_names (take place sets)) set) kind → IsDue (set_faults columns [] sets) kind
sets_due columns sets place set kind so within is due =
    let before = set_names (take place sets) in
    let next : drop place sets ≡ set ∷ drop (suc place) sets = drop-cons sets place set within ∙ ap (λ (some : List ℕ × Lit). some ∷ drop (suc place) sets) (sym is) in
    rw (so ∙ ap (set_faults columns before) next ∙ set_next columns before set (drop (suc place) sets)) (due_left (own_set_faults columns before set) (set_faults columns (before ++ set.0 ∷ []) (drop (suc place) sets)) kind due)

-- ---- partitions

group_is : (columns : List Column) (before : List (List ℕ)) (name : List ℕ) (found : Option Column) → found ≡ column_named name columns → own_group_faults columns before name ≡ (if is_some found then [] else Binding (NoColumn name) ∷ []) ++ (text_faults name found ++ twice before name)
group_is columns before name found is = sym (ap (λ (some : Option Column). (if is_some some then [] else Binding (NoColumn name) ∷ []) ++ (text_faults name some ++ twice before name)) is)

pub group_absent : (columns : List Column) (before : List (List ℕ)) (name : List ℕ) (kind : CommitKind) → None ≡ column_named name columns → Says (Binding (NoColumn name)) kind → IsDue (own_group_faults columns before name) kind
group_absent columns before name kind none says = due_first (own_group_faults columns before name) (text_faults name None ++ twice before name) (Binding (NoColumn name)) kind (group_is columns before name None none) says

pub group_text : (columns : List Column) (before : List (List ℕ)) (name : List ℕ) (column : Column) (kind : CommitKind) → Some column ≡ column_named name columns → is_text_kind (Some column.kind) ≡ true → Says (Binding (WrongKind name)) kind → IsDue (own_group_faults columns before name) kind
group_text columns before name column kind is textual says =
    due_first (own_group_faults columns before name) (twice before name) (Binding (WrongKind name)) kind
    (group_is columns before name (Some column) is ∙ ap (λ (b : Bool). (if b then Binding (WrongKind name) ∷ [] else []) ++ twice before name) textual) says

group_numeric : (columns : List Column) (before : List (List ℕ)) (name : List ℕ) (column : Column) → Some column ≡ column_named name columns → is_text_kind (Some column.kind) ≡ false → own_group_faults columns before name ≡ twice before name
group_numeric columns before name column is textual =
    group_is columns before name (Some column) is ∙ ap (λ (b : Bool). (if b then Binding (WrongKind name) ∷ [] else []) ++ twice before name) textual

pub group_twice : (columns : List Column) (before : List (List ℕ)) (name : List ℕ) (column : Column) (kind : CommitKind) → Some column ≡ column_named name columns → is_text_kind (Some column.kind) ≡ false → is_among name before ≡ true → Says (DuplicateColumn name) kind → IsDue (own_group_faults columns before name) kind
group_twice columns before name column kind is textual among says =
    due_first (own_group_faults columns before name) [] (DuplicateColumn name) kind
    (group_numeric columns before name column is textual ∙ ap (λ (b : Bool). if b then DuplicateColumn name ∷ [] else []) among) says

pub group_fine : (columns : List Column) (before : List (List ℕ)) (name : List ℕ) (column : Column) → Some column ≡ column_named name columns → is_text_kind (Some column.kind) ≡ false → is_among name before ≡ false → own_group_faults columns before name ≡ []
group_fine columns before name column is textual among =
    group_numeric columns before name column is textual ∙ ap (λ (b : Bool). if b then DuplicateColumn name ∷ [] else []) among

group_next : (columns : List Column) (before : List (List ℕ)) (name : List ℕ) (rest : List (List ℕ)) → group_faults columns before (name ∷ rest) ≡ own_group_faults columns before name ++ group_faults columns (before ++ name ∷ []) rest
group_next columns before name rest = rw (append_assoc (no_column columns name) (text_faults name (column_named name columns) ++ twice before name) (group_faults columns (before ++ name ∷ []) rest), append_assoc (text_faults name (column_named name columns)) (twice before name) (group_faults columns (before ++ name ∷ []) rest)) refl

pub groups_due : (columns : List Column) (names : List (List ℕ)) (place : ℕ) (name : List ℕ) (kind : CommitKind) → group_faults columns [] names ≡ group_faults columns (take place names) (drop place names) → place < length names → name ≡ get_or names place name → IsDue (own_group_faults columns (take place names) name) kind → IsDue (group_faults columns [] names) kind
groups_due columns names place name kind so within is due =
    let before = take place names in
    let next : drop place names ≡ name ∷ drop (suc place) names = drop-cons names place name within ∙ ap (λ (some : List ℕ). some ∷ drop (suc place) names) (sym is) in
    rw (so ∙ ap (group_faults columns before) next ∙ group_next columns before name (drop (suc place) names)) (due_left (own_group_faults columns before name) (group_faults columns (before ++ name ∷ []) (drop (suc place) names)) kind due)

-- ---- new values

pub put_absent : (columns : List Column) (set : List ℕ × Lit) (row : List Cell) → None ≡ column_named set.0 columns → row ≡ put columns set row
put_absent columns set row none = ap (λ (found : Option Column). put_in found (number_or_zero (place_of set.0 columns)) set.1 row) none

pub put_found : (columns : List Column) (set : List ℕ × Lit) (column : Column) (place : ℕ) (lit : Lit) (row new : List Cell) → Some column ≡ column_named set.0 columns → place ≡ number_or_zero (place_of set.0 columns) → lit ≡ set.1 → new ≡ put_cell place (cell_gives column.kind lit) row → new ≡ put columns set row
put_found columns set column place lit row new is at same e =
    e ∙ ap (λ (some : Lit). put_cell place (cell_gives column.kind some) row) same
    ∙ ap (λ (some : ℕ). put_in (Some column) some set.1 row) at
    ∙ ap (λ (found : Option Column). put_in found (number_or_zero (place_of set.0 columns)) set.1 row) is
