-- Lemmas on the tables of a draft: where they are, and another table in the place of one.
use Rattle.std.proofs.Common.{◌≡◌, ℕ, zero, suc, ◌+◌, ◌<◌, ◌≤◌, Bool, true, false, inl, List, [], ◌∷◌, ◌++◌, length, get_or, set, Option, Some, None, refl, sym, ap, ◌∙◌, subst, arith}
use Rattle.std.specs.Prelude.{map}
use Rattle.std.specs.List.{AllByRecursion, position_from}
use Rattle.std.specs.Str.{bytes_eq}
use borrow.Author.Tests.{le-leb, lt-leb}
use Rattle.pq_base.specs.declared.scaled.Scaled.{Scaled}
use Rattle.schema_types.specs.declared.Column.{Column}
use Rattle.schema_types.specs.declared.Lit.{Lit}
use Rattle.table_schema.specs.Columns.{schema_faults}
use Rattle.paql_ast.specs.declared.conditions.Pred.{Pred}
use Rattle.paql_bind.specs.declared.faults.Refusal.TheVariants.{NoTable}
use Rattle.snapshots.specs.States.{State, table_named, with_table}
use Rattle.snapshots.specs.declared.tables.Table.{Table}
use Rattle.version_store.specs.Changes.{count_met, cut, inserted, new_table, on_named, on_table}
use Rattle.version_store.specs.Faults as faults
use Rattle.version_store.specs.Faults.{condition_faults, exists_faults, insert_faults, made_fault, partition_faults, set_faults, tables_faults, vacuum_faults}
use Rattle.version_store.specs.Drafted.{IsPerformed, IsPlaceOf, IsPushed, IsPut, place_named}
use Rattle.version_store.specs.Legal.{AreLegal, IsLegal}
use Rattle.version_store.specs.Performing.{IsDue, RowsFit, Says, deleted, rewritten}
use Rattle.version_store.specs.declared.changes.Change.TheVariants as changes
use Rattle.version_store.specs.declared.faults.CommitKind.{CommitKind}
use Rattle.version_store.specs.declared.faults.CommitKind.TheVariants.{Binding, Unkept, Table as TableKind}
use Rattle.version_store.specs.declared.faults.TableFault.TheVariants.{TableExists}
use Rattle.version_store.proofs.Lists.{all_map, names_equal}
use Rattle.version_store.proofs.Performed.{due_first}

-- a table that is found from a place on
record FoundFrom (name : List ℕ) (start : ℕ) (tables : List Table) (place : ℕ) : Type 0 where
  at : ℕ
  is : place ≡ start + at
  within : at < length tables
  named : (d : Table) → table_named name tables ≡ Some (get_or tables at d)
  same : (d : Table) → (get_or tables at d).name ≡ name
  put : (new : Table) → new.name ≡ name → set tables at new ≡ with_table new tables

found_from : (name : List ℕ) (start : ℕ) (tables : List Table) (place : ℕ) → position_from (λ (table : Table). bytes_eq table.name name) start tables ≡ Some place → FoundFrom name start tables place
found_from name start [] place e = absurd (cc)
found_from name start (first ∷ tables) place e = by_test (bytes_eq first.name name) refl (found_from name (start + 1) tables place)
  where
    by_test : (b : Bool) → bytes_eq first.name name ≡ b → (position_from (λ (table : Table). bytes_eq table.name name) (start + 1) tables ≡ Some place → FoundFrom name (start + 1) tables place) → FoundFrom name start (first ∷ tables) place
    by_test true is rest =
        let here : start ≡ place = let given = rw is at e in cc in
        record {
          at = 0;
          is = omega (arith, here);
          within = omega arith;
          named = λ d. rw is refl;
          same = λ d. names_equal first.name name is;
          put = λ new same. let there : bytes_eq first.name new.name ≡ true = rw same is in rw there refl;
        }
    by_test false is rest =
        let later = rest (rw is at e) in
        record {
          at = suc later.at;
          is = omega (arith, later.is);
          within = omega (arith, later.within);
          named = λ d. rw is (later.named d);
          same = λ d. later.same d;
          put = λ new same. let away : bytes_eq first.name new.name ≡ false = rw same is in rw away (ap (λ (rest : List Table). first ∷ rest) (later.put new same));
        }

pub place_is : (name : List ℕ) (tables : List Table) (place : ℕ) → place_named name tables ≡ Some place → IsPlaceOf name tables place
place_is name tables place e =
    let found = found_from name 0 tables place e in
    let here : found.at ≡ place = omega (arith, found.is) in
    subst (IsPlaceOf name tables) here (record { within = found.within; named = found.named; same = found.same; put = found.put })

none_from : (name : List ℕ) (start : ℕ) (tables : List Table) → position_from (λ (table : Table). bytes_eq table.name name) start tables ≡ None → table_named name tables ≡ None
none_from name start [] e = refl
none_from name start (first ∷ tables) e = by_test (bytes_eq first.name name) refl (none_from name (start + 1) tables)
  where
    by_test : (b : Bool) → bytes_eq first.name name ≡ b → (position_from (λ (table : Table). bytes_eq table.name name) (start + 1) tables ≡ None → table_named name tables ≡ None) → table_named name (first ∷ tables) ≡ None
    by_test true is rest = let given = rw is at e in absurd (cc)
    by_test false is rest = rw is (rest (rw is at e))

pub none_is : (name : List ℕ) (tables : List Table) → place_named name tables ≡ None → table_named name tables ≡ None
none_is name tables e = none_from name 0 tables e

-- ---- a change of one table

abbrev pub state_of : ℕ → List Table → State
state_of low tables = record { low = low; tables = tables }

pub named_at : (name : List ℕ) (tables : List Table) (place : ℕ) (table : Table) → IsPlaceOf name tables place → table ≡ get_or tables place table → table_named name tables ≡ Some table
named_at name tables place table at is = at.named table ∙ ap Some (sym is)

pub performed_on : (name : List ℕ) (old new : State) (place : ℕ) (table : Table) (does : Table → Table) → IsPlaceOf name old.tables place → table ≡ get_or old.tables place table → (does table).name ≡ table.name → new.tables ≡ set old.tables place (does table) → new.low ≡ old.low → new ≡ on_named old name does
performed_on name old new place table does at is same tables low =
    let own : table.name ≡ name = ap (λ (some : Table). some.name) is ∙ at.same table in
    ap (λ (some : ℕ). state_of some new.tables) low
    ∙ ap (state_of old.low) (tables ∙ at.put (does table) (same ∙ own))
    ∙ sym (ap (λ (found : Option Table). on_table old found does) (named_at name old.tables place table at is))

pub faults_on : (name : List ℕ) (old : State) (place : ℕ) (table : Table) (own : Table → List CommitKind) → IsPlaceOf name old.tables place → table ≡ get_or old.tables place table → faults.on_named old name own ≡ own table
faults_on name old place table own at is = ap (λ (found : Option Table). faults.on_table name found own) (named_at name old.tables place table at is)

pub faults_away : (name : List ℕ) (old : State) (own : Table → List CommitKind) → table_named name old.tables ≡ None → faults.on_named old name own ≡ faults.on_table name None own
faults_away name old own none = ap (λ (found : Option Table). faults.on_table name found own) none

-- ---- rows

pub legal_rows : (version : ℕ) (tables : List Table) → AreLegal version tables → AllByRecursion RowsFit tables
legal_rows version tables are = all_map (IsLegal version) RowsFit tables (λ (table : Table) (is : IsLegal version table). is.rows) are.each

all_get : (P : Table → Type 0) (tables : List Table) (place : ℕ) (d : Table) → place < length tables → AllByRecursion P tables → P (get_or tables place d)
all_get P [] place d within all = absurd (omega (arith, within))
all_get P (table ∷ tables) zero d within all = all.0
all_get P (table ∷ tables) (suc place) d within all = all_get P tables place d (omega (arith, within)) all.1

pub rows_at : (tables : List Table) (place : ℕ) (table : Table) → AllByRecursion RowsFit tables → place < length tables → table ≡ get_or tables place table → RowsFit table
rows_at tables place table all within is = subst RowsFit (sym is) (all_get RowsFit tables place table within all)

-- ---- what a change of one table is answered

pub away_due : (name : List ℕ) (old : State) (own : Table → List CommitKind) (kind : CommitKind) → table_named name old.tables ≡ None → Says (Binding (NoTable name)) kind → IsDue (faults.on_named old name own) kind
away_due name old own kind none says = due_first (faults.on_named old name own) [] (Binding (NoTable name)) kind (faults_away name old own none) says

pub on_due : (name : List ℕ) (old : State) (place : ℕ) (table : Table) (own : Table → List CommitKind) (kind : CommitKind) → IsPlaceOf name old.tables place → table ≡ get_or old.tables place table → IsDue (own table) kind → IsDue (faults.on_named old name own) kind
on_due name old place table own kind at is due = rw (faults_on name old place table own at is) due

-- a change of the table that is found
pub record Changes (name : List ℕ) (old new : State) (own : Table → List CommitKind) (does : Table → Table) : Type 0 where
  pub faultless : faults.on_named old name own ≡ []
  pub state : new ≡ on_named old name does

pub changes_found : (name : List ℕ) (old new : State) (place : ℕ) (table made : Table) (own : Table → List CommitKind) (does : Table → Table) → IsPlaceOf name old.tables place → table ≡ get_or old.tables place table → (does table).name ≡ table.name → own table ≡ [] → made ≡ does table → IsPut old new place made → Changes name old new own does
changes_found name old new place table made own does at is same none made_is put = record {
  faultless = faults_on name old place table own at is ∙ none;
  state = performed_on name old new place table does at is same (put.tables ∙ ap (set old.tables place) made_is) put.low;
}

-- ---- each change

pub insert_performed : (high version : ℕ) (old new : State) (name : List ℕ) (rows : List (List Lit)) (place count : ℕ) (table made : Table) → IsPlaceOf name old.tables place → table ≡ get_or old.tables place table → insert_faults table.columns 1 rows ≡ [] → made ≡ inserted table version rows → IsPut old new place made → count ≡ length rows → IsPerformed high version old new (changes.Insert name rows) count
insert_performed high version old new name rows place count table made at is none made_is put count_is =
    let all = changes_found name old new place table made (λ (found : Table). insert_faults found.columns 1 rows) (λ (found : Table). inserted found version rows) at is refl none made_is put in
    record { faultless = all.faultless; state = all.state; rows = count_is }

pub update_performed : (high version : ℕ) (old new : State) (name : List ℕ) (sets : List (List ℕ × Lit)) (written : Option Pred) (place count : ℕ) (table made : Table) → IsPlaceOf name old.tables place → table ≡ get_or old.tables place table → set_faults table.columns [] sets ++ condition_faults table written ≡ [] → made ≡ rewritten table version sets written → count ≡ count_met written (Some table) → IsPut old new place made → IsPerformed high version old new (changes.Update name sets written) count
update_performed high version old new name sets written place count table made at is none made_is count_is put =
    let all = changes_found name old new place table made (λ (found : Table). set_faults found.columns [] sets ++ condition_faults found written) (λ (found : Table). rewritten found version sets written) at is refl none made_is put in
    record { faultless = all.faultless; state = all.state; rows = count_is ∙ ap (count_met written) (sym (named_at name old.tables place table at is)) }

pub delete_performed : (high version : ℕ) (old new : State) (name : List ℕ) (written : Option Pred) (place count : ℕ) (table made : Table) → IsPlaceOf name old.tables place → table ≡ get_or old.tables place table → condition_faults table written ≡ [] → made ≡ deleted table written → count ≡ count_met written (Some table) → IsPut old new place made → IsPerformed high version old new (changes.Delete name written) count
delete_performed high version old new name written place count table made at is none made_is count_is put =
    let all = changes_found name old new place table made (λ (found : Table). condition_faults found written) (λ (found : Table). deleted found written) at is refl none made_is put in
    record { faultless = all.faultless; state = all.state; rows = count_is ∙ ap (count_met written) (sym (named_at name old.tables place table at is)) }

pub partition_performed : (high version : ℕ) (old new : State) (name : List ℕ) (names : List (List ℕ)) (size : ℕ) (radius : Scaled) (place : ℕ) (table made : Table) → IsPlaceOf name old.tables place → table ≡ get_or old.tables place table → partition_faults table.columns names size radius ≡ [] → made ≡ cut table names size radius → IsPut old new place made → IsPerformed high version old new (changes.Partition name names size radius) 0
partition_performed high version old new name names size radius place table made at is none made_is put =
    let all = changes_found name old new place table made (λ (found : Table). partition_faults found.columns names size radius) (λ (found : Table). cut found names size radius) at is refl none made_is put in
    record { faultless = all.faultless; state = all.state; rows = refl }

pub create_performed : (high version : ℕ) (old new : State) (name : List ℕ) (columns : List Column) (made : Table) → map (made_fault columns) (schema_faults columns) ≡ [] → exists_faults old.tables name ≡ [] → tables_faults old.tables ≡ [] → made ≡ new_table name columns → IsPushed old new made → IsPerformed high version old new (changes.Create name columns) 0
create_performed high version old new name columns made schema exists room made_is put = record {
  faultless = rw (schema, exists, room) refl;
  state = ap (λ (n : ℕ). state_of n new.tables) put.low ∙ ap (state_of old.low) (put.tables ∙ ap (λ (table : Table). old.tables ++ table ∷ []) made_is);
  rows = refl;
}

pub vacuum_performed : (high version least : ℕ) (old new : State) → old.low ≤ least → least ≤ high → new ≡ state_of least old.tables → IsPerformed high version old new (changes.Vacuum least) 0
vacuum_performed high version least old new low most is = record {
  faultless = rw (le-leb old.low least low, le-leb least high most) refl;
  state = is;
  rows = refl;
}

pub unkept_below : (high least low : ℕ) → least < low → IsDue (vacuum_faults low high least) (Unkept least low high)
unkept_below high least low below = rw (lt-leb low least below) (inl refl)

pub unkept_above : (high least low : ℕ) → low ≤ least → high < least → IsDue (vacuum_faults low high least) (Unkept least low high)
unkept_above high least low at_least above = rw (le-leb low least at_least, lt-leb least high above) (inl refl)

pub name_taken : (name : List ℕ) (tables : List Table) (place : ℕ) (kind : CommitKind) → place_named name tables ≡ Some place → Says (TableKind (TableExists name)) kind → IsDue (exists_faults tables name) kind
name_taken name tables place kind is says =
    let at = place_is name tables place is in
    let there : table_named name tables ≡ Some (get_or tables place (new_table name [])) = at.named (new_table name []) in
    due_first (exists_faults tables name) [] (TableKind (TableExists name)) kind (rw there refl) says

pub name_free : (name : List ℕ) (tables : List Table) → place_named name tables ≡ None → exists_faults tables name ≡ []
name_free name tables none = rw (none_is name tables none) refl
