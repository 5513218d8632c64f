-- The columns of a table never change.
use Rattle.std.proofs.Common.{◌≡◌, ℕ, Bool, true, false, List, [], ◌∷◌, ◌++◌, Option, Some, None, refl, sym, ap, ◌∙◌, subst, append-nil, append_assoc}
use Rattle.std.specs.Prelude.{map, filter, not}
use Rattle.std.specs.Str.{bytes_eq}
use Rattle.schema_types.specs.declared.Column.{Column}
use Rattle.table_schema.specs.Named.{schema_of}
use Rattle.snapshots.specs.Entries.{Entry}
use Rattle.snapshots.specs.States.{State, table_named, with_table}
use Rattle.snapshots.specs.declared.tables.Table.{Table}
use Rattle.version_store.specs.Changes.{changed, on_table, on_named, inserted, new_table, updated, is_met, with_entries, cut}
use Rattle.version_store.specs.Histories.{History, after_changes, new_version, states_of, replay}
use Rattle.version_store.specs.Vaults.{IsPrefix}
use Rattle.version_store.specs.declared.changes.Change.{Change}
use Rattle.version_store.specs.declared.changes.Change.TheVariants as changes
use Rattle.version_store.proofs.Lists.{names_equal, names_same}
use Rattle.version_store.proofs.Longer.{replay_more}
use Rattle.version_store.proofs.Places.{columns_of, named_found}
use Rattle.paql_engine.specs.Loading.{columns_in}

-- ---- tables of which one is put in the place of another

pair_same : (one other : Table) → one.name ≡ other.name → one.columns ≡ other.columns → columns_of one ≡ columns_of other
pair_same one other names columns = ap (λ (name : List ℕ). (name, one.columns)) names ∙ ap (λ (list : List Column). (other.name, list)) columns

with_same : (name : List ℕ) (new : Table) (tables : List Table) (table : Table) → table_named name tables ≡ Some table → new.name ≡ table.name → new.columns ≡ table.columns
    → map columns_of (with_table new tables) ≡ map columns_of tables
with_same name new [] table is named columns = refl
with_same name new (first ∷ tables) table is named columns = by_test (bytes_eq first.name name) refl (with_same name new tables table)
  where
    by_test : (b : Bool) → bytes_eq first.name name ≡ b → (table_named name tables ≡ Some table → new.name ≡ table.name → new.columns ≡ table.columns → map columns_of (with_table new tables) ≡ map columns_of tables)
        → map columns_of (with_table new (first ∷ tables)) ≡ map columns_of (first ∷ tables)
    by_test true e rest =
        let here : first ≡ table = let given = rw e at is in cc in
        let names : new.name ≡ first.name = named ∙ ap (λ (t : Table). t.name) (sym here) in
        let lists : new.columns ≡ first.columns = columns ∙ ap (λ (t : Table). t.columns) (sym here) in
        rw (names_same first.name new.name (sym names)) (ap (λ (pair : List ℕ × List Column). pair ∷ map columns_of tables) (pair_same new first names lists))
    by_test false e rest =
        let later : table_named name tables ≡ Some table = rw e at is in
        let found = named_found name tables table later in
        let names : new.name ≡ name = named ∙ names_equal table.name name found.named in
        let apart : bytes_eq first.name new.name ≡ false = ap (λ (n : List ℕ). bytes_eq first.name n) names ∙ e in
        rw apart (ap (λ (pairs : List (List ℕ × List Column)). columns_of first ∷ pairs) (rest later named columns))

on_same : (state : State) (name : List ℕ) (does : Table → Table) → ((table : Table) → (does table).name ≡ table.name) → ((table : Table) → (does table).columns ≡ table.columns)
    → map columns_of (on_named state name does).tables ≡ map columns_of state.tables
on_same state name does names lists = by_case (table_named name state.tables) refl
  where
    by_case : (given : Option Table) → table_named name state.tables ≡ given → map columns_of (on_table state given does).tables ≡ map columns_of state.tables
    by_case None is = refl
    by_case (Some table) is = with_same name (does table) state.tables table is (names table) (lists table)

-- ---- one change, and more

on_keeps : (state : State) (table name : List ℕ) (does : Table → Table) (columns : List Column) → ((found : Table) → (does found).name ≡ found.name) → ((found : Table) → (does found).columns ≡ found.columns)
    → columns_in state.tables name ≡ Some columns → columns_in (on_named state table does).tables name ≡ Some columns
on_keeps state table name does columns names lists is =
    subst (λ (pairs : List (List ℕ × List Column)). schema_of name pairs ≡ Some columns) (sym (on_same state table does names lists)) is

create_keeps : (tables : List Table) (new : Table) (name : List ℕ) (columns : List Column) → columns_in tables name ≡ Some columns → columns_in (tables ++ new ∷ []) name ≡ Some columns
create_keeps [] new name columns is = absurd (cc)
create_keeps (first ∷ tables) new name columns is = by_test (bytes_eq first.name name) refl (create_keeps tables new name columns)
  where
    by_test : (b : Bool) → bytes_eq first.name name ≡ b → (columns_in tables name ≡ Some columns → columns_in (tables ++ new ∷ []) name ≡ Some columns) → columns_in ((first ∷ tables) ++ new ∷ []) name ≡ Some columns
    by_test true e rest = rw e (rw e at is)
    by_test false e rest = rw e (rest (rw e at is))

change_keeps : (version : ℕ) (state : State) (change : Change) (name : List ℕ) (columns : List Column) → columns_in state.tables name ≡ Some columns → columns_in (changed version state change).tables name ≡ Some columns
change_keeps version state (changes.Create table made) name columns is = create_keeps state.tables (new_table table made) name columns is
change_keeps version state (changes.Insert table rows) name columns is =
    on_keeps state table name (λ (found : Table). inserted found version rows) columns (λ found. refl) (λ found. refl) is
change_keeps version state (changes.Update table sets written) name columns is =
    on_keeps state table name (λ (found : Table). with_entries found (map (updated found version sets written) found.entries)) columns (λ found. refl) (λ found. refl) is
change_keeps version state (changes.Delete table written) name columns is =
    on_keeps state table name (λ (found : Table). with_entries found (filter (λ (entry : Entry). not (is_met found written entry)) found.entries)) columns (λ found. refl) (λ found. refl) is
change_keeps version state (changes.Partition table by size radius) name columns is =
    on_keeps state table name (λ (found : Table). cut found by size radius) columns (λ found. refl) (λ found. refl) is
change_keeps version state (changes.Vacuum low) name columns is = is

all_keep : (version : ℕ) (state : State) (commit : List Change) (name : List ℕ) (columns : List Column) → columns_in state.tables name ≡ Some columns → columns_in (after_changes version state commit).tables name ≡ Some columns
all_keep version state [] name columns is = is
all_keep version state (change ∷ commit) name columns is = all_keep version (changed version state change) commit name columns (change_keeps version state change name columns is)

abbrev pub HasColumns : History → List ℕ → List Column → Type 0
HasColumns history name columns = columns_in (replay history).tables name ≡ Some columns

more_keep : (history more : History) (name : List ℕ) (columns : List Column) → HasColumns history name columns → HasColumns (history ++ more) name columns
more_keep history [] name columns is = subst (λ (h : History). HasColumns h name columns) (sym (append-nil history)) is
more_keep history (commit ∷ more) name columns is =
    let kept = all_keep (new_version (states_of history)) (replay history) commit name columns is in
    let one : HasColumns (history ++ commit ∷ []) name columns = subst (λ (state : State). columns_in state.tables name ≡ Some columns) (sym (replay_more history commit)) kept in
    subst (λ (h : History). HasColumns h name columns) (append_assoc history (commit ∷ []) more) (more_keep (history ++ commit ∷ []) more name columns one)

-- the columns that a table has, it has in each later version
pub columns_stay : (old new : History) (name : List ℕ) (columns : List Column) → IsPrefix old new → HasColumns old name columns → HasColumns new name columns
columns_stay old new name columns longer is = subst (λ (h : History). HasColumns h name columns) (sym longer.1) (more_keep old longer.0 name columns is)
