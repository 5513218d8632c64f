-- The commit of more rows than one may insert.
use Rattle.std.proofs.Common.{◌≡◌, ℕ, suc, ◌-◌, List, [], ◌∷◌, ◌++◌, length, map, Option, Some, None, Result, Ok, Err, refl, sym, ap, ◌∙◌, append_assoc, arith}
use Rattle.std.specs.Prelude.{IsOk, slice_get}
use Rattle.std.specs.List.{AllByRecursion}
use Rattle.std.specs.Option.{option_map}
use Rattle.std.proofs.lemmas.List.Elements.{recursion_from_All}
use Rattle.schema_types.specs.declared.Column.{Column}
use Rattle.schema_types.specs.declared.Lit.{Lit}
use Rattle.session_proto.specs.Input.{Content, absent, held, skipped}
use Rattle.snapshots.specs.States.{State, table_named}
use Rattle.snapshots.specs.declared.tables.Table.{Table}
use Rattle.table_schema.specs.Rows.{row_gives}
use Rattle.table_schema.specs.declared.rows.RowFault.{RowFault}
use Rattle.version_store.specs.Faults.{change_faults, insert_faults, of_row, on_table}
use Rattle.version_store.specs.Histories.{above, after, all_faults, commit_faults, entries_kept, insert_count, last_state, new_version, numbered}
use Rattle.version_store.specs.declared.changes.Change.TheVariants as changes
use Rattle.version_store.specs.declared.faults.CommitFault.{CommitFault}
use Rattle.version_store.specs.declared.faults.CommitKind.{CommitKind}
use Rattle.version_store.specs.declared.faults.CommitKind.TheVariants.{LimitCommit, LimitRows, LimitVersions}
use Rattle.version_store.specs.declared.limits.TheConstants.{MAX_COMMIT_ROWS, MAX_ENTRIES, MAX_VERSION}
use Rattle.version_store.proofs.Places.{columns_named}
use Rattle.csv_load.proofs.PassLemmas.{rows_pass}
use Rattle.paql_engine.specs.Loading.{Gives, columns_in, insert_of}
use Rattle.paql_engine.specs.LoadSteps.{many_faults}

-- rows of which each is one that the table takes
abbrev pub AllFit : List Column → List (List Lit) → Type 0
AllFit columns rows = AllByRecursion (λ (row : List Lit). IsOk (row_gives columns row)) rows

pub given_fit : (columns : List Column) (body : Content) (rows : List (List Lit)) → Gives columns body (Ok rows) → AllFit columns rows
given_fit columns absent rows gives = recursion_from_All (λ (row : List Lit). IsOk (row_gives columns row)) rows (rows_pass columns [] rows gives)
given_fit columns (held bytes) rows gives = recursion_from_All (λ (row : List Lit). IsOk (row_gives columns row)) rows (rows_pass columns bytes rows gives)
given_fit columns (skipped count) rows gives = absurd (cc)

-- ---- they have no fault

row_fine : {A : Type 0} (columns : List Column) (number : ℕ) (given : Result A RowFault) → IsOk given → of_row columns number given ≡ []
row_fine columns number (Ok cells) ok = refl
row_fine columns number (Err fault) ok = absurd (cc ok)

rows_fine : (columns : List Column) (number : ℕ) (rows : List (List Lit)) → AllFit columns rows → insert_faults columns number rows ≡ []
rows_fine columns number [] fit = refl
rows_fine columns number (row ∷ rows) fit = rw (row_fine columns number (row_gives columns row) fit.0) (rows_fine columns (suc number) rows fit.1)

insert_fine : (high : ℕ) (state : State) (name : List ℕ) (columns : List Column) (rows : List (List Lit)) → columns_in state.tables name ≡ Some columns → AllFit columns rows
    → change_faults high state (changes.Insert name rows) ≡ []
insert_fine high state name columns rows there fit = by_case (table_named name state.tables) (sym (columns_named name state.tables) ∙ there)
  where
    by_case : (found : Option Table) → option_map (λ (table : Table). table.columns) found ≡ Some columns → on_table name found (λ (table : Table). insert_faults table.columns 1 rows) ≡ []
    by_case None is = absurd (cc)
    by_case (Some table) is =
        let same : table.columns ≡ columns = cc in
        ap (λ (list : List Column). insert_faults list 1 rows) same ∙ rows_fine columns 1 rows fit

-- ---- the commit is refused for their number, or for its own

entries_after : List State → List ℕ → List (List Lit) → List CommitFault
entries_after states name rows = above MAX_ENTRIES (entries_kept (states ++ after states (insert_of name rows) ∷ [])) LimitRows

faults_are : (states : List State) (name : List ℕ) (columns : List Column) (rows : List (List Lit)) → columns_in (last_state states).tables name ≡ Some columns → AllFit columns rows
    → commit_faults states (insert_of name rows) ≡ many_faults (new_version states) (length rows) ++ entries_after states name rows
unfolding entries_after
faults_are states name columns rows there fit =
    let versions = above MAX_VERSION (new_version states) LimitVersions in
    let entries = entries_after states name rows in
    let own : all_faults 1 (new_version states - 1) (new_version states) (last_state states) (insert_of name rows) ≡ [] =
    ap (λ (kinds : List CommitKind). map (numbered 1) kinds ++ []) (insert_fine (new_version states - 1) (last_state states) name columns rows there fit) in
    let number : insert_count (insert_of name rows) ≡ length rows = omega arith in
    ap (λ (faults : List CommitFault). versions ++ (faults ++ (above MAX_COMMIT_ROWS (insert_count (insert_of name rows)) LimitCommit ++ entries))) own
    ∙ (ap (λ (count : ℕ). versions ++ (above MAX_COMMIT_ROWS count LimitCommit ++ entries)) number
    ∙ sym (append_assoc versions (above MAX_COMMIT_ROWS (length rows) LimitCommit) entries))

first_stays : (faults more : List CommitFault) (fault : CommitFault) → slice_get faults 0 ≡ Some fault → slice_get (faults ++ more) 0 ≡ Some fault
first_stays [] more fault is = absurd (cc)
first_stays (first ∷ faults) more fault is = is

pub many_due : (states : List State) (name : List ℕ) (columns : List Column) (rows : List (List Lit)) (fault : CommitFault) → columns_in (last_state states).tables name ≡ Some columns → AllFit columns rows
    → slice_get (many_faults (new_version states) (length rows)) 0 ≡ Some fault → slice_get (commit_faults states (insert_of name rows)) 0 ≡ Some fault
many_due states name columns rows fault there fit first =
    ap (λ (faults : List CommitFault). slice_get faults 0) (faults_are states name columns rows there fit)
    ∙ first_stays (many_faults (new_version states) (length rows)) (entries_after states name rows) fault first
