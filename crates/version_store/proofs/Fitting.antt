-- Any change leaves rows that fit their columns.
use Rattle.std.proofs.Common.{◌≡◌, ℕ, suc, ◌+◌, Bool, true, false, cond, List, [], ◌∷◌, set, Option, Some, None, Result, Ok, Err, refl, ap, ◌∙◌, arith}
use Rattle.std.specs.Prelude.{map, filter, not}
use Rattle.std.specs.List.{AllByRecursion, position_from}
use Rattle.std.specs.Str.{bytes_eq}
use Rattle.schema_types.specs.declared.Column.{Column}
use Rattle.schema_types.specs.declared.Lit.{Lit}
use Rattle.paql_ast.specs.declared.conditions.Pred.{Pred}
use Rattle.paql_bind.specs.Names.{number_or_zero}
use Rattle.table_schema.specs.Cells.{cell_gives, FitsKind}
use Rattle.table_schema.specs.Columns.{IsSchema, place_of}
use Rattle.table_schema.specs.Rows.{FitsSchema}
use Rattle.table_schema.specs.declared.cells.Cell.{Cell}
use Rattle.table_schema.specs.declared.cells.CellFault.{CellFault}
use Rattle.table_schema.proofs.RowLemmas.{row_fits}
use Rattle.table_schema.proofs.ColumnLemmas.{is_schema}
use Rattle.snapshots.specs.Entries.{Entry}
use Rattle.snapshots.specs.States.{State}
use Rattle.snapshots.specs.declared.tables.Table.{Table}
use Rattle.version_store.specs.Faults.{change_faults, insert_faults, column_named}
use Rattle.version_store.specs.Changes.{changed, inserted, new_entries, new_table, updated, is_met, put_cell, put_in, put, put_all, with_entries, cut}
use Rattle.version_store.specs.Legal.{HasColumns}
use Rattle.version_store.specs.declared.changes.Change.{Change}
use Rattle.version_store.specs.declared.changes.Change.TheVariants as changes
use Rattle.version_store.proofs.Lists.{all_append}
use Rattle.version_store.proofs.Steps.{EntryFits, new_fit}
use Rattle.version_store.proofs.Changing.{all_on, created_schema, chosen}

-- ---- a new cell in a row

-- what a literal gives fits, as a row of one column does
cell_fits : (column : Column) (lit : Lit) (cell : Cell) → cell_gives column.kind lit ≡ Ok cell → FitsKind column.kind cell
cell_fits column lit cell e = (row_fits (column ∷ []) (lit ∷ []) (cell ∷ []) (rw e refl)).0

set_first : (column : Column) (columns : List Column) (row : List Cell) (cell : Cell) → FitsKind column.kind cell → FitsSchema (column ∷ columns) row → FitsSchema (column ∷ columns) (set row 0 cell)
set_first column columns [] cell is fits = absurd fits
set_first column columns (old ∷ row) cell is fits = (is, fits.1)

set_later : (column : Column) (columns : List Column) (row : List Cell) (place : ℕ) (cell : Cell) → ((rest : List Cell) → FitsSchema columns rest → FitsSchema columns (set rest place cell)) → FitsSchema (column ∷ columns) row → FitsSchema (column ∷ columns) (set row (suc place) cell)
set_later column columns [] place cell rest fits = absurd fits
set_later column columns (old ∷ row) place cell rest fits = (fits.0, rest row fits.1)

-- the place of a column that is named, and what may be put there
record SetAt (name : List ℕ) (start : ℕ) (columns : List Column) (cell : Cell) : Type 0 where
  place : ℕ
  is : position_from (λ (column : Column). bytes_eq column.name name) start columns ≡ Some (start + place)
  fits : (row : List Cell) → FitsSchema columns row → FitsSchema columns (set row place cell)

set_at : (name : List ℕ) (start : ℕ) (columns : List Column) (column : Column) (cell : Cell) → column_named name columns ≡ Some column → FitsKind column.kind cell → SetAt name start columns cell
set_at name start [] column cell e is = absurd (cc)
set_at name start (first ∷ columns) column cell e is = by_test (bytes_eq first.name name) refl (λ given. set_at name (start + 1) columns column cell given is)
  where
    by_test : (b : Bool) → bytes_eq first.name name ≡ b → (column_named name columns ≡ Some column → SetAt name (start + 1) columns cell) → SetAt name start (first ∷ columns) cell
    by_test true same rest =
        let here : first ≡ column = let given = rw same at e in cc in
        let kind : FitsKind first.kind cell = rw here is in
        record {
          place = 0;
          is = rw same (ap Some (let zero_more : start ≡ start + 0 = omega arith in zero_more));
          fits = λ row given. set_first first columns row cell kind given;
        }
    by_test false same rest =
        let later = rest (rw same at e) in
        record {
          place = suc later.place;
          is = rw same (later.is ∙ ap Some (let one_more : start + 1 + later.place ≡ start + suc later.place = omega arith in one_more));
          fits = λ row given. set_later first columns row later.place cell later.fits given;
        }

put_cell_fits : (columns : List Column) (name : List ℕ) (column : Column) (given : Result Cell CellFault) (row : List Cell) → column_named name columns ≡ Some column → ((cell : Cell) → given ≡ Ok cell → FitsKind column.kind cell) → FitsSchema columns row → FitsSchema columns (put_cell (number_or_zero (place_of name columns)) given row)
put_cell_fits columns name column (Err fault) row named kind fits = fits
put_cell_fits columns name column (Ok cell) row named kind fits =
    let at = set_at name 0 columns column cell named (kind cell refl) in
    let place : place_of name columns ≡ Some at.place = at.is ∙ ap Some (let none : 0 + at.place ≡ at.place = omega arith in none) in
    rw place (at.fits row fits)

put_in_fits : (columns : List Column) (name : List ℕ) (lit : Lit) (row : List Cell) (given : Option Column) → column_named name columns ≡ given → FitsSchema columns row → FitsSchema columns (put_in given (number_or_zero (place_of name columns)) lit row)
put_in_fits columns name lit row None named fits = fits
put_in_fits columns name lit row (Some column) named fits =
    put_cell_fits columns name column (cell_gives column.kind lit) row named (λ cell is. cell_fits column lit cell is) fits

put_all_fits : (columns : List Column) (sets : List (List ℕ × Lit)) (row : List Cell) → FitsSchema columns row → FitsSchema columns (put_all columns sets row)
put_all_fits columns [] row fits = fits
put_all_fits columns (one ∷ sets) row fits = put_all_fits columns sets (put columns one row) (put_in_fits columns one.0 one.1 row (column_named one.0 columns) refl fits)

-- ---- tables

pub record Fits (table : Table) : Type 0 where
  pub columns : IsSchema table.columns
  pub rows : AllByRecursion (EntryFits table.columns) table.entries

all_mapped : {A : Type 0} (P : A → Type 0) (f : A → A) (xs : List A) → ((x : A) → P x → P (f x)) → AllByRecursion P xs → AllByRecursion P (map f xs)
all_mapped P f [] keeps all = tt
all_mapped P f (x ∷ xs) keeps all = (keeps x all.0, all_mapped P f xs keeps all.1)

all_filtered : {A : Type 0} (P : A → Type 0) (keep : A → Bool) (xs : List A) → AllByRecursion P xs → AllByRecursion P (filter keep xs)
all_filtered P keep [] all = tt
all_filtered {A} P keep (x ∷ xs) all = by_test (keep x) (all_filtered P keep xs all.1)
  where
    by_test : (b : Bool) → AllByRecursion P (filter keep xs) → AllByRecursion P (cond b (x ∷ filter keep xs) (filter keep xs))
    by_test true rest = (all.0, rest)
    by_test false rest = rest

updated_fits : (table : Table) (version : ℕ) (sets : List (List ℕ × Lit)) (written : Option Pred) (entry : Entry) → EntryFits table.columns entry → EntryFits table.columns (updated table version sets written entry)
updated_fits table version sets written entry fits = by_test (is_met table written entry)
  where
    by_test : (b : Bool) → EntryFits table.columns (chosen b (record { id = entry.id; row = put_all table.columns sets entry.row; born = version }) entry)
    by_test true = put_all_fits table.columns sets entry.row fits
    by_test false = fits

pub fits_changed : (version high : ℕ) (state : State) (change : Change) → change_faults high state change ≡ [] → HasColumns change → AllByRecursion Fits state.tables → AllByRecursion Fits (changed version state change).tables
fits_changed version high state (changes.Create name columns) e some all =
    all_append Fits state.tables (new_table name columns ∷ []) all (record { columns = is_schema columns some (created_schema state name columns e); rows = tt }, tt)
fits_changed version high state (changes.Insert name rows) e some all = all_on Fits state name (λ (found : Table). inserted found version rows)
    (λ table is fits.
    let faultless : insert_faults table.columns 1 rows ≡ [] = rw is at e in
    record {
      columns = fits.columns;
      rows = all_append (EntryFits table.columns) table.entries (new_entries table.columns version table.next rows) fits.rows (new_fit table.columns version table.next 1 rows faultless);
    }) all
fits_changed version high state (changes.Update name sets written) e some all = all_on Fits state name (λ (found : Table). with_entries found (map (updated found version sets written) found.entries))
    (λ table is fits. record { columns = fits.columns; rows = all_mapped (EntryFits table.columns) (updated table version sets written) table.entries (updated_fits table version sets written) fits.rows }) all
fits_changed version high state (changes.Delete name written) e some all = all_on Fits state name (λ (found : Table). with_entries found (filter (λ (entry : Entry). not (is_met found written entry)) found.entries))
    (λ table is fits. record { columns = fits.columns; rows = all_filtered (EntryFits table.columns) (λ (entry : Entry). not (is_met table written entry)) table.entries fits.rows }) all
fits_changed version high state (changes.Partition name columns size radius) e some all = all_on Fits state name (λ (found : Table). cut found columns size radius)
    (λ table is fits. record { columns = fits.columns; rows = fits.rows }) all
fits_changed version high state (changes.Vacuum low) e some all = all
