-- The rows of the tables of a version can be asked.
use Rattle.std.proofs.Common.{◌≡◌, ℕ, suc, ◌≤◌, List, [], ◌∷◌, ◌++◌, length, Option, Some, None, refl, sym, ap, subst, ◌∙◌, arith}
use Rattle.std.specs.Prelude.{map, flat_map}
use Rattle.std.specs.List.{AllByRecursion}
use Rattle.std.proofs.lemmas.List.{length-map}
use Rattle.schema_types.specs.declared.Column.{Column}
use Rattle.table_schema.specs.Rows.{FitsSchema}
use Rattle.table_schema.specs.declared.cells.Cell.{Cell}
use Rattle.package_query.specs.Package.{AscendsFrom}
use Rattle.snapshots.specs.Entries.{Entry}
use Rattle.snapshots.specs.States.{table_named, rows_of}
use Rattle.snapshots.specs.declared.tables.Table.{Table}
use Rattle.version_store.specs.Legal.{AscendsTo}
use Rattle.version_store.specs.Counts.{entries_in}
use Rattle.version_store.specs.Histories.{marks_of_table}
use Rattle.version_store.specs.Laws.{AreRows, HaveRows}
use Rattle.version_store.specs.Legal.{IsLegal, AreLegal}
use Rattle.version_store.specs.declared.limits.TheConstants.{MAX_ENTRIES}
use Rattle.version_store.proofs.CountingTables.{entries_are}
use Rattle.version_store.proofs.Places.{columns_named}
use Rattle.version_store.proofs.Lists.{all_at}
use Rattle.version_store.proofs.Places.{named_found}

ascends : (low from : ℕ) (entries : List Entry) (next : ℕ) → from ≤ low → AscendsTo low entries next → AscendsFrom from (map (λ (entry : Entry). (entry.id, entry.row)) entries)
ascends low from [] next below is = tt
ascends low from (entry ∷ entries) next below is = (omega (arith, below, is.0), ascends (suc entry.id) (suc entry.id) entries next (omega arith) is.1)

fit_rows : (columns : List Column) (entries : List Entry) → AllByRecursion (λ (entry : Entry). FitsSchema columns entry.row) entries → AllByRecursion (λ (row : ℕ × List Cell). FitsSchema columns row.1) (map (λ (entry : Entry). (entry.id, entry.row)) entries)
fit_rows columns [] all = tt
fit_rows columns (entry ∷ entries) all = (all.0, fit_rows columns entries all.1)

legal_rows : (version : ℕ) (table : Table) → IsLegal version table → length table.entries ≤ MAX_ENTRIES → AreRows table.columns (rows_of table)
legal_rows version table is few = record {
  schema = is.columns;
  ids = ascends 1 0 table.entries table.next (omega arith) is.ids;
  fit = fit_rows table.columns table.entries is.rows;
  few = let same : length (rows_of table) ≡ length table.entries = length-map table.entries _ in omega (arith, same, few);
}

one_of_many : (before after : List Table) (table : Table) → length table.entries ≤ entries_in (before ++ table ∷ after)
one_of_many [] after table = omega arith
one_of_many (first ∷ before) after table = omega (arith, one_of_many before after table)

found_rows : (version : ℕ) (name : List ℕ) (tables : List Table) (table : Table) → AreLegal version tables → length (flat_map marks_of_table tables) ≤ MAX_ENTRIES → table_named name tables ≡ Some table → AreRows table.columns (rows_of table)
found_rows version name tables table are few is =
    let found = named_found name tables table is in
    let each : AllByRecursion (IsLegal version) (found.before ++ table ∷ found.after) = subst (AllByRecursion (IsLegal version)) found.is are.each in
    let most = one_of_many found.before found.after table in
    let same : entries_in tables ≡ entries_in (found.before ++ table ∷ found.after) = ap entries_in found.is in
    legal_rows version table (all_at (IsLegal version) found.before found.after table each) (omega (arith, few, most, same, entries_are tables))

pub have_rows : (version : ℕ) (tables : List Table) → AreLegal version tables → length (flat_map marks_of_table tables) ≤ MAX_ENTRIES → HaveRows tables
have_rows version tables are few name columns rows one other = by_case (table_named name tables) refl
  where
    by_case : (given : Option Table) → table_named name tables ≡ given → AreRows columns rows
    by_case None is = let first = rw is at (sym (columns_named name tables) ∙ one) in absurd (cc)
    by_case (Some table) is =
        let first : table.columns ≡ columns = let e = rw is at (sym (columns_named name tables) ∙ one) in cc in
        let second : rows_of table ≡ rows = let e = rw is at other in cc in
        subst (AreRows columns) second (subst (λ (some : List Column). AreRows some (rows_of table)) first (found_rows version name tables table are few is))
