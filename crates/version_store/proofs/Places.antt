-- Lemmas on tables by their names.
use Rattle.std.proofs.Common.{◌≡◌, ◌≢◌, ℕ, Bool, true, false, List, [], ◌∷◌, ◌++◌, Some, None, refl, ap}
use Rattle.std.specs.Prelude.{map}
use Rattle.std.specs.List.{AllByRecursion}
use Rattle.std.specs.Option.{option_map}
use Rattle.std.specs.Str.{bytes_eq}
use Rattle.schema_types.specs.declared.Column.{Column}
use Rattle.table_schema.specs.Named.{schema_of}
use Rattle.snapshots.specs.States.{table_named}
use Rattle.snapshots.specs.declared.tables.Table.{Table}
use Rattle.version_store.proofs.Lists.{names_same, tests_apart}
use Rattle.version_store.proofs.Marks.{name_of_table}

-- a table is the first of its name, after others
pub record Found (name : List ℕ) (tables : List Table) (table : Table) : Type 0 where
  pub before : List Table
  pub after : List Table
  pub is : tables ≡ before ++ table ∷ after
  pub others : AllByRecursion (λ (other : Table). bytes_eq other.name name ≡ false) before
  pub named : bytes_eq table.name name ≡ true

abbrev pub found_here : (name : List ℕ) (table : Table) (tables : List Table) → bytes_eq table.name name ≡ true → Found name (table ∷ tables) table
found_here name table tables is = record { before = []; after = tables; is = refl; others = tt; named = is }

abbrev pub found_later : (name : List ℕ) (first : Table) (tables : List Table) (table : Table) → bytes_eq first.name name ≡ false → Found name tables table → Found name (first ∷ tables) table
found_later name first tables table is found = record {
  before = first ∷ found.before;
  after = found.after;
  is = ap (λ (rest : List Table). first ∷ rest) found.is;
  others = (is, found.others);
  named = found.named;
}

pub named_found : (name : List ℕ) (tables : List Table) (table : Table) → table_named name tables ≡ Some table → Found name tables table
named_found name [] table e = absurd (cc)
named_found name (first ∷ tables) table e = by_test (bytes_eq first.name name) refl (named_found name tables table)
  where
    by_test : (b : Bool) → bytes_eq first.name name ≡ b → (table_named name tables ≡ Some table → Found name tables table) → Found name (first ∷ tables) table
    by_test true is rest = let here : first ≡ table = let given = rw is at e in cc in rw (← here) (found_here name first tables is)
    by_test false is rest = found_later name first tables table is (rest (rw is at e))

-- no table has a name that isn't found
pub not_there : (name : List ℕ) (tables : List Table) → table_named name tables ≡ None → AllByRecursion (λ (other : List ℕ). other ≢ name) (map name_of_table tables)
not_there name [] e = tt
not_there name (table ∷ tables) e = by_test (bytes_eq table.name name) refl (not_there name tables)
  where
    by_test : (b : Bool) → bytes_eq table.name name ≡ b → (table_named name tables ≡ None → AllByRecursion (λ (other : List ℕ). other ≢ name) (map name_of_table tables)) → AllByRecursion (λ (other : List ℕ). other ≢ name) (map name_of_table (table ∷ tables))
    by_test true is rest = let given = rw is at e in absurd (cc)
    by_test false is rest = ((λ same. tests_apart _ (names_same table.name name same) is), rest (rw is at e))

abbrev pub columns_of : Table → List ℕ × List Column
columns_of table = (table.name, table.columns)

-- the columns that a name has are those of its table
pub columns_named : (name : List ℕ) (tables : List Table) → schema_of name (map columns_of tables) ≡ option_map (λ (table : Table). table.columns) (table_named name tables)
columns_named name [] = refl
columns_named name (table ∷ tables) = by_test (bytes_eq table.name name) refl (columns_named name tables)
  where
    by_test : (b : Bool) → bytes_eq table.name name ≡ b → schema_of name (map columns_of tables) ≡ option_map (λ (table : Table). table.columns) (table_named name tables) → schema_of name (map columns_of (table ∷ tables)) ≡ option_map (λ (table : Table). table.columns) (table_named name (table ∷ tables))
    by_test true is rest = rw is refl
    by_test false is rest = rw is rest
