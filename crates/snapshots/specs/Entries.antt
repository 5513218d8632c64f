-- The entries of a table.
use Rattle.std.specs.Prelude.{ℕ, List, [], ◌∷◌, map}
use Rattle.table_schema.specs.declared.cells.Cell.{Cell}

-- a row with its id, and the version of the commit that last wrote it
pub record Entry : Type 0 where
  pub id : ℕ
  pub row : List Cell
  pub born : ℕ

-- rows after their ids, and the versions
abbrev pub entry_rows : List Entry → List (ℕ × List Cell)
entry_rows entries = map (λ (entry : Entry). (entry.id, entry.row)) entries

abbrev pub entry_versions : List Entry → List ℕ
entry_versions entries = map (λ (entry : Entry). entry.born) entries

-- the entries that rows and as many versions make
abbrev pub entries_of : List (ℕ × List Cell) → List ℕ → List Entry
entries_of (row ∷ rows) (version ∷ versions) =
    record { id = row.0; row = row.1; born = version } ∷ entries_of rows versions
entries_of rows versions = []
