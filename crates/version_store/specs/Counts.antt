-- Private: `src/counting.rt`.
-- How many entries tables have, and how many of them a version wrote.
use Rattle.std.specs.Prelude.{ℕ, ◌+◌, ◌==◌, List, [], ◌∷◌, length, filter}
use Rattle.snapshots.specs.Entries.{entry_versions}
use Rattle.snapshots.specs.declared.tables.Table.{Table}

abbrev pub entries_in : List Table → ℕ
entries_in [] = 0
entries_in (table ∷ tables) = length table.entries + entries_in tables

abbrev pub written_by : ℕ → Table → ℕ
written_by version table =
    length (filter (λ (born : ℕ). born == version) (entry_versions table.entries))

abbrev pub written_in : ℕ → List Table → ℕ
written_in version [] = 0
written_in version (table ∷ tables) = written_by version table + written_in version tables
