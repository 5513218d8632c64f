-- Private: the law `partitioned_histories` in `src/laws.rt`.
-- The partitions of the tables that a version shows.
use Rattle.std.specs.Prelude.{◌≡◌, ℕ, ◌^◌, ◌<◌, ◌≤◌, List, length, unsigned_abs, Some}
use Rattle.std.specs.List.{AllByRecursion}
use Rattle.schema_types.specs.declared.Column.{Column}
use Rattle.snapshots.specs.States.{table_named, rows_of}
use Rattle.snapshots.specs.declared.tables.Partition.{Partition}
use Rattle.snapshots.specs.declared.tables.Table.{Table}
use Rattle.version_store.specs.Answers.{shown}
use Rattle.version_store.specs.Histories.{History, IsHistory}
use Rattle.version_store.specs.Laws.{AreRows}
use Rattle.version_store.specs.Legal.{HaveColumns}
use Rattle.version_store.specs.declared.limits.TheConstants.{MAX_PARTITION_COLUMNS}
use Rattle.version_store.specs.declared.limits.TheConstants.{MAX_PARTITION_SIZE}

-- a partition that a change may make of a table with these columns
pub record IsAllowed (columns : List Column) (cut : Partition) : Type 0 where
  pub some : 0 < cut.size
  pub most : cut.size ≤ MAX_PARTITION_SIZE
  pub fine : cut.radius.scale ≤ 6
  pub near : unsigned_abs cut.radius.mant ≤ 10 ^ 12
  pub few : length cut.columns ≤ MAX_PARTITION_COLUMNS
  pub places : AllByRecursion (λ (place : ℕ). place < length columns) cut.columns

-- the table's partition, and the rows that are grouped by it
pub record IsPartitioned (table : Table) (cut : Partition) : Type 0 where
  pub allowed : IsAllowed table.columns cut
  pub rows : AreRows table.columns (rows_of table)

-- the table that any name has in any version, if it has a partition
abbrev pub PartitionedHistories : Type 0
PartitionedHistories = (history : History) (version : ℕ) (name : List ℕ) (table : Table)
    (cut : Partition) → IsHistory history → HaveColumns history
    → table_named name (shown history version).tables ≡ Some table → table.partition ≡ Some cut
    → IsPartitioned table cut
