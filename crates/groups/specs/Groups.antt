-- Private: `groups_of` in `src/grouping.rt`.
-- The groups of a table of a version, by its partition.
use Rattle.std.specs.Prelude.{◌≡◌, ℕ, ◌^◌, ◌<◌, ◌≤◌, List, map, length, ℤ, unsigned_abs}
use Rattle.std.specs.Prelude.{Option, None, Some, IsSome}
use Rattle.std.specs.List.{AllByRecursion}
use Rattle.std.specs.Option.{option_map, option_and_then}
use Rattle.table_schema.specs.Rows.{FitsSchema}
use Rattle.table_schema.specs.declared.cells.Cell.{Cell}
use Rattle.quadtree.specs.Points.{Point}
use Rattle.quadtree.specs.Groups.{groups_of}
use Rattle.quadtree.specs.declared.group.Group.{Group}
use Rattle.snapshots.specs.States.{table_named, rows_of}
use Rattle.snapshots.specs.declared.tables.Partition.{Partition}
use Rattle.snapshots.specs.declared.tables.Table.{Table}
use Rattle.groups.specs.Points.{point_of, radius_at}
use Rattle.groups.specs.declared.fault.GroupFault.{GroupFault}
use Rattle.groups.specs.declared.fault.GroupFault.TheVariants.{NoPartition, Memory}

-- the points of a table's rows, and the radius for each of the partition's columns
abbrev pub points : Table → Partition → List Point
points table cut = map (point_of cut.columns) (rows_of table)

abbrev pub radii : Table → Partition → List ℤ
radii table cut = map (radius_at table.columns cut.radius) cut.columns

-- the groups of a table's rows
abbrev pub groups_by : Table → Partition → List Group
groups_by table cut = groups_of cut.size (radii table cut) (points table cut)

-- there are none if the table isn't cut
abbrev pub groups_in : Table → Option (List Group)
groups_in table = option_map (groups_by table) table.partition

-- nor if the version has no such table
abbrev pub groups_named : List ℕ → List Table → Option (List Group)
groups_named name tables = option_and_then groups_in (table_named name tables)

-- a table with a partition, as a version has them
pub record IsCut (table : Table) (cut : Partition) : Type 0 where
  pub some : 0 < cut.size
  pub size : cut.size < 2 ^ 32
  pub fine : cut.radius.scale ≤ 6
  pub near : unsigned_abs cut.radius.mant ≤ 10 ^ 12
  pub rows : AllByRecursion (λ (row : ℕ × List Cell). FitsSchema table.columns row.1)
      (rows_of table)
  pub few : length (rows_of table) ≤ 200_000

-- so is each table of a version that has a partition
abbrev pub CanBeGrouped : List Table → Type 0
CanBeGrouped tables = (name : List ℕ) (table : Table) (cut : Partition)
    → table_named name tables ≡ Some table → table.partition ≡ Some cut → IsCut table cut

-- no partition is answered exactly if there are no groups
abbrev pub IsFaultOf : Option (List Group) → GroupFault → Type 0
IsFaultOf due NoPartition = due ≡ None
IsFaultOf due (Memory error) = IsSome due
