-- Private: `groups_of` in `src/grouping.rt`.
-- The points of rows, and a radius in the units of columns.
use Rattle.std.specs.Prelude.{ℕ, ◌^◌, List, map, ℤ, pos, ◌*ℤ◌, Option, None, Some, slice_get}
use Rattle.std.specs.Int.{int_div_euclid}
use Rattle.pq_base.specs.declared.scaled.Scaled.{Scaled}
use Rattle.schema_types.specs.declared.Column.{Column}
use Rattle.schema_types.specs.declared.Kind.{Kind}
use Rattle.schema_types.specs.declared.Kind.TheVariants.{Int}
use Rattle.table_schema.specs.Columns.{scale_of}
use Rattle.table_schema.specs.declared.cells.Cell.{Cell}
use Rattle.table_schema.specs.declared.cells.Cell.TheVariants.{Num, Text}
use Rattle.quadtree.specs.Points.{Point}

-- the number in a cell; the columns of a partition have no other cells
abbrev pub number_in : Option Cell → ℤ
number_in (Some (Num units)) = units
number_in (Some (Text text)) = pos 0
number_in None = pos 0

abbrev pub number_at : List Cell → ℕ → ℤ
number_at row place = number_in (slice_get row place)

-- the point of a row: its id, and its numbers in these columns
abbrev pub point_of : List ℕ → ℕ × List Cell → Point
point_of columns row = (row.0, map (number_at row.1) columns)

-- a radius in the units of a column, rounded down
abbrev pub radius_in : Scaled → Kind → ℤ
radius_in radius kind =
    int_div_euclid (radius.mant *ℤ pos (10 ^ scale_of kind)) (pos (10 ^ radius.scale))

abbrev pub kind_of : Option Column → Kind
kind_of (Some column) = column.kind
kind_of None = Int

abbrev pub kind_at : List Column → ℕ → Kind
kind_at columns place = kind_of (slice_get columns place)

abbrev pub radius_at : List Column → Scaled → ℕ → ℤ
radius_at columns radius place = radius_in radius (kind_at columns place)
