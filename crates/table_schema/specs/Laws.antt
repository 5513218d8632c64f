-- Private: the laws in `src/laws.rt`.
-- What the definitions of schemas and rows come to.
use Rattle.std.specs.Prelude.{◌≡◌, ◌↔◌, ℕ, ◌<◌, List, [], length, ℤ, Ok}
use Rattle.schema_types.specs.declared.Column.{Column}
use Rattle.schema_types.specs.declared.Lit.{Lit}
use Rattle.table_schema.specs.Columns.{IsSchema, schema_faults}
use Rattle.table_schema.specs.Units.{UnitsAreOne}
use Rattle.table_schema.specs.Rows.{row_gives, FitsSchema}
use Rattle.table_schema.specs.declared.cells.Cell.{Cell}

-- columns have no fault exactly if they are the columns of a table
abbrev pub NoFaultIsSchema : Type 0
NoFaultIsSchema = (columns : List Column) → 0 < length columns
    → (schema_faults columns ≡ []) ↔ IsSchema columns

-- a number gives one answer in units
abbrev pub OneUnits : Type 0
OneUnits = (mant : ℤ) (places scale : ℕ) → UnitsAreOne mant places scale

-- what literals give fits
abbrev pub GivenRowsFit : Type 0
GivenRowsFit = (columns : List Column) (lits : List Lit) (row : List Cell)
    → row_gives columns lits ≡ Ok row → FitsSchema columns row
