-- The columns of a table, their faults, and where a name is among them.
use Rattle.std.specs.Prelude.{◌≢◌, ℕ, ◌<◌, ◌≤◌, nat_lt, nat_le, Bool, true, ◌&&◌}
use Rattle.std.specs.Prelude.{if◌then◌else◌, IsTrue, List, [], ◌∷◌, ◌++◌, length, All, AllPairs}
use Rattle.std.specs.Prelude.{Option, is_some}
use Rattle.std.specs.List.{position_from}
use Rattle.std.specs.Str.{bytes_eq}
use Rattle.schema_types.specs.declared.Column.{Column}
use Rattle.schema_types.specs.declared.Kind.{Kind}
use Rattle.schema_types.specs.declared.Kind.TheVariants as kinds
use Rattle.table_schema.specs.declared.limits.TheConstants.{MAX_COLUMNS, MAX_SCALE}
use Rattle.table_schema.specs.declared.schema.SchemaFault.{SchemaFault}
use Rattle.table_schema.specs.declared.schema.SchemaFault.TheVariants.{TooManyColumns, BadScale}
use Rattle.table_schema.specs.declared.schema.SchemaFault.TheVariants.{DuplicateColumn}

-- how many digits after the point the cells of a column keep
abbrev pub scale_of : Kind → ℕ
scale_of kinds.Int = 0
scale_of (kinds.Dec scale) = scale
scale_of kinds.Text = 0

-- decimals keep 1 to MAX_SCALE digits after the point
abbrev pub has_legal_scale : Kind → Bool
has_legal_scale kinds.Int = true
has_legal_scale (kinds.Dec scale) = nat_lt 0 scale && nat_le scale MAX_SCALE
has_legal_scale kinds.Text = true

-- the place of the first column of a name
abbrev pub place_of : List ℕ → List Column → Option ℕ
place_of name columns = position_from (λ (column : Column). bytes_eq column.name name) 0 columns

-- the columns of a table
pub record IsSchema (columns : List Column) : Type 0 where
  pub some : 0 < length columns
  pub few : length columns ≤ MAX_COLUMNS
  pub scales : All (λ (column : Column). IsTrue (has_legal_scale column.kind)) columns
  pub names : AllPairs (λ (one other : Column). one.name ≢ other.name) columns

-- the faults of a column that comes after others
abbrev pub scale_faults : ℕ → Column → List SchemaFault
scale_faults place column = if has_legal_scale column.kind then [] else BadScale place ∷ []

abbrev pub name_faults : List Column → Column → List SchemaFault
name_faults before column =
    if is_some (place_of column.name before) then DuplicateColumn (length before) ∷ [] else []

-- the faults of columns that come after others, column by column
abbrev pub column_faults : List Column → List Column → List SchemaFault
column_faults before [] = []
column_faults before (column ∷ columns) = scale_faults (length before) column
    ++ (name_faults before column ++ column_faults (before ++ column ∷ []) columns)

-- the faults of a list of columns, of which the first is answered
abbrev pub schema_faults : List Column → List SchemaFault
schema_faults columns = if nat_lt MAX_COLUMNS (length columns)
    then TooManyColumns (length columns) ∷ column_faults [] columns else column_faults [] columns
