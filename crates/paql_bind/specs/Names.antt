-- Columns by their names, and the faults of names and numbers.
use Rattle.std.specs.Prelude.{ℕ, Bool, true, false, if◌then◌else◌, List, [], ◌∷◌, ◌++◌, slice_get, Option, Some, None, is_some, All, IsTrue}
use Rattle.std.specs.Bool.{nat_lt}
use Rattle.std.specs.Int.RustNames.{unsigned_abs}
use Rattle.std.specs.Str.{bytes_eq}
use Rattle.pq_base.specs.declared.scaled.Scaled.{Scaled}
use Rattle.schema_types.specs.declared.Column.{Column}
use Rattle.schema_types.specs.declared.Kind.{Kind}
use Rattle.schema_types.specs.declared.Kind.TheVariants as kinds
use Rattle.table_schema.specs.Columns.{place_of, scale_of, has_legal_scale}
use Rattle.paql_ast.specs.declared.conditions.ColumnName.{ColumnName}
use Rattle.bound_query.specs.Fits.{alike, most_scale, most_units}
use Rattle.paql_bind.specs.declared.faults.Refusal.{Refusal}
use Rattle.paql_bind.specs.declared.faults.Refusal.TheVariants.{NoColumn, WrongKind, TooFineLiteral, LiteralRange}

-- ---- columns

-- what can be named: the columns of a table, bare or with the one prefix
pub record Scope : Type 0 where
  pub columns : List Column
  pub prefix : List ℕ

abbrev pub scope : List Column → List ℕ → Scope
scope columns prefix = record { columns = columns; prefix = prefix }

-- each column of decimals keeps 1 to 6 digits after the point
abbrev pub IsLegal : Scope → Type 0
IsLegal scope = All (λ (column : Column). IsTrue (has_legal_scale column.kind)) scope.columns

-- a name as it is written, without quotes
abbrev pub written_prefix : Option (List ℕ) → List ℕ
written_prefix None = []
written_prefix (Some prefix) = prefix ++ 46 ∷ []

abbrev pub written : ColumnName → List ℕ
written column = written_prefix column.prefix ++ column.name

-- there is no prefix, or it is the scope's
abbrev pub allows : Scope → Option (List ℕ) → Bool
allows scope None = true
allows scope (Some prefix) = bytes_eq prefix scope.prefix

-- the place of a column, from 0, if the scope has it
abbrev pub place_in : Scope → ColumnName → Option ℕ
place_in scope column =
    if allows scope column.prefix then place_of column.name scope.columns else None

abbrev pub kind_of : Option Column → Option Kind
kind_of None = None
kind_of (Some column) = Some column.kind

abbrev pub kind_at : Option ℕ → List Column → Option Kind
kind_at None columns = None
kind_at (Some place) columns = kind_of (slice_get columns place)

abbrev pub kind_in : Scope → ColumnName → Option Kind
kind_in scope column = kind_at (place_in scope column) scope.columns

-- the place and the scale that a column is bound to: 0 if the scope doesn't have it, which is
-- refused
abbrev pub number_or_zero : Option ℕ → ℕ
number_or_zero None = 0
number_or_zero (Some number) = number

abbrev pub bound_place : Scope → ColumnName → ℕ
bound_place scope column = number_or_zero (place_in scope column)

abbrev pub scale_or_zero : Option Kind → ℕ
scale_or_zero None = 0
scale_or_zero (Some kind) = scale_of kind

abbrev pub bound_scale : Scope → ColumnName → ℕ
bound_scale scope column = scale_or_zero (kind_in scope column)

abbrev pub is_text_kind : Option Kind → Bool
is_text_kind None = false
is_text_kind (Some kinds.Int) = false
is_text_kind (Some (kinds.Dec scale)) = false
is_text_kind (Some kinds.Text) = true

abbrev pub is_text_column : Scope → ColumnName → Bool
is_text_column scope column = is_text_kind (kind_in scope column)

-- ---- faults

-- no such column
abbrev pub column_faults : Scope → ColumnName → List Refusal
column_faults scope column =
    if is_some (place_in scope column) then [] else NoColumn (written column) ∷ []

-- a column is no text where a text is asked, or the other way round
abbrev pub kind_faults : Scope → ColumnName → Bool → List Refusal
kind_faults scope column textual =
    if alike textual (is_text_column scope column) then [] else WrongKind (written column) ∷ []

-- a column that is summed
abbrev pub summed_faults : Scope → ColumnName → List Refusal
summed_faults scope column = column_faults scope column ++ kind_faults scope column false

-- a number with more than 6 digits after the point, and else one over 10^12 of its last digit
abbrev pub number_faults : Scaled → List Refusal
number_faults number = if nat_lt most_scale number.scale then TooFineLiteral ∷ []
    else (if nat_lt most_units (unsigned_abs number.mant) then LiteralRange ∷ [] else [])
