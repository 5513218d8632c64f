-- What the fields of a record give as literals.
use Rattle.std.specs.Prelude.{◌≡◌, ℕ, ◌+◌, ◌<◌, ◌≤◌, List, [], ◌∷◌, length, ℤ}
use Rattle.std.specs.Prelude.{Option, Some, None, Result, Ok, Err}
use Rattle.pq_base.specs.Decimal.{Reads}
use Rattle.pq_base.specs.Scaled.{IsSameNumber}
use Rattle.pq_base.specs.declared.decimal.NumFault.{NumFault}
use Rattle.schema_types.specs.declared.Column.{Column}
use Rattle.schema_types.specs.declared.Kind.{Kind}
use Rattle.schema_types.specs.declared.Kind.TheVariants as kinds
use Rattle.schema_types.specs.declared.Lit.{Lit}
use Rattle.schema_types.specs.declared.Lit.TheVariants as lits
use Rattle.table_schema.specs.Columns.{scale_of}
use Rattle.table_schema.specs.declared.limits.TheConstants.{MAX_TEXT_BYTES}
use Rattle.csv_load.specs.declared.fields.RowRefusal.{RowRefusal}
use Rattle.csv_load.specs.declared.fields.RowRefusal.TheVariants.{Bad, Memory}

-- a field is a text of a cell if it isn't too long
abbrev pub TextGives : List ℕ → Option Lit → Type 0
TextGives field None = MAX_TEXT_BYTES < length field
TextGives field (Some (lits.Text text)) = (length field ≤ MAX_TEXT_BYTES) × (text ≡ field)
TextGives field (Some (lits.Num number)) = ⊥

-- a field is the number that is read as units of a scale
abbrev pub NumberGives : ℕ → List ℕ → Option Lit → Type 0
NumberGives scale field None = (fault : NumFault) × Reads field scale (Err fault)
NumberGives scale field (Some (lits.Num number)) = (units : ℤ) × Reads field scale (Ok units)
    × IsSameNumber units scale number.mant number.scale
NumberGives scale field (Some (lits.Text text)) = ⊥

-- what a field gives in a column of a kind, or that it gives nothing
abbrev pub FieldGives : Kind → List ℕ → Option Lit → Type 0
FieldGives kinds.Text field lit = TextGives field lit
FieldGives kind field lit = NumberGives (scale_of kind) field lit

-- an entry before the entries of a list, if there is one
abbrev pub with_first : {A E : Type 0} → A → Result (List A) E → Result (List A) E
with_first entry (Ok entries) = Ok (entry ∷ entries)
with_first entry (Err fault) = Err fault

-- what fields give in columns, from a place on: their literals, or the place of the first field
-- that gives nothing
pub data FieldsGive : ℕ → List Column → List (List ℕ) → Result (List Lit) ℕ → Type 0 where
  no_more_fields : (place : ℕ) → FieldsGive place [] [] (Ok [])
  bad_field : (place : ℕ) (column : Column) (columns : List Column) (field : List ℕ)
      (fields : List (List ℕ)) → FieldGives column.kind field None
      → FieldsGive place (column ∷ columns) (field ∷ fields) (Err place)
  good_field : (place : ℕ) (column : Column) (columns : List Column) (field : List ℕ)
      (fields : List (List ℕ)) (lit : Lit) (result : Result (List Lit) ℕ)
      → FieldGives column.kind field (Some lit) → FieldsGive (place + 1) columns fields result
      → FieldsGive place (column ∷ columns) (field ∷ fields) (with_first lit result)

-- what the fields of a record come to, or memory is out
abbrev pub GivesRow : List Column → List (List ℕ) → Result (List Lit) RowRefusal → Type 0
GivesRow columns fields (Ok lits) = FieldsGive 0 columns fields (Ok lits)
GivesRow columns fields (Err (Bad place)) = FieldsGive 0 columns fields (Err place)
GivesRow columns fields (Err (Memory error)) = Unit {0}
