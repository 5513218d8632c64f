-- Lemmas on rows of a body as rows of the table.
use Rattle.std.proofs.Common.{◌≡◌, ℕ, ◌+◌, ◌^◌, ◌≤◌, List, [], ◌∷◌, length, Some, Result, Ok, Err, refl, sym, ap, ◌∙◌, arith, ℤ, unsigned_abs}
use Rattle.std.specs.Prelude.{All, IfOk, IsOk}
use Rattle.std.specs.List.{AllByRecursion}
use Rattle.std.proofs.lemmas.List.Elements.{All-from_recursion}
use borrow.Author.Tests.{eq-eqb, le-leb}
use Rattle.pq_base.specs.Decimal.{Reads, units_of}
use Rattle.pq_base.specs.declared.scaled.Scaled.{Scaled}
use Rattle.pq_base.proofs.SameNumbers.{unsigned_abs-signed}
use Rattle.schema_types.specs.declared.Column.{Column}
use Rattle.schema_types.specs.declared.Kind.{Kind}
use Rattle.schema_types.specs.declared.Kind.TheVariants as kinds
use Rattle.schema_types.specs.declared.Lit.{Lit}
use Rattle.schema_types.specs.declared.Lit.TheVariants as lits
use Rattle.table_schema.specs.Units.{units_in}
use Rattle.table_schema.specs.Cells.{cell_gives, number_cell, text_cell}
use Rattle.table_schema.specs.Rows.{cells_give, row_gives}
use Rattle.table_schema.specs.declared.limits.TheConstants.{MAX_TEXT_BYTES}
use Rattle.table_schema.specs.declared.cells.Cell.{Cell}
use Rattle.table_schema.specs.declared.cells.Cell.TheVariants as cells
use Rattle.table_schema.proofs.UnitLemmas.{units_are_one}
use Rattle.csv_load.specs.Fields.{FieldGives, FieldsGive, NumberGives, TextGives, with_first}
use Rattle.csv_load.specs.Fields.FieldsGive.{no_more_fields, bad_field, good_field}
use Rattle.csv_load.specs.Loading.{BodyGives, RecordGives, RecordsGive, TableGives, records_of}
use Rattle.csv_load.specs.Loading.RecordGives.{bad_record, bad_cell, good_record}
use Rattle.csv_load.specs.Loading.RecordsGive.{no_more_records, refused_record, before_records}
use Rattle.csv_load.specs.Loading.TableGives.{bad_header, good_header}
use Rattle.csv_load.specs.Loading.BodyGives.{too_long, short_enough}
use Rattle.csv_load.specs.declared.loading.LoadFault.{LoadFault}

-- what is read is within the range
read_small : (text : List ℕ) (scale : ℕ) (units : ℤ) → Reads text scale (Ok units) → unsigned_abs units ≤ 10 ^ 12
read_small text scale units reads =
    let magnitude = ap unsigned_abs reads.4 ∙ unsigned_abs-signed (reads.0).minus (units_of scale reads.0) in
    omega (arith, magnitude, reads.3)

number_passes : (scale : ℕ) (field : List ℕ) (number : Scaled) → NumberGives scale field (Some (lits.Num number)) → (cell : Cell) × (number_cell (units_in number.mant number.scale scale) ≡ Ok cell)
number_passes scale field number gives =
    let is = units_are_one number.mant number.scale scale (Ok gives.0) (sym gives.2, read_small field scale gives.0 gives.1) in
    (cells.Num gives.0, ap number_cell (sym is))

text_passes : (field text : List ℕ) → TextGives field (Some (lits.Text text)) → (cell : Cell) × (text_cell text ≡ Ok cell)
text_passes field text gives =
    let short : length text ≤ MAX_TEXT_BYTES = omega (arith, gives.0, ap length gives.1) in
    (cells.Text text, rw (le-leb (length text) MAX_TEXT_BYTES short) refl)

field_passes : (kind : Kind) (field : List ℕ) (lit : Lit) → FieldGives kind field (Some lit) → (cell : Cell) × (cell_gives kind lit ≡ Ok cell)
field_passes kinds.Text field (lits.Text text) gives = text_passes field text gives
field_passes kinds.Text field (lits.Num number) gives = absurd gives
field_passes kinds.Int field (lits.Text text) gives = absurd gives
field_passes kinds.Int field (lits.Num number) gives = number_passes 0 field number gives
field_passes (kinds.Dec scale) field (lits.Text text) gives = absurd gives
field_passes (kinds.Dec scale) field (lits.Num number) gives = number_passes scale field number gives

-- literals give cells in the columns from a place on, one each
pub record Fit (place : ℕ) (columns : List Column) (row : List Lit) : Type 0 where
  pub each : length row ≡ length columns
  pub cells : List Cell
  pub gives : cells_give place columns row ≡ Ok cells

one_more : (place : ℕ) (column : Column) (columns : List Column) (lit : Lit) (cell : Cell) (result : Result (List Lit) ℕ) → cell_gives column.kind lit ≡ Ok cell → IfOk result (Fit (place + 1) columns) → IfOk (with_first lit result) (Fit place (column ∷ columns))
one_more place column columns lit cell (Ok row) is fit = record {
  each = omega (arith, fit.each);
  cells = cell ∷ fit.cells;
  gives = rw (is, fit.gives) refl;
}
one_more place column columns lit cell (Err bad) is fit = tt

fields_fit : (place : ℕ) (columns : List Column) (fields : List (List ℕ)) (result : Result (List Lit) ℕ) → FieldsGive place columns fields result → IfOk result (Fit place columns)
fields_fit place columns fields result (no_more_fields at) = record { each = refl; cells = []; gives = refl }
fields_fit place columns fields result (bad_field at column rest field more gives) = tt
fields_fit place columns fields result (good_field at column rest field more lit given gives then) =
    let cell = field_passes column.kind field lit gives in
    one_more at column rest lit cell.0 given cell.1 (fields_fit (at + 1) rest more given then)

fit_passes : (columns : List Column) (row : List Lit) → Fit 0 columns row → IsOk (row_gives columns row)
fit_passes columns row fit = rw (eq-eqb (length row) (length columns) fit.each, fit.gives) refl

record_passes : (columns : List Column) (number : ℕ) (fields : List (List ℕ)) (result : Result (List Lit) LoadFault) → RecordGives columns number fields result → IfOk result (λ (row : List Lit). IsOk (row_gives columns row))
record_passes columns number fields result (bad_record torn) = tt
record_passes columns number fields result (bad_cell place whole gives) = tt
record_passes columns number fields result (good_record row whole gives) = fit_passes columns row (fields_fit 0 columns fields (Ok row) gives)

abbrev AllPass : List Column → List (List Lit) → Type 0
AllPass columns rows = AllByRecursion (λ (row : List Lit). IsOk (row_gives columns row)) rows

row_then : (columns : List Column) (row : List Lit) (result : Result (List (List Lit)) LoadFault) → IsOk (row_gives columns row) → IfOk result (AllPass columns) → IfOk (with_first row result) (AllPass columns)
row_then columns row (Ok rows) passes more = (passes, more)
row_then columns row (Err fault) passes more = tt

records_pass : (columns : List Column) (number : ℕ) (rest : List (List (List ℕ))) (result : Result (List (List Lit)) LoadFault) → RecordsGive columns number rest result → IfOk result (AllPass columns)
records_pass columns number rest result (no_more_records at) = tt
records_pass columns number rest result (refused_record at fields more fault gives) = tt
records_pass columns number rest result (before_records at fields more row given gives then) =
    row_then columns row given (record_passes columns at fields (Ok row) gives) (records_pass columns (at + 1) more given then)

table_passes : (columns : List Column) (all : List (List (List ℕ))) (result : Result (List (List Lit)) LoadFault) → TableGives columns all result → IfOk result (AllPass columns)
table_passes columns all result (bad_header none) = tt
table_passes columns all result (good_header rest given first gives) = records_pass columns 1 rest given gives

body_passes : (columns : List Column) (body : List ℕ) (result : Result (List (List Lit)) LoadFault) → BodyGives columns body result → IfOk result (AllPass columns)
body_passes columns body result (too_long long) = tt
body_passes columns body result (short_enough given short gives) = table_passes columns (records_of body) given gives

pub rows_pass : (columns : List Column) (body : List ℕ) (rows : List (List Lit)) → BodyGives columns body (Ok rows) → All (λ (row : List Lit). IsOk (row_gives columns row)) rows
rows_pass columns body rows gives = All-from_recursion (λ (row : List Lit). IsOk (row_gives columns row)) rows (body_passes columns body (Ok rows) gives)
