-- What a literal gives as a cell of a column, and which cells a column can have.
use Rattle.std.specs.Prelude.{ℕ, ◌≤◌, ◌^◌, nat_le, if◌then◌else◌, List, length, ℤ, Result, Ok, Err}
use Rattle.std.specs.Int.RustNames.{unsigned_abs}
use Rattle.pq_base.specs.declared.decimal.NumFault.{NumFault}
use Rattle.pq_base.specs.declared.decimal.NumFault.TheVariants as numbers
use Rattle.schema_types.specs.declared.Kind.{Kind}
use Rattle.schema_types.specs.declared.Kind.TheVariants as kinds
use Rattle.schema_types.specs.declared.Lit.{Lit}
use Rattle.schema_types.specs.declared.Lit.TheVariants as lits
use Rattle.table_schema.specs.Columns.{scale_of}
use Rattle.table_schema.specs.Units.{units_in}
use Rattle.table_schema.specs.declared.limits.TheConstants.{MAX_TEXT_BYTES}
use Rattle.table_schema.specs.declared.cells.Cell.{Cell}
use Rattle.table_schema.specs.declared.cells.Cell.TheVariants as cells
use Rattle.table_schema.specs.declared.cells.CellFault.{CellFault}
use Rattle.table_schema.specs.declared.cells.CellFault.TheVariants.{BadCell, OutOfRange}
use Rattle.table_schema.specs.declared.cells.CellFault.TheVariants.{TextTooLong}

-- why a number that gives no units gives no cell
abbrev pub number_fault : NumFault → CellFault
number_fault numbers.NotANumber = BadCell
number_fault numbers.TooFine = BadCell
number_fault numbers.OutOfRange = OutOfRange

-- a number of units as a cell
abbrev pub number_cell : Result ℤ NumFault → Result Cell CellFault
number_cell (Ok units) = Ok (cells.Num units)
number_cell (Err fault) = Err (number_fault fault)

-- a text as a cell
abbrev pub text_cell : List ℕ → Result Cell CellFault
text_cell text =
    if nat_le (length text) MAX_TEXT_BYTES then Ok (cells.Text text) else Err TextTooLong

-- what a literal gives in a column of a kind
abbrev pub cell_gives : Kind → Lit → Result Cell CellFault
cell_gives kinds.Text (lits.Text text) = text_cell text
cell_gives kinds.Text (lits.Num number) = Err BadCell
cell_gives kind (lits.Text text) = Err BadCell
cell_gives kind (lits.Num number) =
    number_cell (units_in number.mant number.scale (scale_of kind))

-- a cell that a column of a kind can have
abbrev pub FitsKind : Kind → Cell → Type 0
FitsKind kinds.Text (cells.Text text) = length text ≤ MAX_TEXT_BYTES
FitsKind kinds.Text (cells.Num units) = ⊥
FitsKind kind (cells.Text text) = ⊥
FitsKind kind (cells.Num units) = unsigned_abs units ≤ 10 ^ 12
