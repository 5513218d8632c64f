-- What literals give as a row of a table, and which rows a table can have.
use Rattle.std.specs.Prelude.{◌≡◌, ℕ, ◌+◌, ◌==◌, if◌then◌else◌, List, [], ◌∷◌, length, Result, Ok}
use Rattle.std.specs.Prelude.{Err}
use Rattle.schema_types.specs.declared.Column.{Column}
use Rattle.schema_types.specs.declared.Lit.{Lit}
use Rattle.table_schema.specs.Cells.{cell_gives, FitsKind}
use Rattle.table_schema.specs.declared.cells.Cell.{Cell}
use Rattle.table_schema.specs.declared.cells.CellFault.{CellFault}
use Rattle.table_schema.specs.declared.cells.CellFault.TheVariants as faults
use Rattle.table_schema.specs.declared.rows.RowFault.{RowFault}
use Rattle.table_schema.specs.declared.rows.RowFault.TheVariants.{Arity, BadCell, OutOfRange}
use Rattle.table_schema.specs.declared.rows.RowFault.TheVariants.{TextTooLong, Memory}

-- the fault of a cell at the place of its column
abbrev pub fault_at : ℕ → CellFault → RowFault
fault_at place faults.BadCell = BadCell place
fault_at place faults.OutOfRange = OutOfRange place
fault_at place faults.TextTooLong = TextTooLong place

-- a cell, and the cells of the columns after it; the first fault decides
abbrev pub cell_then : ℕ → Result Cell CellFault → Result (List Cell) RowFault
    → Result (List Cell) RowFault
cell_then place (Ok cell) (Ok cells) = Ok (cell ∷ cells)
cell_then place (Ok cell) (Err fault) = Err fault
cell_then place (Err fault) rest = Err (fault_at place fault)

-- what as many literals as columns give, from a place on
abbrev pub cells_give : ℕ → List Column → List Lit → Result (List Cell) RowFault
cells_give place [] lits = Ok []
cells_give place (column ∷ columns) [] = Ok []
cells_give place (column ∷ columns) (lit ∷ lits) =
    cell_then place (cell_gives column.kind lit) (cells_give (place + 1) columns lits)

-- what literals give as a row
abbrev pub row_gives : List Column → List Lit → Result (List Cell) RowFault
row_gives columns lits = if length lits == length columns then cells_give 0 columns lits
    else Err (Arity (length lits) (length columns))

-- the answer is the one that is due, or memory is out
abbrev pub AnswersRow : Result (List Cell) RowFault → Result (List Cell) RowFault → Type 0
AnswersRow due (Ok row) = due ≡ Ok row
AnswersRow due (Err (Memory error)) = Unit {0}
AnswersRow due (Err fault) = due ≡ Err fault

-- a row of a table: a cell for each column, which it can have
abbrev pub FitsSchema : List Column → List Cell → Type 0
FitsSchema [] [] = Unit {0}
FitsSchema (column ∷ columns) (cell ∷ cells) = FitsKind column.kind cell × FitsSchema columns cells
FitsSchema columns cells = ⊥
