-- The points of rows that fit their columns can be put into groups.
use Rattle.std.proofs.Common.{◌≡◌, ℕ, zero, suc, ◌<◌, ◌≤◌, ◌^◌, ◌⊎◌, inl, inr, List, [], ◌∷◌, length, get_or, map, All, pos, unsigned_abs, Some, sym, ◌∙◌, arith}
use Rattle.std.specs.List.{AllByRecursion}
use Rattle.std.proofs.lemmas.Bool.{cases_lt}
use Rattle.std.proofs.lemmas.List.{get_or-map, get_or_past, length-map}
use Rattle.std.proofs.lemmas.List.Elements.{All-nil, All-cons}
use Rattle.schema_types.specs.declared.Column.{Column}
use Rattle.schema_types.specs.declared.Kind.{Kind}
use Rattle.schema_types.specs.declared.Kind.TheVariants as kinds
use Rattle.table_schema.specs.Cells.{FitsKind}
use Rattle.table_schema.specs.Rows.{FitsSchema}
use Rattle.table_schema.specs.declared.cells.Cell.{Cell}
use Rattle.table_schema.specs.declared.cells.Cell.TheVariants as cells
use Rattle.quadtree.specs.Points.{int_at}
use Rattle.quadtree.specs.Places.{IsFit}
use Rattle.groups.specs.Points.{number_in, number_at, point_of}

cell_small : (kind : Kind) (cell : Cell) → FitsKind kind cell → unsigned_abs (number_in (Some cell)) ≤ 10 ^ 12
cell_small kinds.Text (cells.Num units) fits = absurd fits
cell_small kinds.Text (cells.Text text) fits = omega arith
cell_small kinds.Int (cells.Num units) fits = fits
cell_small kinds.Int (cells.Text text) fits = absurd fits
cell_small (kinds.Dec scale) (cells.Num units) fits = fits
cell_small (kinds.Dec scale) (cells.Text text) fits = absurd fits

pub number_small : (columns : List Column) (row : List Cell) (place : ℕ) → FitsSchema columns row → unsigned_abs (number_at row place) ≤ 10 ^ 12
number_small [] [] place fits = omega arith
number_small [] (cell ∷ row) place fits = absurd fits
number_small (column ∷ columns) [] place fits = absurd fits
number_small (column ∷ columns) (cell ∷ row) zero fits = cell_small column.kind cell fits.0
number_small (column ∷ columns) (cell ∷ row) (suc place) fits = number_small columns row place fits.1

coordinate_small : (columns : List Column) (places : List ℕ) (row : List Cell) → FitsSchema columns row → (column : ℕ) → unsigned_abs (int_at (map (number_at row) places) column) ≤ 10 ^ 12
coordinate_small columns places row fits column = step (cases_lt column (length places))
  where
    step : (column < length places) ⊎ (length places ≤ column) → unsigned_abs (int_at (map (number_at row) places) column) ≤ 10 ^ 12
    step (inl within) = rw (get_or-map (number_at row) places column 0 (pos 0) within) (number_small columns row (get_or places column 0) fits)
    step (inr past) =
        let none : int_at (map (number_at row) places) column ≡ pos 0 = get_or_past (map (number_at row) places) column (pos 0) (rw (length-map places (number_at row)) past) in
        rw none (omega arith)

pub points_fit : (columns : List Column) (places : List ℕ) (count : ℕ) (rows : List (ℕ × List Cell)) → count ≡ length places → AllByRecursion (λ (row : ℕ × List Cell). FitsSchema columns row.1) rows → All (IsFit count) (map (point_of places) rows)
points_fit columns places count [] is fits = All-nil (IsFit count)
points_fit columns places count (row ∷ rows) is fits =
    All-cons (IsFit count) (point_of places row) (map (point_of places) rows)
    (record { long = length-map places (number_at row.1) ∙ sym is; small = coordinate_small columns places row.1 fits.0 })
    (points_fit columns places count rows is fits.1)
