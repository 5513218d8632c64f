-- Lemmas on cells and rows.
use Rattle.std.proofs.Common.{◌≡◌, ◌≢◌, ℕ, ◌+◌, ◌^◌, ◌<◌, ◌≤◌, ◌⊎◌, inl, inr, true, false, eqb, leb, List, [], ◌∷◌, ◌++◌, length, drop, get_or, Result, Ok, Err, is_ok, refl, sym, ap, ◌∙◌, append_assoc, append-nil, add-one, ℤ, arith, unsigned_abs}
use Rattle.std.proofs.Math.Seq.{drop-cons}
use Rattle.std.proofs.Math.ListN.{drop_of_length-le}
use Rattle.std.proofs.lemmas.Bool.Decides.{eqb_tells, leb_tells}
use borrow.Author.Tests.{eq-eqb, ne_eqb}
use Rattle.pq_base.specs.declared.decimal.NumFault.{NumFault}
use Rattle.pq_base.specs.Scaled.{GivesUnits}
use Rattle.schema_types.specs.declared.Column.{Column}
use Rattle.schema_types.specs.declared.Kind.{Kind}
use Rattle.schema_types.specs.declared.Kind.TheVariants as kinds
use Rattle.schema_types.specs.declared.Lit.{Lit}
use Rattle.schema_types.specs.declared.Lit.TheVariants as lits
use Rattle.table_schema.specs.Units.{units_in}
use Rattle.table_schema.specs.Cells.{cell_gives, number_cell, text_cell, FitsKind}
use Rattle.table_schema.specs.Rows.{cell_then, cells_give, row_gives, fault_at, FitsSchema}
use Rattle.table_schema.specs.declared.limits.TheConstants.{MAX_TEXT_BYTES}
use Rattle.table_schema.specs.declared.cells.Cell.{Cell}
use Rattle.table_schema.specs.declared.cells.Cell.TheVariants as cells
use Rattle.table_schema.specs.declared.cells.CellFault.{CellFault}
use Rattle.table_schema.specs.declared.rows.RowFault.{RowFault}
use Rattle.table_schema.specs.declared.rows.RowFault.TheVariants.{Arity}
use Rattle.table_schema.proofs.UnitLemmas.{units_give}

-- ---- cells that fit

-- a number within the range is a cell
number_fits : (mant : ℤ) (places scale : ℕ) (units : Result ℤ NumFault) (cell : Cell) → GivesUnits mant places scale units → number_cell units ≡ Ok cell → (value : ℤ) × (cell ≡ cells.Num value) × (unsigned_abs value ≤ 10 ^ 12)
number_fits mant places scale (Ok value) cell gives e = (value, cc, gives.1)
number_fits mant places scale (Err fault) cell gives e = absurd (cc)

text_fits : (text : List ℕ) (cell : Cell) → text_cell text ≡ Ok cell → FitsKind kinds.Text cell
text_fits text cell e = by_test (leb_tells (length text) MAX_TEXT_BYTES)
  where
    by_test : ((leb (length text) MAX_TEXT_BYTES ≡ true) × (length text ≤ MAX_TEXT_BYTES)) ⊎ ((leb (length text) MAX_TEXT_BYTES ≡ false) × (MAX_TEXT_BYTES < length text)) → FitsKind kinds.Text cell
    by_test (inl h) = let is : cell ≡ cells.Text text = let given = rw h.0 at e in cc in rw is h.1
    by_test (inr h) = let given = rw h.0 at e in absurd (cc)

cell_fits : (kind : Kind) (lit : Lit) (cell : Cell) → cell_gives kind lit ≡ Ok cell → FitsKind kind cell
cell_fits kinds.Text (lits.Text text) cell e = text_fits text cell e
cell_fits kinds.Text (lits.Num number) cell e = absurd (cc)
cell_fits kinds.Int (lits.Text text) cell e = absurd (cc)
cell_fits kinds.Int (lits.Num number) cell e =
    let fits = number_fits number.mant number.scale 0 (units_in number.mant number.scale 0) cell (units_give number.mant number.scale 0) e in
    rw fits.1 fits.2
cell_fits (kinds.Dec scale) (lits.Text text) cell e = absurd (cc)
cell_fits (kinds.Dec scale) (lits.Num number) cell e =
    let fits = number_fits number.mant number.scale scale (units_in number.mant number.scale scale) cell (units_give number.mant number.scale scale) e in
    rw fits.1 fits.2

-- ---- rows that fit

-- a cell before others makes a row only if it is one and they are
both : (place : ℕ) (cell : Result Cell CellFault) (rest : Result (List Cell) RowFault) (row : List Cell) → cell_then place cell rest ≡ Ok row → (first : Cell) × (others : List Cell) × (cell ≡ Ok first) × (rest ≡ Ok others) × (row ≡ first ∷ others)
both place (Ok first) (Ok others) row e = (first, others, refl, refl, cc)
both place (Ok first) (Err fault) row e = absurd (cc)
both place (Err fault) rest row e = absurd (cc)

cells_fit : (place : ℕ) (columns : List Column) (lits : List Lit) (row : List Cell) → length lits ≡ length columns → cells_give place columns lits ≡ Ok row → FitsSchema columns row
cells_fit place [] lits row same e = let is : row ≡ [] = cc in rw is tt
cells_fit place (column ∷ columns) [] row same e = absurd (omega (arith, same))
cells_fit place (column ∷ columns) (lit ∷ lits) row same e =
    let parts = both place (cell_gives column.kind lit) (cells_give (place + 1) columns lits) row e in
    rw parts.4 (cell_fits column.kind lit parts.0 parts.2, cells_fit (place + 1) columns lits parts.1 (omega (arith, same)) parts.3)

pub row_fits : (columns : List Column) (lits : List Lit) (row : List Cell) → row_gives columns lits ≡ Ok row → FitsSchema columns row
row_fits columns lits row e = by_test (eqb_tells (length lits) (length columns))
  where
    by_test : ((eqb (length lits) (length columns) ≡ true) × (length lits ≡ length columns)) ⊎ ((eqb (length lits) (length columns) ≡ false) × (length lits ≢ length columns)) → FitsSchema columns row
    by_test (inl h) = cells_fit 0 columns lits row h.1 (rw h.0 at e)
    by_test (inr h) = let given = rw h.0 at e in absurd (cc)

-- ---- going over the columns

-- the cells so far, before what the columns to come give
abbrev pub with_cells : List Cell → Result (List Cell) RowFault → Result (List Cell) RowFault
with_cells done (Ok rest) = Ok (done ++ rest)
with_cells done (Err fault) = Err fault

-- what the literals from a place on give, with the cells so far
abbrev pub given_from : List Cell → ℕ → List Column → List Lit → Result (List Cell) RowFault
given_from done place columns lits = with_cells done (cells_give place (drop place columns) (drop place lits))

-- the cell at a place, and what comes after it
at_cell : (place : ℕ) (columns : List Column) (lits : List Lit) (column : Column) (lit : Lit) → place < length columns → place < length lits → cells_give place (drop place columns) (drop place lits) ≡ cell_then place (cell_gives (get_or columns place column).kind (get_or lits place lit)) (cells_give (place + 1) (drop (place + 1) columns) (drop (place + 1) lits))
at_cell place columns lits column lit one other = rw (drop-cons columns place column one, drop-cons lits place lit other, add-one) refl

then_given : (done : List Cell) (place : ℕ) (cell : Cell) (rest : Result (List Cell) RowFault) → with_cells done (cell_then place (Ok cell) rest) ≡ with_cells (done ++ cell ∷ []) rest
then_given done place cell (Ok cells) = ap Ok (sym (append_assoc done (cell ∷ []) cells))
then_given done place cell (Err fault) = refl

-- a column and a literal are those at a place
pub cell_at : (place : ℕ) (columns : List Column) (lits : List Lit) (column : Column) (lit : Lit) (given : Result Cell CellFault) → column ≡ get_or columns place column → lit ≡ get_or lits place lit → cell_gives column.kind lit ≡ given → cell_gives (get_or columns place column).kind (get_or lits place lit) ≡ given
cell_at place columns lits column lit given one other is =
    sym (ap (λ (c : Column). cell_gives c.kind lit) one ∙ ap (λ (l : Lit). cell_gives (get_or columns place column).kind l) other) ∙ is

pub cell_given : (done : List Cell) (place : ℕ) (columns : List Column) (lits : List Lit) (column : Column) (lit : Lit) (cell : Cell) → place < length columns → place < length lits → cell_gives (get_or columns place column).kind (get_or lits place lit) ≡ Ok cell → given_from done place columns lits ≡ given_from (done ++ cell ∷ []) (place + 1) columns lits
cell_given done place columns lits column lit cell one other is =
    let rest = cells_give (place + 1) (drop (place + 1) columns) (drop (place + 1) lits) in
    ap (with_cells done) (at_cell place columns lits column lit one other ∙ ap (λ (first : Result Cell CellFault). cell_then place first rest) is) ∙ then_given done place cell rest

pub cell_refused : (done : List Cell) (place : ℕ) (columns : List Column) (lits : List Lit) (column : Column) (lit : Lit) (fault : CellFault) → place < length columns → place < length lits → cell_gives (get_or columns place column).kind (get_or lits place lit) ≡ Err fault → given_from done place columns lits ≡ Err (fault_at place fault)
cell_refused done place columns lits column lit fault one other is =
    let rest = cells_give (place + 1) (drop (place + 1) columns) (drop (place + 1) lits) in
    ap (with_cells done) (at_cell place columns lits column lit one other ∙ ap (λ (first : Result Cell CellFault). cell_then place first rest) is)

pub all_given : (done : List Cell) (place : ℕ) (columns : List Column) (lits : List Lit) → length columns ≤ place → given_from done place columns lits ≡ Ok done
all_given done place columns lits end = rw (drop_of_length-le columns end) (ap Ok (append-nil done))

-- ---- the number of literals

pub row_of_arity : (columns : List Column) (lits : List Lit) → length lits ≡ length columns → row_gives columns lits ≡ given_from [] 0 columns lits
row_of_arity columns lits same = rw (eq-eqb (length lits) (length columns) same) (whole (cells_give 0 columns lits))
  where
    whole : (given : Result (List Cell) RowFault) → given ≡ with_cells [] given
    whole (Ok cells) = refl
    whole (Err fault) = refl

pub arity_refused : (columns : List Column) (lits : List Lit) → length lits ≢ length columns → row_gives columns lits ≡ Err (Arity (length lits) (length columns))
arity_refused columns lits apart = rw (ne_eqb (length lits) (length columns) apart) refl

-- a call that gives something gives one thing
pub given_is : (given : Result Cell CellFault) → is_ok given ≡ true → (cell : Cell) × (given ≡ Ok cell)
given_is (Ok cell) e = (cell, refl)
given_is (Err fault) e = absurd (cc)
