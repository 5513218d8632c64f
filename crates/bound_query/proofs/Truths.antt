-- What fits a row has its columns there, and small numbers times powers of ten stay small.
use Rattle.std.proofs.Common.{◌≡◌, ℕ, zero, suc, ◌^◌, ◌<◌, ◌≤◌, Bool, true, false, List, [], ◌∷◌, ℤ, pos, ◌*ℤ◌, IsTrue, length, ◌&&◌, ◌||◌, ◌⊎◌, inl, inr, refl, sym, ap, ◌∙◌, arith, FitsSigned, lit<}
use Rattle.std.specs.Int.RustNames.{unsigned_abs}
use Rattle.std.proofs.Math.Nat.{pow-le-pow_right}
use Rattle.std.proofs.lemmas.Int.{fits_signed_mul}
use Rattle.table_schema.specs.declared.cells.Cell.{Cell}
use Rattle.schema_types.specs.declared.Lit.{Lit}
use Rattle.bound_query.specs.declared.conditions.RowRight.{RowRight}
use Rattle.bound_query.specs.declared.conditions.RowRight.TheVariants as rights
use Rattle.bound_query.specs.declared.conditions.RowPred.TheOpen.{RowPred-F}
use Rattle.bound_query.specs.declared.conditions.RowPred.TheFolds.{fold-roll-RowPred}
use Rattle.bound_query.specs.declared.conditions.RowPred.{RowPred}
use Rattle.bound_query.specs.declared.conditions.RowPred.TheVariants as preds
use Rattle.bound_query.specs.Fits.{column_is, lits_are, right_is, suits, suits_right, fitting_parts, fits}
use mir.Syntax.{w128}

pub first_of : (a b : Bool) → IsTrue (a && b) → IsTrue a
first_of true b both = refl
first_of false b both = both

pub second_of : (a b : Bool) → IsTrue (a && b) → IsTrue b
second_of true b both = both
second_of false b both = cc

pub either_of : (a b : Bool) → IsTrue (a || b) → IsTrue a ⊎ IsTrue b
either_of true b either = inl refl
either_of false b either = inr either

pub column_within : (textual : Bool) (row : List Cell) (column : ℕ) → IsTrue (column_is textual row column) → column < length row
column_within textual [] column is = cc
column_within textual (cell ∷ cells) zero is = omega arith
column_within textual (cell ∷ cells) (suc column) is = omega (arith, column_within textual cells column is)

suits-within : (row : List Cell) (column : ℕ) (list : List Lit) → IsTrue (suits row column list) → column < length row
suits-within row column list suits =
    elim (either_of (column_is true row column && lits_are true list) (column_is false row column && lits_are false list) suits) [
      | inl texts ↦ column_within true row column (first_of (column_is true row column) (lits_are true list) texts)
      | inr numbers ↦ column_within false row column (first_of (column_is false row column) (lits_are false list) numbers)
    ]

pub suits_right-within : (row : List Cell) (column : ℕ) (right : RowRight) → IsTrue (suits_right row column right) → column < length row
suits_right-within row column right suits =
    elim (either_of (column_is true row column && right_is true row right) (column_is false row column && right_is false row right) suits) [
      | inl texts ↦ column_within true row column (first_of (column_is true row column) (right_is true row right) texts)
      | inr numbers ↦ column_within false row column (first_of (column_is false row column) (right_is false row right) numbers)
    ]

pub other-within : (row : List Cell) (column : ℕ) (right : RowRight) (other places : ℕ) → IsTrue (suits_right row column right) → right ≡ rights.Column other places → other < length row
other-within row column right other places suits is =
    elim (either_of (column_is true row column && right_is true row right) (column_is false row column && right_is false row right) suits) [
      | inl texts ↦ column_within true row other (rw is at (second_of (column_is true row column) (right_is true row right) texts))
      | inr numbers ↦ column_within false row other (rw is at (second_of (column_is false row column) (right_is false row right) numbers))
    ]

pub between-within : (row : List Cell) (pred : RowPred) (column scale : ℕ) (low high : Lit) → pred ≡ preds.Between column scale low high → IsTrue (fits row pred) → column < length row
between-within row pred column scale low high is fit =
    suits-within row column (low ∷ high ∷ []) (sym (fold-roll-RowPred Bool (fitting_parts row) (RowPred-F.Between column scale low high))
    ∙ (ap (fits row) (preds.rolls-Between column scale low high) ∙ (ap (fits row) (sym is) ∙ fit)))

pub in-within : (row : List Cell) (pred : RowPred) (column scale : ℕ) (list : List Lit) → pred ≡ preds.In column scale list → IsTrue (fits row pred) → column < length row
in-within row pred column scale list is fit =
    suits-within row column list (sym (fold-roll-RowPred Bool (fitting_parts row) (RowPred-F.In column scale list))
    ∙ (ap (fits row) (preds.rolls-In column scale list) ∙ (ap (fits row) (sym is) ∙ fit)))

pub scaled_fits : (mant power : ℤ) (places : ℕ) → unsigned_abs mant ≤ 2 ^ 63 → places ≤ 6 → power ≡ pos (10 ^ places) → FitsSigned w128 (mant *ℤ power)
scaled_fits mant power places small few is =
    rw is (fits_signed_mul w128 mant (pos (10 ^ places)) (2 ^ 63) (10 ^ 6) small (pow-le-pow_right (lit< tt) few) (lit< tt))
