-- Steps of the sum over terms, for one copy of a row.
use Rattle.std.proofs.Common.{◌≡◌, ℕ, zero, suc, ◌+◌, ◌<◌, List, [], ◌∷◌, map, drop, length, get_or, ℤ, ◌+ℤ◌, refl, ap, ◌∙◌, Bool, true, false, ◌&&◌, IsTrue, arith}
use Rattle.std.proofs.lemmas.Int.{ints}
use Rattle.std.proofs.lemmas.List.{at_drop_more}
use Rattle.table_schema.specs.declared.cells.Cell.{Cell}
use Rattle.bound_query.specs.Fits.{agg_fits, fits_terms}
use Rattle.bound_query.specs.Terms.{term_value}
use Rattle.bound_query.specs.declared.queries.BoundTerm.{BoundTerm}
use Rattle.package_program.specs.Program.{per_copy}

pub both_true : (a b : Bool) → IsTrue (a && b) → IsTrue a × IsTrue b
both_true true b h = (refl, h)
both_true false b h = absurd (cc h)

-- a row that fits the terms fits each
pub fits_at : (row : List Cell) (terms : List BoundTerm) (i : ℕ) (term : BoundTerm) → i < length terms → IsTrue (fits_terms row terms) → IsTrue (agg_fits row (get_or terms i term).agg)
fits_at row [] i term l h = absurd (omega (arith, l))
fits_at row (first ∷ terms) zero term l h = (both_true (agg_fits row first.agg) (fits_terms row terms) h).0
fits_at row (first ∷ terms) (suc i) term l h = fits_at row terms i term (omega (arith, l)) (both_true (agg_fits row first.agg) (fits_terms row terms) h).1

-- the terms from a place on give what the one there gives, and the later ones
pub per_copy_more : (row : List Cell) (terms : List BoundTerm) (i : ℕ) (term : BoundTerm) → i < length terms
    → per_copy (map term_value (drop i terms)) row ≡ term_value (get_or terms i term) row +ℤ per_copy (map term_value (drop (i + 1) terms)) row
per_copy_more row terms i term l =
    at_drop_more (λ (ts : List BoundTerm). per_copy (map term_value ts) row) terms i term l
    ∙ ap (λ (z : ℤ). z +ℤ per_copy (map term_value (drop (i + 1) terms)) row) (omega (arith, ints))
