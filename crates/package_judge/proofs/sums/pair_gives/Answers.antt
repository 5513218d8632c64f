-- The row that was found fits the terms.
use Rattle.std.proofs.Common.{List, IsTrue, sym}
use Rattle.table_schema.specs.declared.cells.Cell.{Cell}
use Rattle.bound_query.specs.Fits.{fits_terms}
use Rattle.package_judge.proofs.Lookups.{all_found}
use Rattle.package_judge.proofs.sums.pair_gives.Goals as goal

pub copies_give-requires-clause-fits : goal.copies_give-requires-clause-fits
copies_give-requires-clause-fits c =
    rw c.as_slice.ensures (all_found (λ (row : List Cell). IsTrue (fits_terms row c.args.terms.now)) c.args.rows.now c.args.pair.now.0 c.in-Some.row.now c.requires.fits (sym c.in-Some.ensures))
