-- What fits the row has its columns there.
use Rattle.bound_query.proofs.Truths.{between-within, in-within}
use Rattle.bound_query.proofs.truth.+truth.Goals as goal

pub eval-cell_at-requires : goal.eval-cell_at-requires
eval-cell_at-requires t c =
    between-within c.args.row.now c.args.pred.now c.in-Between.column c.in-Between.scale c.in-Between.low c.in-Between.high c.in-Between.is c.requires.fits

pub eval-cell_at-requires-in-In : goal.eval-cell_at-requires-in-In
eval-cell_at-requires-in-In t c =
    in-within c.args.row.now c.args.pred.now c.in-In.column c.in-In.scale c.in-In.list c.in-In.is c.requires.fits
