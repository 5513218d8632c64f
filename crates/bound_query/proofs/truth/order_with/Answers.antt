use Rattle.bound_query.proofs.Truths.{suits_right-within, other-within}
use Rattle.bound_query.proofs.truth.order_with.Goals as goal

pub cell_at-cell-requires : goal.cell_at-cell-requires
cell_at-cell-requires c = suits_right-within c.args.row.now c.args.column c.args.right.now c.requires.fits

pub cell_at-requires : goal.cell_at-requires
cell_at-requires c = other-within c.args.row.now c.args.column c.args.right.now c.in-Column.other c.in-Column.places c.requires.fits c.in-Column.is
