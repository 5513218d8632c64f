-- The row has the column.
use Rattle.std.proofs.Common.{false}
use Rattle.std.specs.Bool.{nat_le}
use Rattle.std.specs.Int.RustNames.{unsigned_abs}
use Rattle.std.specs.Cmp.{first_so}
use Rattle.bound_query.specs.Terms.{number_in}
use Rattle.bound_query.specs.Fits.{column_is, most_units}
use Rattle.bound_query.proofs.Truths.{column_within}
use Rattle.package_judge.proofs.sums.number_in.Goals as goal

pub cell_at-requires : goal.cell_at-requires
cell_at-requires c =
    let row = c.args.row.now in
    let column = c.args.column in
    column_within false row column (first_so (column_is false row column) (nat_le (unsigned_abs (number_in column row)) most_units) c.requires)
