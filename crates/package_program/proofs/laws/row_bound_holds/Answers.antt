use Rattle.package_program.proofs.Counts.{row_bound_is}
use Rattle.package_program.proofs.laws.row_bound_holds.Goals as goal

pub returns : goal.returns
returns c = row_bound_is
