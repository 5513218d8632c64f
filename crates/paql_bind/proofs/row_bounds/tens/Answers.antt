-- 10 to the power of at most 30.
use Rattle.std.proofs.Common.{arith}
use Rattle.paql_bind.proofs.NumberLemmas.{ten_to_most, ten_to_some}
use Rattle.paql_bind.proofs.row_bounds.tens.Goals as goal

pub pow-requires : goal.pow-requires
pow-requires c = rw c.from.ensures (omega (arith, ten_to_most c.args.scale 30 c.requires))

pub returns-clause-some : goal.returns-clause-some
returns-clause-some c = rw (c.pow.ensures, c.from.ensures) (ten_to_some c.args.scale)
