-- 10 to the power of at most 6.
use Rattle.paql_bind.proofs.NumberLemmas.{ten_to_most}
use Rattle.paql_bind.proofs.numbers.tens.Goals as goal

pub returns-clause-small : goal.returns-clause-small
returns-clause-small c = rw (c.pow.ensures, c.from.ensures) (ten_to_most c.args.places 6 c.requires)
