use Rattle.std.proofs.Common.{arith, ◌+◌, ◌^◌}
use Rattle.pq_base.proofs.Numerals.{AllDigits-take, units_in_steps}
use Rattle.pq_base.proofs.decimal.count_units.Goals as goal

pub append_digits-number-requires-2-clause-digits : goal.append_digits-number-requires-2-clause-digits
append_digits-number-requires-2-clause-digits c =
    AllDigits-take c.min-kept.result c.args.spelling.now.fraction.now c.requires.fraction

pub returns : goal.returns
returns c =
    units_in_steps (10 ^ 12 + 1) c.args.scale c.min-kept.result c.append_digits-number.result c.append_digits-number-2.result c.times_tens.result c.args.spelling.now.whole.now c.args.spelling.now.fraction.now (omega arith) c.append_digits-number.ensures c.append_digits-number-2.ensures c.times_tens.ensures
