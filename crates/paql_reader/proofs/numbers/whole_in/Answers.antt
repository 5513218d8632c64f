use Rattle.std.proofs.Common.{sym, arith}
use Rattle.paql_grammar.proofs.NumeralLemmas.{are_digits, whole_small, whole_is}
use Rattle.paql_reader.proofs.numbers.whole_in.Goals as goal

pub append_digits-requires-clause-digits : goal.append_digits-requires-clause-digits
append_digits-requires-clause-digits c = are_digits c.args.text.now (sym c.if-not-is_digits.ensures)

pub overflow_cast-result : goal.overflow_cast-result
overflow_cast-result c =
    let small = whole_small c.args.text.now (are_digits c.args.text.now (sym c.if-not-is_digits.ensures)) (omega arith) in
    omega (arith, small, c.append_digits.ensures)

pub returns : goal.returns
returns c = whole_is c.args.text.now c.append_digits.result (sym c.if-not-is_digits.ensures) (omega arith) c.append_digits.ensures
