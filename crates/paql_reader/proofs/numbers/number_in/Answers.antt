use Rattle.std.proofs.Common.{◌∙◌, sym, ap, ◌^◌, min, length}
use Rattle.std.specs.Str.Parse.{digits_value_after}
use Rattle.pq_base.specs.Decimal.{signed}
use Rattle.paql_grammar.specs.Numerals.{scaled}
use Rattle.paql_grammar.proofs.NumeralLemmas.{are_digits, number_no_whole, number_no_fraction, number_is, number_parts}
use Rattle.paql_reader.proofs.numbers.number_in.Goals as goal

pub returns-then-not-is_digits : goal.returns-then-not-is_digits
returns-then-not-is_digits c =
    let minus = c.args.minus in
    let whole = c.split_point.result.0.now in
    let fraction = c.without_zeros-fraction.result.now in
    number_no_whole minus whole fraction (sym c.if-not-is_digits.ensures) ∙ number_parts minus c.args.text.now whole c.split_point.result.1.now fraction c.split_point.ensures.before c.split_point.ensures.behind c.without_zeros-fraction.ensures

pub returns-then-not-is_digits-2 : goal.returns-then-not-is_digits-2
returns-then-not-is_digits-2 c =
    let minus = c.args.minus in
    let whole = c.split_point.result.0.now in
    let fraction = c.without_zeros-fraction.result.now in
    number_no_fraction minus whole fraction (sym c.if-not-is_digits-2.ensures) ∙ number_parts minus c.args.text.now whole c.split_point.result.1.now fraction c.split_point.ensures.before c.split_point.ensures.behind c.without_zeros-fraction.ensures

pub append_digits-requires-clause-digits : goal.append_digits-requires-clause-digits
append_digits-requires-clause-digits c = are_digits c.split_point.result.0.now (sym c.if-not-is_digits.ensures)

pub append_digits-magnitude-requires-clause-digits : goal.append_digits-magnitude-requires-clause-digits
append_digits-magnitude-requires-clause-digits c = are_digits c.without_zeros-fraction.result.now (sym c.if-not-is_digits-2.ensures)

pub returns : goal.returns
returns c =
    let minus = c.args.minus in
    let whole = c.split_point.result.0.now in
    let fraction = c.without_zeros-fraction.result.now in
    let value = c.append_digits-magnitude.ensures ∙ ap (λ n. min (digits_value_after 10 n fraction) (10 ^ 30)) c.append_digits.ensures in
    c.scaled.ensures ∙ (ap (λ n. scaled (signed minus n) (length fraction)) value ∙ (number_is minus whole fraction (sym c.if-not-is_digits.ensures) (sym c.if-not-is_digits-2.ensures) ∙ number_parts minus c.args.text.now whole c.split_point.result.1.now fraction c.split_point.ensures.before c.split_point.ensures.behind c.without_zeros-fraction.ensures))
