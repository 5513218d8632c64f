use Rattle.std.proofs.Common.{◌≡◌, ◌<◌, ℕ, List, [], length, get_or, sym, ◌∙◌, ap, arith, rules}
use Rattle.std.specs.Fmt.{decimal}
use Rattle.cert_text.proofs.Decimals.{some_digit, few_digits, no_leading_zero, value_is, value_fits}
use Rattle.cert_text.proofs.numbers.number_of.Goals as goal

pub returns-then-is_empty : goal.returns-then-is_empty
returns-then-is_empty c =
    let none : length c.args.digits.now ≡ 0 = search rules in
    λ number small is. omega (arith, some_digit number small, ap length is, none)

pub returns-then-digits-gt-MOST_DIGITS : goal.returns-then-digits-gt-MOST_DIGITS
returns-then-digits-gt-MOST_DIGITS c = λ number small is. omega (arith, few_digits number small, ap length is, c.if-digits-gt-MOST_DIGITS.true)

pub returns-then-has_leading_zero : goal.returns-then-has_leading_zero
returns-then-has_leading_zero c =
    let zero = c.has_leading_zero.ensures.0 c.if-has_leading_zero.true in
    λ number small is. no_leading_zero number small (omega (arith, ap length is, zero.0)) (ap (λ (digits : List ℕ). get_or digits 0 0) (sym is) ∙ zero.1)

pub returns : goal.returns
returns c =
    let some : 0 < length c.args.digits.now = search rules in
    let is = c.value_of.ensures in (
      value_is c.args.digits.now c.requires some c.if-digits-gt-MOST_DIGITS.false (λ h. let both = c.has_leading_zero.ensures.1 h in cc (both, c.if-has_leading_zero.false)) ∙ ap decimal (sym is),
      omega (arith, value_fits c.args.digits.now c.requires c.if-digits-gt-MOST_DIGITS.false, is),
    )
