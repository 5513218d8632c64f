use Rattle.std.proofs.Common.{◌≡◌, ◌≤◌, ◌<◌, ◌+◌, ◌*◌, ◌-◌, ◌^◌, ℕ, get_or, arith, sym, ◌∙◌, ap}
use Rattle.std.specs.Char.{digit_value}
use Rattle.std.specs.Int.{IsInRange}
use Rattle.std.proofs.lemmas.Str.{digit_value_digit}
use Rattle.std.proofs.lemmas.Str.Parse.{digit_at}
use Rattle.std.proofs.lemmas.Int.Digits.{digits_value_more}
use Rattle.cert_text.proofs.Decimals.{value_small}
use Rattle.cert_text.proofs.numbers.value_of.Goals as goal

pub overflow_mul-number : goal.overflow_mul-number
overflow_mul-number c =
    omega (arith, value_small c.args.digits.now c.loop-digit.digit-index c.requires.digits c.loop-digit-test.true c.requires.few, c.loop-digit.invariant)

pub overflow_sub-digit : goal.overflow_sub-digit
overflow_sub-digit c = omega (arith, digit_at c.args.digits.now c.loop-digit.digit-index c.requires.digits c.loop-digit-test.true)

pub overflow_add-number : goal.overflow_add-number
overflow_add-number c =
    omega (
      arith,
      value_small c.args.digits.now c.loop-digit.digit-index c.requires.digits c.loop-digit-test.true c.requires.few,
      c.loop-digit.invariant,
      c.from.ensures,
      digit_at c.args.digits.now c.loop-digit.digit-index c.requires.digits c.loop-digit-test.true,
    )

pub loop-digit-preserved : goal.loop-digit-preserved
loop-digit-preserved c =
    let digit = get_or c.args.digits.now c.loop-digit.digit-index 0 in
    let in_range = digit_at c.args.digits.now c.loop-digit.digit-index c.requires.digits c.loop-digit-test.true in
    omega (arith, digits_value_more 10 c.args.digits.now c.loop-digit.digit-index c.loop-digit-test.true, c.loop-digit.invariant, c.from.ensures, digit_value_digit digit in_range)
