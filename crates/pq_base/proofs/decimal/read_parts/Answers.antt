use Rattle.std.proofs.Common.{length, List, ℕ, arith, ap}
use Rattle.pq_base.proofs.Numerals.{parts_are, empty_from_test}
use Rattle.pq_base.proofs.decimal.read_parts.Goals as goal

pub returns-then-is_empty : goal.returns-then-is_empty
returns-then-is_empty c = λ parts spells.
    let digits = c.split_digits.ensures in
    let are = parts_are c.args.text.now c.split_sign-minus.result.0 c.split_sign-minus.result.1.now c.split_digits.result.0.now c.split_digits.result.1.now parts c.split_sign-minus.ensures.one digits.whole digits.digits digits.all spells in
    omega (arith, spells.some, ap (λ (xs : List ℕ). length xs) are.0, empty_from_test (length c.split_digits.result.0.now) c.if-is_empty.ensures)

pub returns-in_default : goal.returns-in_default
returns-in_default c = λ parts spells.
    let digits = c.split_digits.ensures in
    let are = parts_are c.args.text.now c.split_sign-minus.result.0 c.split_sign-minus.result.1.now c.split_digits.result.0.now c.split_digits.result.1.now parts c.split_sign-minus.ensures.one digits.whole digits.digits digits.all spells in
    c.in_default.ensures parts.fraction spells.fraction are.1
