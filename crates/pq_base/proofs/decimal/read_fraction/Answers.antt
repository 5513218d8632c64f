use Rattle.std.proofs.Common.{length, List, ℕ, ◌∷◌, ◌∙◌, arith, ap}
use Rattle.pq_base.proofs.Numerals.{no_fraction, fraction_is, empty_from_test, some_from_test}
use Rattle.pq_base.proofs.decimal.read_fraction.Goals as goal

pub returns-then-is_empty-2 : goal.returns-then-is_empty-2
returns-then-is_empty-2 c = λ digits given same.
    let front = c.split_digits.ensures in
    let behind = c.in-Some.ensures ∙ ap (λ (xs : List ℕ). 46 ∷ xs) front.whole in
    let is = fraction_is c.args.text.now digits c.split_digits.result.0.now c.split_digits.result.1.now behind front.digits front.all given same in
    omega (arith, is.2, ap (λ (xs : List ℕ). length xs) is.0, empty_from_test (length c.split_digits.result.0.now) c.if-is_empty-2.ensures)

pub returns-then-not-is_empty : goal.returns-then-not-is_empty
returns-then-not-is_empty c = λ digits given same.
    let front = c.split_digits.ensures in
    let behind = c.in-Some.ensures ∙ ap (λ (xs : List ℕ). 46 ∷ xs) front.whole in
    let is = fraction_is c.args.text.now digits c.split_digits.result.0.now c.split_digits.result.1.now behind front.digits front.all given same in
    omega (arith, ap (λ (xs : List ℕ). length xs) is.1, some_from_test (length c.split_digits.result.1.now) c.if-not-is_empty.ensures)

pub returns-in_default : goal.returns-in_default
returns-in_default c = λ digits given same.
    no_fraction c.args.text.now digits (some_from_test (length c.args.text.now) c.if-is_empty.ensures) c.in_default.ensures same
