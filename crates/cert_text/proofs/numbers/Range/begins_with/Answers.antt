use Rattle.std.proofs.Common.{◌≡◌, ◌≤◌, ℕ, sym, subst, arith, true, nat_eq}
use Rattle.std.specs.Fmt.{decimal}
use Rattle.std.proofs.lemmas.Bool.Decides.{nat_tests}
use Rattle.cert_text.specs.Numbers.{CanBegin}
use Rattle.cert_text.proofs.Decimals.{zero_can, can_zero, can_from, can_to}
use Rattle.cert_text.proofs.numbers.Range.begins_with.Goals as goal

test_zero : (n : ℕ) → nat_eq n 0 ≡ true → n ≡ 0
test_zero n h = grind (arith, nat_tests)

zero_test : (n : ℕ) → n ≡ 0 → nat_eq n 0 ≡ true
zero_test n h = grind (arith, nat_tests)

pub returns-then-number-eq0 : goal.returns-then-number-eq0
returns-then-number-eq0 c =
    let is = c.if-number-eq0.true in (
      λ h. subst (λ (n : ℕ). CanBegin c.args.self (decimal n)) (sym is) (zero_can c.args.self (test_zero c.args.self.low h)),
      λ can. zero_test c.args.self.low (can_zero c.args.self c.requires.small (subst (λ (n : ℕ). CanBegin c.args.self (decimal n)) is can)),
    )

pub returns : goal.returns
returns c =
    let large : 1 ≤ c.args.number = omega (arith, c.if-number-eq0.false) in (
      λ h. can_from c.args.self c.args.number large c.requires.some c.requires.small (c.is_reached.ensures.0 h),
      λ can. c.is_reached.ensures.1 (can_to c.args.self c.args.number c.ranges.number.fits c.requires.small can),
    )
