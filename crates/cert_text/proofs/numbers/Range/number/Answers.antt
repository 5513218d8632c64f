use Rattle.std.proofs.Common.{◌≡◌, ℕ, sym, ◌∙◌, subst, arith}
use Rattle.std.proofs.lemmas.Fmt.{decimal_injective}
use Rattle.cert_text.specs.Numbers.{IsWithin}
use Rattle.cert_text.proofs.Decimals.{wide}
use Rattle.cert_text.proofs.numbers.Range.number.Goals as goal

pub returns : goal.returns
returns c = λ other within is.
    let same : other ≡ c.in-Some.number = decimal_injective other c.in-Some.number (wide other (omega (arith, within.high, c.requires.small))) (wide c.in-Some.number c.in-Some.ensures.1) (sym is ∙ c.in-Some.ensures.0) in
    let holds = c.holds.ensures.1 (subst (λ (n : ℕ). IsWithin c.args.self n) same within) in
    cc (holds, c.if-holds.false)
