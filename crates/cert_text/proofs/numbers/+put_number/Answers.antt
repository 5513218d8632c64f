use Rattle.std.proofs.Common.{◌≡◌, ◌++◌, ◌∷◌, [], ◌∙◌, sym, ap, append_assoc, ◌+◌, ◌/◌, ◌%◌, List, ℕ, arith}
use Rattle.std.specs.Fmt.{decimal}
use Rattle.std.proofs.lemmas.Fmt.{decimal_digit, decimal_step}
use Rattle.cert_text.proofs.numbers.+put_number.Goals as goal

pub returns-then-number-lt10 : goal.returns-then-number-lt10
returns-then-number-lt10 t c =
    let is : decimal c.args.number ≡ (48 + c.args.number) ∷ [] = decimal_digit c.args.number c.if-number-lt10.true in
    rw is c.in_ok-push.ensures.items

pub returns : goal.returns
returns t c =
    let is : decimal c.args.number ≡ decimal (c.args.number / 10) ++ (48 + c.args.number % 10) ∷ [] = decimal_step c.args.number c.if-number-lt10.false c.ranges.number.fits in
    rw is
    (c.in_ok-push-2.ensures.items
    ∙ (ap (λ (bytes : List ℕ). bytes ++ (48 + c.args.number % 10) ∷ []) c.in_ok-put_number.ensures
    ∙ append_assoc c.args.out.now.items (decimal (c.args.number / 10)) ((48 + c.args.number % 10) ∷ [])))
