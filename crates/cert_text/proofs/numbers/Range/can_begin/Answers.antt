use Rattle.std.proofs.Common.{◌≡◌, ◌<◌, length, refl, rules}
use Rattle.std.proofs.lemmas.List.{nil_from_length}
use Rattle.cert_text.proofs.Decimals.{none_can, not_begun}
use Rattle.cert_text.proofs.numbers.Range.can_begin.Goals as goal

pub returns-then-is_empty : goal.returns-then-is_empty
returns-then-is_empty c =
    let none : length c.args.digits.now ≡ 0 = search rules in
    (λ h. none_can c.args.self c.args.digits.now c.requires.some (nil_from_length c.args.digits.now none), λ can. refl)

pub returns-in_default : goal.returns-in_default
returns-in_default c =
    let some : 0 < length c.args.digits.now = search rules in
    (λ h. cc, λ can. absurd (not_begun c.args.self c.args.digits.now c.requires.small some c.in_default.ensures can))
