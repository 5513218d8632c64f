use Rattle.std.proofs.Common.{◌≡◌, ◌+◌, ◌<◌, ◌++◌, ◌∷◌, [], List, ℕ, length, drop, get_or, sym, ◌∙◌, ap, subst, arith, rules}
use Rattle.std.proofs.lemmas.List.{append-nil, nil_from_length, drop_more, take_rest}
use Rattle.cert_text.specs.Numbers.{AddsFit}
use Rattle.cert_text.specs.Expected.{ranges, weight_range}
use Rattle.cert_text.proofs.Fits.{IsFitting, fitting_bad, fitting_next, good_at}
use Rattle.cert_text.proofs.Goods.{ranges_good}
use Rattle.cert_text.proofs.lines.fit_numbers.Goals as goal

pub returns-then-is_empty : goal.returns-then-is_empty
returns-then-is_empty c =
    let rs = ranges c.args.expect c.args.kind in
    let digits = c.split_digits.result.0.now in
    let more = c.split_digits.result.1.now in
    let rest = c.loop-place.rest.now in
    let now = c.loop-place.numbers.items in
    let new = c.fit_last.new.numbers.items in
    let none : length more ≡ 0 = search rules in
    let rest_is : digits ≡ rest = sym (c.split_digits.ensures.whole ∙ (ap (λ (bytes : List ℕ). digits ++ bytes) (nil_from_length more none) ∙ append-nil digits)) in
    c.loop-place.invariant.onward new c.in_ok-fit.fit
    (subst (λ (bytes : List ℕ). AddsFit (drop c.loop-place.place rs) bytes now new c.in_ok-fit.fit) rest_is c.in_ok-fit.ensures)

pub returns-in_default : goal.returns-in_default
returns-in_default c =
    let rs = ranges c.args.expect c.args.kind in
    let place = c.loop-place.place in
    let r = get_or rs place weight_range in
    let within : place < length rs = omega (arith, c.loop-place-test.true, c.count-place-end.ensures) in
    let rs_is = drop_more rs place weight_range within in
    fitting_bad rs r c.args.text.now c.args.numbers.now.items place c.loop-place.rest.now c.loop-place.numbers.items c.split_digits.result.0.now c.split_digits.result.1.now rs_is c.split_digits.ensures.whole
    (c.in_default.ensures r rs_is) c.loop-place.invariant

pub loop-place-preserved : goal.loop-place-preserved
loop-place-preserved c =
    let rs = ranges c.args.expect c.args.kind in
    let place = c.loop-place.place in
    let r = get_or rs place weight_range in
    let more = c.split_digits.result.1.now in
    let within : place < length rs = omega (arith, c.loop-place-test.true, c.count-place-end.ensures) in
    let rs_is = drop_more rs place weight_range within in
    let high = (good_at place rs r (drop (place + 1) rs) (ranges_good c.args.expect c.args.kind c.requires.sound) rs_is).1 in
    subst (λ (bytes : List ℕ). IsFitting rs c.args.text.now c.args.numbers.now.items (place + 1) bytes c.push.new.self.items) (sym (take_rest more 1))
    (fitting_next rs r c.args.text.now c.args.numbers.now.items place c.in-Some.number c.loop-place.rest.now c.loop-place.numbers.items c.push.new.self.items c.split_digits.result.0.now more rs_is high c.split_digits.ensures.whole c.in_ok-push.ensures.items
    (c.in-Some.ensures r rs_is) c.loop-place.invariant)
