use Rattle.std.proofs.Common.{◌≡◌, ◌<◌, ◌++◌, ◌∷◌, List, ℕ, length, get_or, subst}
use Rattle.std.specs.Fmt.{decimal}
use Rattle.cert_text.proofs.Texts.{put_more}
use Rattle.cert_text.proofs.writing.put_mult.Goals as goal

pub loop-multiplier-preserved : goal.loop-multiplier-preserved
loop-multiplier-preserved c =
    let lambda = c.args.mult.now.lambda in
    let i = c.loop-multiplier.multiplier-index in
    let now = c.loop-multiplier.out.items in
    let new = c.put_blanked.new.out.items in
    let same = c.as_slice-multiplier-items.ensures in
    let within : i < length lambda = subst (λ (some : List ℕ). i < length some) same c.loop-multiplier-test.true in
    let new_is : new ≡ now ++ (32 ∷ decimal (get_or lambda i 0)) =
    subst (λ (some : List ℕ). new ≡ now ++ (32 ∷ decimal (get_or some i 0))) same
    (subst (λ (number : ℕ). new ≡ now ++ (32 ∷ decimal number)) c.from-in-loop-multiplier.ensures c.in_ok-put_blanked.ensures) in
    put_more c.args.out.now.items now new c.args.mult.now.d lambda i within c.loop-multiplier.invariant new_is
