-- Sets of tokens: which lie inside which, and which are apart.
use Rattle.std.proofs.Common.{◌≡◌, Bool, true, false, ◌||◌, refl, ap, ◌∙◌}
use Rattle.formal_grammar.specs.Exact.{none, either, Within, Apart}
use Rattle.formal_grammar.proofs.Contexts.{both_ways}

-- A set lies inside itself.
pub within_same : {T : Type 0} (f : T → Bool) → Within f f
within_same f t outside = outside

-- The empty set lies inside each.
pub within_none : {T : Type 0} (f : T → Bool) → Within none f
within_none f t outside = refl

-- where neither test passes
neither : (a b : Bool) → (a || b) ≡ false → (a ≡ false) × (b ≡ false)
neither true b e = absurd (both_ways refl e)
neither false b e = (refl, e)

-- The first of two sets lies inside both together.
pub within_left : {T : Type 0} (f g : T → Bool) → Within f (either f g)
within_left f g t outside = (neither (f t) (g t) outside).0

-- The second of two sets lies inside both together.
pub within_right : {T : Type 0} (f g : T → Bool) → Within g (either f g)
within_right f g t outside = (neither (f t) (g t) outside).1

-- A set inside one that lies inside a third.
pub within_trans : {T : Type 0} {f g h : T → Bool} → Within f g → Within g h → Within f h
within_trans small large t outside = small t (large t outside)

-- A set of one token is apart from those that don't have it.
pub apart_one : {T : Type 0} {f : T → Bool} {t : T} (g : T → Bool) → ((u : T) → f u ≡ true → u ≡ t) → g t ≡ false → Apart f g
apart_one g only outside u passes = ap g (only u passes) ∙ outside

-- What is apart from two sets is apart from both together.
pub apart_either : {T : Type 0} {f g h : T → Bool} → Apart f g → Apart f h → Apart f (either g h)
apart_either {g = g} left right t passes = rw (left t passes) (right t passes)
