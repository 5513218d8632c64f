-- The worked problems are even, and their parts are parts.
use Rattle.std.proofs.Common.{◌≡◌, ℕ, zero, suc, ◌<◌, ◌≤◌, ◌^◌, [], ◌∷◌, length, refl, arith}
use Rattle.lin_bound.specs.Sums.{nat_at}
use Rattle.sketch.specs.Parts.{part_at, IsEven, ArePartsOf}
use Rattle.sketch.specs.Joined.{counts_at, IsJoined, AreAsLong}
use Rattle.sketch.specs.Held.{IsHeldOf}
use Rattle.sketch.specs.Refined.{AreSmall}
use Rattle.sketch.specs.declared.held.HeldPart.TheVariants.{Sketch, Real}
use Rattle.std.specs.Prelude.{ℤ, unsigned_abs}
use Rattle.sketch.specs.Worked.{whole, three, counts, together, lone, one_part}

same : (i : ℕ) → i < 6 → nat_at whole.upper i ≡ 2
same zero h = refl
same (suc zero) h = refl
same (suc (suc zero)) h = refl
same (suc (suc (suc zero))) h = refl
same (suc (suc (suc (suc zero)))) h = refl
same (suc (suc (suc (suc (suc zero))))) h = refl
same (suc (suc (suc (suc (suc (suc i)))))) h = absurd (omega (arith, h))

some : (g : ℕ) → g < 3 → 0 < length (part_at three g)
some zero h = omega arith
some (suc zero) h = omega arith
some (suc (suc zero)) h = omega arith
some (suc (suc (suc g))) h = absurd (omega (arith, h))

placed : (g k : ℕ) → g < 3 → k < length (part_at three g) → nat_at together (nat_at (part_at three g) k) ≡ nat_at (counts_at counts g) k
placed zero zero h l = refl
placed zero (suc zero) h l = refl
placed zero (suc (suc k)) h l = absurd (omega (arith, l))
placed (suc zero) zero h l = refl
placed (suc zero) (suc k) h l = absurd (omega (arith, l))
placed (suc (suc zero)) zero h l = refl
placed (suc (suc zero)) (suc zero) h l = refl
placed (suc (suc zero)) (suc (suc zero)) h l = refl
placed (suc (suc zero)) (suc (suc (suc k))) h l = absurd (omega (arith, l))
placed (suc (suc (suc g))) k h l = absurd (omega (arith, h))

pub whole_even : IsEven whole
whole_even = record { same = same; small = omega arith }

pub three_parts : ArePartsOf whole three
three_parts = record {
  once = record {
    moves = (4, 5) ∷ ((3, 4) ∷ ((1, 2) ∷ ((0, 2) ∷ [])));
    below = (omega arith, omega arith, (omega arith, omega arith, (omega arith, omega arith, (omega arith, omega arith, tt))));
    is = refl;
  };
  some = some;
}

pub together_joined : IsJoined whole three counts together
together_joined = record { each = refl; placed = placed }

lone_same : (i : ℕ) → i < 1 → nat_at lone.upper i ≡ 3
lone_same zero h = refl
lone_same (suc i) h = absurd (omega (arith, h))

pub lone_even : IsEven lone
lone_even = record { same = lone_same; small = omega arith }

one_some : (g : ℕ) → g < 1 → 0 < length (part_at one_part g)
one_some zero h = omega arith
one_some (suc g) h = absurd (omega (arith, h))

pub one_parts : ArePartsOf lone one_part
one_parts = record { once = record { moves = []; below = tt; is = refl }; some = one_some }

-- ---- what is held of their parts

pub first_held : IsHeldOf whole (1 ∷ (2 ∷ [])) (Sketch 3)
first_held = omega arith

last_real : (k : ℕ) → k < 3 → nat_at (1 ∷ (0 ∷ (2 ∷ []))) k ≤ nat_at whole.upper (nat_at (5 ∷ (3 ∷ (4 ∷ []))) k)
last_real zero h = omega arith
last_real (suc zero) h = omega arith
last_real (suc (suc zero)) h = omega arith
last_real (suc (suc (suc k))) h = absurd (omega (arith, h))

pub last_held : IsHeldOf whole (5 ∷ (3 ∷ (4 ∷ []))) (Real (1 ∷ (0 ∷ (2 ∷ []))))
last_held = record { each = refl; within = last_real }

long : (g : ℕ) → g < 3 → length (counts_at counts g) ≡ length (part_at three g)
long zero h = refl
long (suc zero) h = refl
long (suc (suc zero)) h = refl
long (suc (suc (suc g))) h = absurd (omega (arith, h))

pub as_long : AreAsLong three counts
as_long = record { lists = refl; each = long }

-- one number, and none
pub one_small : (others : ℤ) → unsigned_abs others ≤ 2 ^ 100 → AreSmall (others ∷ [])
one_small others small zero h = small
one_small others small (suc j) h = absurd (omega (arith, h))

pub none_small : AreSmall []
none_small j h = absurd (omega (arith, h))
