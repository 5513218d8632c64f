-- What a tree that is not done shows of each feasible point.
use Rattle.std.proofs.Common.{◌≡◌, ℕ, zero, suc, ◌*◌, ◌<◌, ◌≤◌, List, [], ◌∷◌, refl, subst, arith, inl, inr}
use Rattle.std.specs.Prelude.{ℤ, pos, negsuc, ◌*ℤ◌, ◌≤ℤ◌, Option, None, Some}
use Rattle.std.specs.Int.{int_max, int_div_euclid}
use Rattle.std.proofs.lemmas.Int.{ints, clamps}
use Rattle.std.proofs.lemmas.Nat.{le-div, div_below}
use Rattle.lin_bound.specs.Problem.{ProblemData, cost_at, IsFeasible}
use Rattle.lin_bound.specs.Box.{whole_box, half, IsInBox, lower, upper}
use Rattle.lin_bound.specs.Bound.{bound_of, plain}
use Rattle.lin_bound.specs.Laws.{WeakDuality, NotAbove, ClosedHoldsNone, HalvesCover}
use Rattle.lin_bound.specs.declared.region.Region.{Region}
use Rattle.lin_bound.specs.declared.mult.Mult.{Mult}
use Rattle.cert_tree.specs.declared.nodes.TreeNode.{TreeNode}
use Rattle.cert_tree.specs.declared.nodes.TreeNode.TheVariants.{Leaf, Split, Open}
use Rattle.cert_tree.specs.Partial.{PartlyCertify, least_bound, bound_with, top, greatest_top, value_or_floor}
use Rattle.cert_tree.specs.Laws.{PartialBounds}
use Rattle.cert_tree.proofs.Soundness.{AllRegions, LiesIn, half_regions, half_lies, whole_region, whole_holds}

-- a number whose multiple is at most a bound is at most the bound over the factor, rounded down
below_quotient : (d : ℕ) (z bound : ℤ) → (pos (suc d) *ℤ z) ≤ℤ bound → z ≤ℤ int_div_euclid bound (pos (suc d))
below_quotient d (pos n) (pos b) h =
    let scaled : n * suc d ≤ b = omega (arith, ints, h) in
    omega (arith, ints, le-div n b (suc d) (omega arith) scaled)
below_quotient d (negsuc n) (pos b) h = omega (arith, ints)
below_quotient d (pos n) (negsuc b) h = omega (arith, ints, h)
below_quotient d (negsuc n) (negsuc b) h =
    let scaled : b < suc d * suc n = omega (arith, ints, h) in
    omega (arith, ints, div_below b (suc d) (suc n) (omega arith) (omega arith))

-- the plain bound of the cost is above each feasible point of the box
plain_above : WeakDuality → (p : ProblemData) (box : Region) (x : List ℕ) → IsFeasible p x → IsInBox p box x → cost_at p x ≤ℤ bound_of p box (plain p 0)
plain_above dual p box x feasible inside = omega (arith, ints, dual p box (plain p 0) x feasible inside)

-- so is the lesser of it and the bound by multipliers
least_above : WeakDuality → (p : ProblemData) (box : Region) (mult : Mult) (d : ℕ) (x : List ℕ) → mult.d ≡ d → IsFeasible p x → IsInBox p box x → cost_at p x ≤ℤ least_bound p box mult d
least_above dual p box mult zero x is feasible inside = plain_above dual p box x feasible inside
least_above dual p box mult (suc d) x is feasible inside =
    let P : ℕ → Type 0 = λ (k : ℕ). (pos k *ℤ cost_at p x) ≤ℤ bound_of p box mult in
    let scaled = subst P is (dual p box mult x feasible inside) in
    let other = below_quotient d (cost_at p x) (bound_of p box mult) scaled in
    omega (arith, ints, clamps, plain_above dual p box x feasible inside, other)

with_above : WeakDuality → (p : ProblemData) (box : Region) (parent : Option Mult) (x : List ℕ) → IsFeasible p x → IsInBox p box x → cost_at p x ≤ℤ bound_with p box parent
with_above dual p box None x feasible inside = plain_above dual p box x feasible inside
with_above dual p box (Some mult) x feasible inside = least_above dual p box mult mult.d x refl feasible inside

-- and so is the top of an open leaf
top_above : WeakDuality → (p : ProblemData) (box : Region) (parent : Option Mult) (x : List ℕ) → IsFeasible p x → IsInBox p box x → cost_at p x ≤ℤ top p box parent
top_above dual p box parent x feasible inside =
    omega (arith, ints, clamps, with_above dual p box parent x feasible inside)

-- what is greatest so far stays below the greatest
greatest_rises : (p : ProblemData) (most : ℤ) (places : List (Region × Option Mult)) (nodes : List TreeNode) → most ≤ℤ greatest_top p most places nodes
greatest_rises p most [] nodes = omega (arith, ints)
greatest_rises p most (place ∷ places) [] = omega (arith, ints)
greatest_rises p most (place ∷ places) (Leaf mult ∷ nodes) = greatest_rises p most places nodes
greatest_rises p most (place ∷ places) (Split var at mult ∷ nodes) = greatest_rises p most ((half (lower var at) place.0, Some mult) ∷ ((half (upper var at) place.0, Some mult) ∷ places)) nodes
greatest_rises p most (place ∷ places) (Open ∷ nodes) =
    omega (arith, ints, clamps, greatest_rises p (int_max most (top p place.0 place.1)) places nodes)

-- the boxes without their parents' multipliers
abbrev pub boxes_of : List (Region × Option Mult) → List Region
boxes_of [] = []
boxes_of (place ∷ places) = place.0 ∷ boxes_of places

-- a feasible point that is not above the value is not above what is at least the value, or there is none
value_above : (p : ProblemData) (best : Option ℤ) (x : List ℕ) → NotAbove p x best → cost_at p x ≤ℤ value_or_floor best
value_above p None x below = absurd below
value_above p (Some best) x below = below

-- a feasible point of the boxes is not above the greatest
partly_holds : HalvesCover → ClosedHoldsNone → WeakDuality → (p : ProblemData) (best : Option ℤ) (x : List ℕ) → IsFeasible p x → (most : ℤ) (places : List (Region × Option Mult)) (nodes : List TreeNode) → value_or_floor best ≤ℤ most → AllRegions p (boxes_of places) → PartlyCertify p best (boxes_of places) nodes → LiesIn p x (boxes_of places) → cost_at p x ≤ℤ greatest_top p most places nodes
partly_holds cover none dual p best x feasible most [] nodes least regions parts lies = absurd lies
partly_holds cover none dual p best x feasible most (place ∷ places) [] least regions parts lies = absurd parts
partly_holds cover none dual p best x feasible most (place ∷ places) (Leaf mult ∷ nodes) least regions parts (inl inside) =
    omega (arith, ints, value_above p best x (none p place.0 mult best x parts.0 feasible inside), least, greatest_rises p most places nodes)
partly_holds cover none dual p best x feasible most (place ∷ places) (Leaf mult ∷ nodes) least regions parts (inr rest) =
    partly_holds cover none dual p best x feasible most places nodes least regions.1 parts.1 rest
partly_holds cover none dual p best x feasible most (place ∷ places) (Split var at mult ∷ nodes) least regions parts lies =
    partly_holds cover none dual p best x feasible most ((half (lower var at) place.0, Some mult) ∷ ((half (upper var at) place.0, Some mult) ∷ places)) nodes least (half_regions cover p place.0 (boxes_of places) var at parts.0 regions) parts.2 (half_lies cover p place.0 (boxes_of places) var at x parts.0 regions.0 lies)
partly_holds cover none dual p best x feasible most (place ∷ places) (Open ∷ nodes) least regions parts (inl inside) =
    omega (arith, ints, clamps, top_above dual p place.0 place.1 x feasible inside, greatest_rises p (int_max most (top p place.0 place.1)) places nodes)
partly_holds cover none dual p best x feasible most (place ∷ places) (Open ∷ nodes) least regions parts (inr rest) =
    partly_holds cover none dual p best x feasible (int_max most (top p place.0 place.1)) places nodes (omega (arith, ints, clamps, least)) regions.1 parts rest

pub partial_bounds : HalvesCover → ClosedHoldsNone → WeakDuality → PartialBounds
partial_bounds cover none dual p nodes done best x legal partial feasible =
    partly_holds cover none dual p best x feasible (value_or_floor best) ((whole_box p, None) ∷ []) nodes (omega (arith, ints)) (whole_region p legal, tt) partial.parts (inl (whole_holds p x feasible))
