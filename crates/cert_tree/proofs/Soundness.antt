-- What a certificate shows of each feasible point.
use Rattle.std.proofs.Common.{◌≡◌, ◌⊎◌, ℕ, ◌<◌, List, [], ◌∷◌, replicate, arith, inl, inr}
use Rattle.std.proofs.lemmas.List.{length-replicate, get_or-replicate}
use Rattle.std.specs.Prelude.{ℤ, Option, None, Some}
use Rattle.lin_bound.specs.Sums.{nat_at}
use Rattle.lin_bound.specs.Problem.{ProblemData, variables, cost_at, IsFeasible, IsLegal}
use Rattle.lin_bound.specs.Box.{whole_box, half, Splits, IsRegion, IsInBox, lower, upper}
use Rattle.lin_bound.specs.Laws.{NotAbove, ClosedHoldsNone, HalvesCover}
use Rattle.lin_bound.specs.declared.region.Region.{Region}
use Rattle.cert_tree.specs.declared.nodes.TreeNode.{TreeNode}
use Rattle.cert_tree.specs.declared.nodes.TreeNode.TheVariants.{Leaf, Split, Open}
use Rattle.cert_tree.specs.Certificates.{Certify}
use Rattle.cert_tree.specs.Laws.{CertifiedIsBest, CertifiedIsEmpty}

-- each box is one of the problem
abbrev pub AllRegions : ProblemData → List Region → Type 0
AllRegions p [] = Unit {0}
AllRegions p (box ∷ boxes) = IsRegion p box × AllRegions p boxes

-- some box holds the point
abbrev pub LiesIn : ProblemData → List ℕ → List Region → Type 0
LiesIn p x [] = ⊥
LiesIn p x (box ∷ boxes) = IsInBox p box x ⊎ LiesIn p x boxes

-- what divides a box by its lower half divides it by its upper one
pub splits_above : (var at : ℕ) (box : Region) → Splits (lower var at) box → Splits (upper var at) box
splits_above var at box splits = record { var = splits.var; low = splits.low; high = splits.high }

-- the halves are boxes of the problem
pub half_regions : HalvesCover → (p : ProblemData) (box : Region) (boxes : List Region) (var at : ℕ) → Splits (lower var at) box → AllRegions p (box ∷ boxes) → AllRegions p (half (lower var at) box ∷ (half (upper var at) box ∷ boxes))
half_regions cover p box boxes var at splits regions =
    ((cover p box (lower var at) regions.0 splits).region, ((cover p box (upper var at) regions.0 (splits_above var at box splits)).region, regions.1))

-- and some box still holds the point
pub half_lies : HalvesCover → (p : ProblemData) (box : Region) (boxes : List Region) (var at : ℕ) (x : List ℕ) → Splits (lower var at) box → IsRegion p box → LiesIn p x (box ∷ boxes) → LiesIn p x (half (lower var at) box ∷ (half (upper var at) box ∷ boxes))
half_lies cover p box boxes var at x splits region (inl inside) =
    elim ((cover p box (lower var at) region splits).covers x inside) [
      | inl below ↦ inl below
      | inr above ↦ inr (inl above)
    ]
half_lies cover p box boxes var at x splits region (inr rest) = inr (inr rest)

-- a feasible point of the boxes is not above what their trees certify
pub certify_holds : HalvesCover → ClosedHoldsNone → (p : ProblemData) (best : Option ℤ) (x : List ℕ) → IsFeasible p x → (boxes : List Region) (nodes : List TreeNode) → AllRegions p boxes → Certify p best boxes nodes → LiesIn p x boxes → NotAbove p x best
certify_holds cover none p best x feasible [] nodes regions certify lies = absurd lies
certify_holds cover none p best x feasible (box ∷ boxes) [] regions certify lies = absurd certify
certify_holds cover none p best x feasible (box ∷ boxes) (Leaf mult ∷ nodes) regions certify (inl inside) = none p box mult best x certify.0 feasible inside
certify_holds cover none p best x feasible (box ∷ boxes) (Leaf mult ∷ nodes) regions certify (inr rest) = certify_holds cover none p best x feasible boxes nodes regions.1 certify.1 rest
certify_holds cover none p best x feasible (box ∷ boxes) (Split var at mult ∷ nodes) regions certify lies =
    certify_holds cover none p best x feasible (half (lower var at) box ∷ (half (upper var at) box ∷ boxes)) nodes (half_regions cover p box boxes var at certify.0 regions) certify.1 (half_lies cover p box boxes var at x certify.0 regions.0 lies)
certify_holds cover none p best x feasible (box ∷ boxes) (Open ∷ nodes) regions certify lies = absurd certify

-- a list of zeros has 0 at each place
zeros : (n i : ℕ) → i < n → nat_at (replicate n 0) i ≡ 0
zeros n i h = get_or-replicate n i 0 0 h

-- the whole box is one, and holds each feasible point
pub whole_region : (p : ProblemData) → IsLegal p → IsRegion p (whole_box p)
whole_region p legal =
    record {
      low_each = length-replicate (variables p) 0;
      high_each = legal.upper_each;
      ordered = λ i h. omega (arith, zeros (variables p) i h);
      within = λ i h. omega arith;
    }

pub whole_holds : (p : ProblemData) (x : List ℕ) → IsFeasible p x → IsInBox p (whole_box p) x
whole_holds p x feasible =
    record { low = λ i h. omega (arith, zeros (variables p) i h); high = feasible.within }

pub certified_is_best : HalvesCover → ClosedHoldsNone → CertifiedIsBest
certified_is_best cover none p nodes best x legal known certificate feasible =
    certify_holds cover none p (Some (cost_at p best)) x feasible (whole_box p ∷ []) nodes (whole_region p legal, tt) certificate (inl (whole_holds p x feasible))

pub certified_is_empty : HalvesCover → ClosedHoldsNone → CertifiedIsEmpty
certified_is_empty cover none p nodes x legal certificate feasible =
    certify_holds cover none p None x feasible (whole_box p ∷ []) nodes (whole_region p legal, tt) certificate (inl (whole_holds p x feasible))
