-- A tree has fewer than twice as many nodes as its box has points: a split shares the points out.
use Rattle.std.proofs.Common.{◌≡◌, ℕ, zero, suc, ◌+◌, ◌*◌, ◌-◌, ◌<◌, ◌≤◌, List, [], ◌∷◌, length, replicate, refl, ap, ◌∙◌, arith, inl, inr, mul-le-mul, get_or-set_same, get_or-set_other}
use Rattle.std.proofs.Math.Nat.{add-mul, mul-add}
use Rattle.std.proofs.lemmas.Bool.{cases_eq}
use Rattle.std.proofs.lemmas.List.{get_or-replicate}
use Rattle.std.specs.Prelude.{slice_set, ℤ, Option}
use Rattle.lin_bound.specs.Sums.{nat_at}
use Rattle.lin_bound.specs.Problem.{ProblemData, variables}
use Rattle.lin_bound.specs.Box.{whole_box, half, Splits, IsRegion, lower, upper}
use Rattle.lin_bound.specs.Laws.{HalvesCover}
use Rattle.lin_bound.specs.declared.region.Region.{Region}
use Rattle.cert_tree.specs.declared.nodes.TreeNode.{TreeNode}
use Rattle.cert_tree.specs.declared.nodes.TreeNode.TheVariants.{Leaf, Split, Open}
use Rattle.cert_tree.specs.Partial.{PartlyCertify}
use Rattle.cert_tree.specs.Counts.{points_below, NodesAreFew}
use Rattle.cert_tree.proofs.Soundness.{AllRegions, half_regions, whole_region}

-- how many points the first n variables have between these ends
abbrev points_between : List ℕ → List ℕ → ℕ → ℕ
points_between low high zero = 1
points_between low high (suc n) = points_between low high n * (nat_at high n - nat_at low n + 1)

-- at least one
some_point : (low high : List ℕ) (n : ℕ) → 1 ≤ points_between low high n
some_point low high zero = omega arith
some_point low high (suc n) =
    let more : 1 ≤ nat_at high n - nat_at low n + 1 = omega arith in
    mul-le-mul (some_point low high n) more

-- the product of equal numbers
product : (a b c d : ℕ) → a ≡ b → c ≡ d → a * c ≡ b * d
product a b c d e f = ap (λ (k : ℕ). k * c) e ∙ ap (λ (k : ℕ). b * k) f

-- as many points where the ends are the same
same_points : (low high other_low other_high : List ℕ) (n : ℕ) → ((i : ℕ) → i < n → nat_at low i ≡ nat_at other_low i) → ((i : ℕ) → i < n → nat_at high i ≡ nat_at other_high i) → points_between low high n ≡ points_between other_low other_high n
same_points low high other_low other_high zero lows highs = refl
same_points low high other_low other_high (suc n) lows highs =
    let before = same_points low high other_low other_high n (λ i h. lows i (omega (arith, h))) (λ i h. highs i (omega (arith, h))) in
    let step : nat_at high n - nat_at low n + 1 ≡ nat_at other_high n - nat_at other_low n + 1 = omega (arith, lows n (omega arith), highs n (omega arith)) in
    product (points_between low high n) (points_between other_low other_high n) (nat_at high n - nat_at low n + 1) (nat_at other_high n - nat_at other_low n + 1) before step

-- a new end at a later variable changes nothing
high_later : (low high : List ℕ) (var y n : ℕ) → n ≤ var → points_between low (slice_set high var y) n ≡ points_between low high n
high_later low high var y n later =
    same_points low (slice_set high var y) low high n (λ i h. refl) (λ i h. get_or-set_other high var i y 0 (λ e. omega (arith, h, later, e)))

low_later : (low high : List ℕ) (var y n : ℕ) → n ≤ var → points_between (slice_set low var y) high n ≡ points_between low high n
low_later low high var y n later =
    same_points (slice_set low var y) high low high n (λ i h. get_or-set_other low var i y 0 (λ e. omega (arith, h, later, e))) (λ i h. refl)

-- two products with one factor the same
left_shared : (a b c d e f : ℕ) → a ≡ c → b ≡ c → d + e ≡ f → a * d + b * e ≡ c * f
left_shared a b c d e f first second sum =
    omega (arith, ap (λ (k : ℕ). k * d) first, ap (λ (k : ℕ). k * e) second, mul-add c d e, ap (λ (k : ℕ). c * k) sum)

right_shared : (a b c d e f : ℕ) → d ≡ f → e ≡ f → a + b ≡ c → a * d + b * e ≡ c * f
right_shared a b c d e f first second sum =
    omega (arith, ap (λ (k : ℕ). a * k) first, ap (λ (k : ℕ). b * k) second, add-mul a b f, ap (λ (k : ℕ). k * f) sum)

-- the halves share out the points
halves_share : (low high : List ℕ) (var at n : ℕ) → var < length low → var < length high → nat_at low var ≤ at → at < nat_at high var → var < n → points_between low (slice_set high var at) n + points_between (slice_set low var (at + 1)) high n ≡ points_between low high n
halves_share low high var at zero in_low in_high below above within = absurd (omega (arith, within))
halves_share low high var at (suc n) in_low in_high below above within =
    elim (cases_eq n var) [
      | inl e ↦
          let new_high : nat_at (slice_set high var at) n ≡ at = ap (nat_at (slice_set high var at)) e ∙ get_or-set_same high var at 0 in_high in
          let new_low : nat_at (slice_set low var (at + 1)) n ≡ at + 1 = ap (nat_at (slice_set low var (at + 1))) e ∙ get_or-set_same low var (at + 1) 0 in_low in
          let shares : (nat_at (slice_set high var at) n - nat_at low n + 1) + (nat_at high n - nat_at (slice_set low var (at + 1)) n + 1) ≡ nat_at high n - nat_at low n + 1 = omega (arith, new_high, new_low, ap (nat_at low) e, ap (nat_at high) e, below, above) in
          left_shared (points_between low (slice_set high var at) n) (points_between (slice_set low var (at + 1)) high n) (points_between low high n) (nat_at (slice_set high var at) n - nat_at low n + 1) (nat_at high n - nat_at (slice_set low var (at + 1)) n + 1) (nat_at high n - nat_at low n + 1) (high_later low high var at n (omega (arith, e))) (low_later low high var (at + 1) n (omega (arith, e))) shares
      | inr ne ↦
          let same_high : nat_at (slice_set high var at) n ≡ nat_at high n = get_or-set_other high var n at 0 ne in
          let same_low : nat_at (slice_set low var (at + 1)) n ≡ nat_at low n = get_or-set_other low var n (at + 1) 0 ne in
          let first : nat_at (slice_set high var at) n - nat_at low n + 1 ≡ nat_at high n - nat_at low n + 1 = omega (arith, same_high) in
          let second : nat_at high n - nat_at (slice_set low var (at + 1)) n + 1 ≡ nat_at high n - nat_at low n + 1 = omega (arith, same_low) in
          right_shared (points_between low (slice_set high var at) n) (points_between (slice_set low var (at + 1)) high n) (points_between low high n) (nat_at (slice_set high var at) n - nat_at low n + 1) (nat_at high n - nat_at (slice_set low var (at + 1)) n + 1) (nat_at high n - nat_at low n + 1) first second (halves_share low high var at n in_low in_high below above (omega (arith, within, ne)))
    ]

-- how many points a box has
abbrev points_in : ProblemData → Region → ℕ
points_in p box = points_between box.low box.high (variables p)

-- those of the halves are those of the box
splits_share : (p : ProblemData) (box : Region) (var at : ℕ) → IsRegion p box → Splits (lower var at) box → points_in p (half (lower var at) box) + points_in p (half (upper var at) box) ≡ points_in p box
splits_share p box var at region splits =
    halves_share box.low box.high var at (variables p) splits.var (omega (arith, splits.var, region.low_each, region.high_each)) splits.low splits.high (omega (arith, splits.var, region.low_each))

-- the most nodes that trees of these boxes have
abbrev most_nodes : ProblemData → List Region → ℕ
most_nodes p [] = 0
most_nodes p (box ∷ boxes) = (2 * points_in p box - 1) + most_nodes p boxes

-- trees of boxes have no more
few_nodes : HalvesCover → (p : ProblemData) (best : Option ℤ) (boxes : List Region) (nodes : List TreeNode) → AllRegions p boxes → PartlyCertify p best boxes nodes → length nodes ≤ most_nodes p boxes
few_nodes cover p best [] [] regions parts = omega arith
few_nodes cover p best [] (node ∷ nodes) regions parts = absurd parts
few_nodes cover p best (box ∷ boxes) [] regions parts = absurd parts
few_nodes cover p best (box ∷ boxes) (Leaf mult ∷ nodes) regions parts =
    omega (arith, some_point box.low box.high (variables p), few_nodes cover p best boxes nodes regions.1 parts.1)
few_nodes cover p best (box ∷ boxes) (Split var at mult ∷ nodes) regions parts =
    let below : Region = half (lower var at) box in
    let above : Region = half (upper var at) box in
    let rest = few_nodes cover p best (half (lower var at) box ∷ (half (upper var at) box ∷ boxes)) nodes (half_regions cover p box boxes var at parts.0 regions) parts.2 in
    omega (arith, some_point below.low below.high (variables p), some_point above.low above.high (variables p), splits_share p box var at regions.0 parts.0, rest)
few_nodes cover p best (box ∷ boxes) (Open ∷ nodes) regions parts =
    omega (arith, some_point box.low box.high (variables p), few_nodes cover p best boxes nodes regions.1 parts)

-- from 0 on there are as many points as up to the high ends
points_from_zeros : (high : List ℕ) (all n : ℕ) → n ≤ all → points_between (replicate all 0) high n ≡ points_below high n
points_from_zeros high all zero within = refl
points_from_zeros high all (suc n) within =
    let zero_there : nat_at (replicate all 0) n ≡ 0 = get_or-replicate all n 0 0 (omega (arith, within)) in
    let step : nat_at high n - nat_at (replicate all 0) n + 1 ≡ nat_at high n + 1 = omega (arith, zero_there) in
    product (points_between (replicate all 0) high n) (points_below high n) (nat_at high n - nat_at (replicate all 0) n + 1) (nat_at high n + 1) (points_from_zeros high all n (omega (arith, within))) step

pub nodes_are_few : HalvesCover → NodesAreFew
nodes_are_few cover p best nodes legal parts =
    omega (arith, few_nodes cover p best (whole_box p ∷ []) nodes (whole_region p legal, tt) parts, points_from_zeros p.upper (variables p) (variables p) (omega arith))
