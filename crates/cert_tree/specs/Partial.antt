-- What a tree shows that is not done yet.
use Rattle.std.specs.Prelude.{◌≡◌, ℕ, zero, suc, ◌^◌, ◌<◌, ◌≤◌, List, [], ◌∷◌, ◌++◌, ℤ, pos, neg_ℤ}
use Rattle.std.specs.Prelude.{Option, None, Some, Contains, count_by, Bool, true, false}
use Rattle.std.specs.Int.{int_max, int_min, int_div_euclid}
use Rattle.lin_bound.specs.Sums.{nat_at}
use Rattle.lin_bound.specs.Problem.{ProblemData, variables, row_count}
use Rattle.lin_bound.specs.Box.{whole_box, half, Splits, lower, upper}
use Rattle.lin_bound.specs.Bound.{bound_of, Closes, plain}
use Rattle.lin_bound.specs.declared.region.Region.{Region}
use Rattle.lin_bound.specs.declared.mult.Mult.{Mult}
use Rattle.cert_tree.specs.declared.nodes.TreeNode.{TreeNode}
use Rattle.cert_tree.specs.declared.nodes.TreeNode.TheVariants.{Leaf, Split, Open}

-- more than one point, and no plain multipliers close the box
pub record PlainlyOpen (p : ProblemData) (box : Region) (best : Option ℤ) : Type 0 where
  pub more : (i : ℕ) × (i < variables p) × (nat_at box.low i < nat_at box.high i)
  pub unclosed : (number : ℕ) → number ≤ row_count p → ¬ Closes p box (plain p number) best

-- As for a certificate, but leaves may be open, and each box that is split is plainly open for no
-- value.
abbrev pub PartlyCertify : ProblemData → Option ℤ → List Region → List TreeNode → Type 0
PartlyCertify p best [] [] = Unit {0}
PartlyCertify p best (box ∷ boxes) (Leaf mult ∷ nodes) =
    Closes p box mult best × PartlyCertify p best boxes nodes
PartlyCertify p best (box ∷ boxes) (Split var at mult ∷ nodes) =
    Splits (lower var at) box × PlainlyOpen p box None
    × PartlyCertify p best (half (lower var at) box ∷ (half (upper var at) box ∷ boxes)) nodes
PartlyCertify p best (box ∷ boxes) (Open ∷ nodes) = PartlyCertify p best boxes nodes
PartlyCertify p best [] (node ∷ nodes) = ⊥
PartlyCertify p best (box ∷ boxes) [] = ⊥

-- whether a node is a closed leaf or a split
abbrev pub is_done : TreeNode → Bool
is_done (Leaf mult) = true
is_done (Split var at mult) = true
is_done Open = false

-- a tree of the whole box with so many nodes done, and at least one open leaf
pub record IsPartialCertificate (done : ℕ) (p : ProblemData) (nodes : List TreeNode)
    (best : Option ℤ) : Type 0 where
  pub each : count_by is_done nodes ≡ done
  pub more : Contains nodes Open
  pub parts : PartlyCertify p best (whole_box p ∷ []) nodes

-- the least value that counts, -2^60
abbrev pub floor_value : ℤ
floor_value = neg_ℤ (pos (2 ^ 60))

-- the bound of a box by multipliers, on the cost itself: the bound over d, which is at least 1,
-- rounded down
abbrev pub bound_by : ProblemData → Region → Mult → ℕ → ℤ
bound_by p box mult d = int_div_euclid (bound_of p box mult) (pos d)

-- the lesser of the plain bound of the cost and, where d is at least 1, the bound by the
-- multipliers
abbrev pub least_bound : ProblemData → Region → Mult → ℕ → ℤ
least_bound p box mult zero = bound_of p box (plain p 0)
least_bound p box mult (suc d) = int_min (bound_of p box (plain p 0)) (bound_by p box mult (suc d))

abbrev pub bound_with : ProblemData → Region → Option Mult → ℤ
bound_with p box None = bound_of p box (plain p 0)
bound_with p box (Some mult) = least_bound p box mult mult.d

-- the top of an open leaf
abbrev pub top : ProblemData → Region → Option Mult → ℤ
top p box parent = int_max floor_value (bound_with p box parent)

-- the halves of a box, the lower one's first, with the multipliers that both begin with
abbrev pub halves_with : ℕ → ℕ → Mult → Region → List (Region × Option Mult)
halves_with var at mult box =
    (half (lower var at) box, Some mult) ∷ ((half (upper var at) box, Some mult) ∷ [])

-- the greatest of a value and the tops of the open leaves; each box comes with its parent's
-- multipliers
abbrev pub greatest_top : ProblemData → ℤ → List (Region × Option Mult) → List TreeNode → ℤ
greatest_top p most [] nodes = most
greatest_top p most (place ∷ places) [] = most
greatest_top p most (place ∷ places) (Leaf mult ∷ nodes) = greatest_top p most places nodes
greatest_top p most (place ∷ places) (Split var at mult ∷ nodes) =
    greatest_top p most (halves_with var at mult place.0 ++ places) nodes
greatest_top p most (place ∷ places) (Open ∷ nodes) =
    greatest_top p (int_max most (top p place.0 place.1)) places nodes

-- the tops of the open leaves, in preorder; each box comes with its parent's multipliers
abbrev pub tops_of : ProblemData → List (Region × Option Mult) → List TreeNode → List ℤ
tops_of p [] nodes = []
tops_of p (place ∷ places) [] = []
tops_of p (place ∷ places) (Leaf mult ∷ nodes) = tops_of p places nodes
tops_of p (place ∷ places) (Split var at mult ∷ nodes) =
    tops_of p (halves_with var at mult place.0 ++ places) nodes
tops_of p (place ∷ places) (Open ∷ nodes) = top p place.0 place.1 ∷ tops_of p places nodes

-- the tops of a tree's open leaves
abbrev pub tree_tops : ProblemData → List TreeNode → List ℤ
tree_tops p nodes = tops_of p ((whole_box p, None) ∷ []) nodes

-- the value, where there is one, and otherwise the least that counts
abbrev pub value_or_floor : Option ℤ → ℤ
value_or_floor None = floor_value
value_or_floor (Some best) = best

-- What a tree that is not done leaves possible: the greatest of the value, where there is one, and
-- the tops of its open leaves. Each top is at least -2^60, so with no value it is the greatest top.
abbrev pub most_left : ProblemData → List TreeNode → Option ℤ → ℤ
most_left p nodes best = greatest_top p (value_or_floor best) ((whole_box p, None) ∷ []) nodes
