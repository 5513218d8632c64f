-- The first place of a tree, in preorder, that keeps it from being a certificate.
use Rattle.std.specs.Prelude.{◌≡◌, ◌⊎◌, ℕ, List, [], ◌∷◌, ◌++◌, Bool, true, false, ℤ, pos, ◌+ℤ◌}
use Rattle.std.specs.Prelude.{◌*ℤ◌, ◌≤ℤ◌, Option, None, Some}
use Rattle.lin_bound.specs.Problem.{ProblemData}
use Rattle.lin_bound.specs.Box.{whole_box, half, Splits, lower, upper}
use Rattle.lin_bound.specs.Bound.{Closes, bound_of}
use Rattle.lin_bound.specs.declared.region.Region.{Region}
use Rattle.cert_tree.specs.Certificates.{IsCertificate}
use Rattle.cert_tree.specs.declared.nodes.TreeNode.{TreeNode}
use Rattle.cert_tree.specs.declared.nodes.TreeNode.TheVariants.{Leaf, Split, Open}
use Rattle.cert_checker.specs.declared.answer.Reason.{Reason}
use Rattle.cert_checker.specs.declared.answer.Reason.TheVariants.{NotClosed, BadSplit, OpenLeaf}
use Rattle.cert_checker.specs.declared.answer.Reason.TheVariants.{BadMult}
use Rattle.cert_checker.specs.declared.answer.CheckAnswer.{CheckAnswer}
use Rattle.cert_checker.specs.declared.answer.CheckAnswer.TheVariants.{Valid, Invalid}

-- what a leaf's bound has to stay below: d * (value + 1), and 0 if there is no value
abbrev pub target_of : Option ℤ → ℕ → ℤ
target_of None d = pos 0
target_of (Some value) d = pos d *ℤ (value +ℤ pos 1)

-- without a value, only multipliers that don't weigh the cost may close a box
abbrev pub MayClose : Option ℤ → ℕ → Type 0
MayClose None d = d ≡ 0
MayClose (Some value) d = Unit {0}

-- nothing is wrong with the node at this box
abbrev pub IsRight : ProblemData → Option ℤ → Region → TreeNode → Type 0
IsRight p best box (Leaf mult) = Closes p box mult best
IsRight p best box (Split var at mult) = Splits (lower var at) box
IsRight p best box Open = ⊥

-- what is wrong with the node at this box, with the numbers that show it
abbrev pub IsWrong : ProblemData → Option ℤ → Region → TreeNode → Reason → Type 0
IsWrong p best box (Leaf mult) BadMult = ¬ MayClose best mult.d
IsWrong p best box (Leaf mult) (NotClosed bound target) = MayClose best mult.d
    × (bound ≡ bound_of p box mult) × (target ≡ target_of best mult.d) × (target ≤ℤ bound)
IsWrong p best box (Leaf mult) BadSplit = ⊥
IsWrong p best box (Leaf mult) OpenLeaf = ⊥
IsWrong p best box (Split var at mult) BadSplit = ¬ Splits (lower var at) box
IsWrong p best box (Split var at mult) BadMult = ⊥
IsWrong p best box (Split var at mult) (NotClosed bound target) = ⊥
IsWrong p best box (Split var at mult) OpenLeaf = ⊥
IsWrong p best box Open OpenLeaf = Unit {0}
IsWrong p best box Open BadMult = ⊥
IsWrong p best box Open BadSplit = ⊥
IsWrong p best box Open (NotClosed bound target) = ⊥

-- a place of a tree: the halves that lead there, true for an upper one, and its box
pub record Place : Type 0 where
  pub path : List Bool
  pub box : Region

abbrev pub root : ProblemData → Place
root p = record { path = []; box = whole_box p }

abbrev pub below : Bool → ℕ → ℕ → Place → Place
below false var at place =
    record { path = place.path ++ false ∷ []; box = half (lower var at) place.box }
below true var at place =
    record { path = place.path ++ true ∷ []; box = half (upper var at) place.box }

-- the places below a node's place, the lower half first
abbrev pub children : TreeNode → Place → List Place
children (Leaf mult) place = []
children (Split var at mult) place = below false var at place ∷ (below true var at place ∷ [])
children Open place = []

-- The nodes are the trees of the places, one after another. This is the first place in preorder
-- at which something is wrong, and this is wrong there.
abbrev pub FirstFault : ProblemData → Option ℤ → List Place → List TreeNode → List Bool → Reason
    → Type 0
FirstFault p best (place ∷ places) (node ∷ nodes) path reason =
    (IsWrong p best place.box node reason × (path ≡ place.path))
    ⊎ (IsRight p best place.box node
    × FirstFault p best (children node place ++ places) nodes path reason)
FirstFault p best [] nodes path reason = ⊥
FirstFault p best (place ∷ places) [] path reason = ⊥

-- what a check of a tree answers
abbrev pub IsChecked : ProblemData → List TreeNode → Option ℤ → CheckAnswer → Type 0
IsChecked p nodes best Valid = IsCertificate p nodes best
IsChecked p nodes best (Invalid path reason) =
    (¬ IsCertificate p nodes best) × FirstFault p best (root p ∷ []) nodes path reason

-- A tree has at most one first place at which something is wrong, and one reason.
abbrev pub FirstFaultIsOne : Type 0
FirstFaultIsOne = (p : ProblemData) (best : Option ℤ) (nodes : List TreeNode)
    (path other : List Bool) (reason another : Reason)
    → FirstFault p best (root p ∷ []) nodes path reason
    → FirstFault p best (root p ∷ []) nodes other another
    → (path ≡ other) × (reason ≡ another)

-- what is wrong with a node, if anything is
abbrev pub IsJudged : ProblemData → Option ℤ → Region → TreeNode → Option Reason → Type 0
IsJudged p best box node None = IsRight p best box node
IsJudged p best box node (Some reason) = IsWrong p best box node reason

-- the same of a split
abbrev pub SplitIs : Region → ℕ → ℕ → Option Reason → Type 0
SplitIs box var at None = Splits (lower var at) box
SplitIs box var at (Some BadSplit) = ¬ Splits (lower var at) box
SplitIs box var at (Some BadMult) = ⊥
SplitIs box var at (Some OpenLeaf) = ⊥
SplitIs box var at (Some (NotClosed bound target)) = ⊥

-- a node that is a split divides its box
abbrev pub IsDivided : Region → TreeNode → Type 0
IsDivided box (Leaf mult) = Unit {0}
IsDivided box (Split var at mult) = Splits (lower var at) box
IsDivided box Open = Unit {0}
