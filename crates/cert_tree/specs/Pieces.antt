-- Private: `assemble` in `src/assembly.rt`.
-- The pieces of a tree on their way into it.
use Rattle.std.specs.Prelude.{◌≡◌, ℕ, ◌+◌, ◌<◌, length, List, [], sum_by}
use Rattle.std.specs.List.{HoldsAt}
use Rattle.lin_bound.specs.declared.path.Branch.{Branch}
use Rattle.cert_tree.specs.declared.nodes.TreeNode.{TreeNode}
use Rattle.cert_tree.specs.declared.nodes.TreeNode.TheVariants.{Leaf, Split, Open}
use Rattle.cert_tree.specs.declared.records.Act.{Act}
use Rattle.cert_tree.specs.declared.records.Act.TheVariants.{Closed as ClosedAct, Split as SplitAct}
use Rattle.cert_tree.specs.declared.records.Piece.{Piece}
use Rattle.cert_tree.specs.declared.records.Piece.TheVariants.{Done, Left}
use Rattle.cert_tree.specs.Records.{children_of}

-- where a piece is, its node, and the paths that it leaves to do
abbrev pub path_of : Piece → List Branch
path_of (Done done) = done.path
path_of (Left path) = path

abbrev pub node_by : Act → TreeNode
node_by (ClosedAct mult) = Leaf mult
node_by (SplitAct var at mult) = Split var at mult

abbrev pub node_of : Piece → TreeNode
node_of (Done done) = node_by done.act
node_of (Left path) = Open

abbrev pub children_in : Piece → List (List Branch)
children_in (Done done) = children_of done.path done.act
children_in (Left path) = []

-- a piece is at the path
abbrev pub IsAt : List Branch → Piece → Type 0
IsAt path piece = path_of piece ≡ path

abbrev pub HasPath : List Piece → List Branch → Type 0
HasPath pieces path = (place : ℕ) × (place < length pieces) × HoldsAt (IsAt path) pieces place

-- what a piece's path weighs, and what its children weigh
abbrev pub weight_at : (List Branch → ℕ) → Piece → ℕ
weight_at weigh piece = weigh (path_of piece)

abbrev pub weight_below : (List Branch → ℕ) → Piece → ℕ
weight_below weigh piece = sum_by weigh (children_in piece)

-- However paths are weighed, the pieces weigh as much as the paths still to come and all children:
-- balance, by weights.
abbrev pub Fits : List (List Branch) → List Piece → Type 0
Fits paths pieces =
    (weigh : List Branch → ℕ)
    → sum_by (weight_at weigh) pieces ≡ sum_by weigh paths + sum_by (weight_below weigh) pieces
