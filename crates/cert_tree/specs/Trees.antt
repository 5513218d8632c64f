-- Trees as lists of nodes in preorder.
use Rattle.std.specs.Prelude.{◌≡◌, ℕ, zero, suc, List, [], ◌∷◌, ◌++◌, map, IsPermutation}
use Rattle.lin_bound.specs.declared.path.Branch.{Branch}
use Rattle.cert_tree.specs.declared.records.Act.TheVariants.{Closed as ClosedAct, Split as SplitAct}
use Rattle.cert_tree.specs.declared.records.Record.{Record}
use Rattle.cert_tree.specs.declared.records.Piece.{Piece}
use Rattle.cert_tree.specs.declared.records.Piece.TheVariants.{Done, Left}
use Rattle.cert_tree.specs.declared.nodes.TreeNode.{TreeNode}
use Rattle.cert_tree.specs.declared.nodes.TreeNode.TheVariants.{Leaf, Split, Open}
use Rattle.lin_bound.specs.Box.{lower, upper}

-- so many whole trees, one after another
abbrev pub IsWhole : ℕ → List TreeNode → Type 0
IsWhole zero [] = Unit {0}
IsWhole zero (node ∷ nodes) = ⊥
IsWhole (suc trees) [] = ⊥
IsWhole (suc trees) (Leaf mult ∷ nodes) = IsWhole trees nodes
IsWhole (suc trees) (Split var at mult ∷ nodes) = IsWhole (suc (suc trees)) nodes
IsWhole (suc trees) (Open ∷ nodes) = IsWhole trees nodes

-- The nodes are the trees of the paths, one after another, and each node is made of the next piece,
-- which is at the node's path: a leaf of a closed record, a split of a split record, and an
-- open leaf of a left path.
abbrev pub Laid : List (List Branch) → List TreeNode → List Piece → Type 0
Laid [] [] [] = Unit {0}
Laid (path ∷ paths) (Leaf mult ∷ nodes) (piece ∷ pieces) =
    (piece ≡ Done (record { path = path; act = ClosedAct mult })) × Laid paths nodes pieces
Laid (path ∷ paths) (Split var at mult ∷ nodes) (piece ∷ pieces) =
    (piece ≡ Done (record { path = path; act = SplitAct var at mult }))
    × Laid ((path ++ lower var at ∷ []) ∷ ((path ++ upper var at ∷ []) ∷ paths)) nodes pieces
Laid (path ∷ paths) (Open ∷ nodes) (piece ∷ pieces) = (piece ≡ Left path) × Laid paths nodes pieces
Laid [] [] (piece ∷ pieces) = ⊥
Laid [] (node ∷ nodes) pieces = ⊥
Laid (path ∷ paths) [] pieces = ⊥
Laid (path ∷ paths) (Leaf mult ∷ nodes) [] = ⊥
Laid (path ∷ paths) (Split var at mult ∷ nodes) [] = ⊥
Laid (path ∷ paths) (Open ∷ nodes) [] = ⊥

-- the records and the left paths in one list
abbrev pub pieces_of : List Record → List (List Branch) → List Piece
pieces_of records left = map Done records ++ map Left left

-- the nodes are one tree, laid from the root of these pieces in some order, each of them once
pub record IsLaid (pieces : List Piece) (nodes : List TreeNode) : Type 0 where
  pub order : List Piece
  pub all : IsPermutation pieces order
  pub laid : Laid ([] ∷ []) nodes order

-- the nodes are the tree that has each record at its path, an open leaf at each left path, and no
-- other node
abbrev pub IsAssembled : List Record → List (List Branch) → List TreeNode → Type 0
IsAssembled records left nodes = IsLaid (pieces_of records left) nodes
