-- When a tree shows how great a feasible point can be.
use Rattle.std.specs.Prelude.{List, [], ◌∷◌, ℤ, Option}
use Rattle.lin_bound.specs.Problem.{ProblemData}
use Rattle.lin_bound.specs.Box.{whole_box, half, Splits, lower, upper}
use Rattle.lin_bound.specs.Bound.{Closes}
use Rattle.lin_bound.specs.declared.region.Region.{Region}
use Rattle.cert_tree.specs.declared.nodes.TreeNode.{TreeNode}
use Rattle.cert_tree.specs.declared.nodes.TreeNode.TheVariants.{Leaf, Split, Open}

-- The nodes are the trees of the boxes, one after another: each leaf closes its box for the value,
-- or for no value, each split divides its box, and no leaf is open.
abbrev pub Certify : ProblemData → Option ℤ → List Region → List TreeNode → Type 0
Certify p best [] [] = Unit {0}
Certify p best (box ∷ boxes) (Leaf mult ∷ nodes) =
    Closes p box mult best × Certify p best boxes nodes
Certify p best (box ∷ boxes) (Split var at mult ∷ nodes) =
    Splits (lower var at) box
    × Certify p best (half (lower var at) box ∷ (half (upper var at) box ∷ boxes)) nodes
Certify p best (box ∷ boxes) (Open ∷ nodes) = ⊥
Certify p best [] (node ∷ nodes) = ⊥
Certify p best (box ∷ boxes) [] = ⊥

-- a tree of the whole box that certifies the value, or that there is none
abbrev pub IsCertificate : ProblemData → List TreeNode → Option ℤ → Type 0
IsCertificate p nodes best = Certify p best (whole_box p ∷ []) nodes
