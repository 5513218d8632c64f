-- Private: `most_left` in `src/possible.rt`.
-- The boxes that a walk over a tree has still to come to.
use Rattle.std.specs.Prelude.{ℕ, ◌<◌, length, List, [], ◌∷◌, ◌++◌, ℤ, Option, None, Some}
use Rattle.std.specs.Prelude.{slice_index_or}
use Rattle.std.specs.Int.{int_max}
use Rattle.lin_bound.specs.Problem.{ProblemData}
use Rattle.lin_bound.specs.Box.{box_at, lower, upper}
use Rattle.lin_bound.specs.declared.mult.Mult.{Mult}
use Rattle.cert_tree.specs.declared.nodes.TreeNode.{TreeNode}
use Rattle.cert_tree.specs.declared.nodes.TreeNode.TheVariants.{Leaf, Split, Open}
use Rattle.cert_tree.specs.declared.possible.Place.{Place}
use Rattle.cert_tree.specs.Partial.{top}

-- the multipliers that the halves of a split begin with
abbrev pub mult_of : TreeNode → Option Mult
mult_of (Leaf mult) = None
mult_of (Split var at mult) = Some mult
mult_of Open = None

-- those of the node of this number
abbrev pub mult_at : List TreeNode → Option ℕ → Option Mult
mult_at nodes None = None
mult_at nodes (Some number) = mult_of (slice_index_or nodes number Open)

-- the number is one of a node, where there is one
abbrev pub IsNumber : List TreeNode → Option ℕ → Type 0
IsNumber nodes None = Unit {0}
IsNumber nodes (Some number) = number < length nodes

-- the places of the halves of a node of this number, the lower one's first
abbrev pub halves_in : ℕ → Place → TreeNode → List Place
halves_in number place (Leaf mult) = []
halves_in number place (Split var at mult) =
    record { path = place.path ++ lower var at ∷ []; parent = Some number }
    ∷ (record { path = place.path ++ upper var at ∷ []; parent = Some number } ∷ [])
halves_in number place Open = []

-- the greatest so far, and the top of the node where it is an open leaf
abbrev pub raised : ProblemData → List TreeNode → Place → ℤ → TreeNode → ℤ
raised p nodes place most (Leaf mult) = most
raised p nodes place most (Split var at mult) = most
raised p nodes place most Open =
    int_max most (top p (box_at p place.path) (mult_at nodes place.parent))
