-- Private: `src/walk.rt`.
-- A walk over a tree that keeps one box: the cuts that made it of the whole one, and how to mend
-- it.
use Rattle.std.specs.Prelude.{◌≡◌, List, [], ◌∷◌, ◌++◌, map, reverse, length, Bool, true, false}
use Rattle.std.specs.Prelude.{slice_set, if◌then◌else◌}
use Rattle.lin_bound.specs.Sums.{nat_at}
use Rattle.lin_bound.specs.Box.{Splits, lower}
use Rattle.lin_bound.specs.declared.region.Region.{Region}
use Rattle.lin_bound.specs.declared.path.Branch.{Branch}
use Rattle.cert_tree.specs.declared.nodes.TreeNode.{TreeNode}
use Rattle.cert_checker.specs.declared.walk.Cut.{Cut}
use Rattle.cert_checker.specs.Faults.{Place, below, children}

-- the cut to a half: the end of its variable that the half changes is kept
abbrev pub cut_of : Branch → Region → Cut
cut_of branch box = record {
  branch = branch;
  kept = if branch.high then nat_at box.low branch.var else nat_at box.high branch.var;
}

-- the box before a cut
abbrev pub undone : Cut → Region → Region
undone cut box = if cut.branch.high
    then record { low = slice_set box.low cut.branch.var cut.kept; high = box.high }
    else record { low = box.low; high = slice_set box.high cut.branch.var cut.kept }

-- the halves of cuts, the last of which comes first
abbrev pub path_of : List Cut → List Bool
path_of cuts = map (λ (cut : Cut). cut.branch.high) (reverse cuts)

abbrev pub place_of : List Cut → Region → Place
place_of cuts box = record { path = path_of cuts; box = box }

-- after a lower half its upper half is still to come
abbrev pub waiting : Bool → Place → List Place → List Place
waiting true place places = places
waiting false place places = place ∷ places

-- the places still to come after the walk's own, of cuts the last of which comes first
abbrev pub others_of : List Cut → Region → List Place
others_of [] box = []
others_of (cut ∷ cuts) box =
    waiting cut.branch.high
    (below true cut.branch.var cut.branch.at (place_of cuts (undone cut box)))
    (others_of cuts (undone cut box))

-- each cut can be undone, the last one first
abbrev pub AllUndo : List Cut → Region → Type 0
AllUndo [] box = length box.low ≡ length box.high
AllUndo (cut ∷ cuts) box =
    Splits (lower cut.branch.var cut.branch.at) (undone cut box)
    × (length box.low ≡ length box.high) × AllUndo cuts (undone cut box)

-- the same of cuts as the walk keeps them
abbrev pub Undoes : List Cut → Region → Type 0
Undoes cuts box = AllUndo (reverse cuts) box

abbrev pub path_to : List Cut → List Bool
path_to cuts = map (λ (cut : Cut). cut.branch.high) cuts

abbrev pub here : List Cut → Region → Place
here cuts box = place_of (reverse cuts) box

abbrev pub others : List Cut → Region → List Place
others cuts box = others_of (reverse cuts) box

-- these were the places to come: the walk is at the first one, or there was none
abbrev pub NextIs : Bool → List Place → List Cut → Region → Type 0
NextIs true places cuts box = (places ≡ here cuts box ∷ others cuts box) × Undoes cuts box
NextIs false places cuts box = places ≡ []

-- the walk went on from the place of a node
abbrev pub WentOn : TreeNode → Bool → List Cut → Region → List Cut → Region → Type 0
WentOn node more cuts box new_cuts new_box =
    NextIs more (children node (here cuts box) ++ others cuts box) new_cuts new_box
