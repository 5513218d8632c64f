-- Private: `assemble` and the search: paths, records, and which lists of them are balanced.
-- What a search did and what it left, and when the two fit together.
use Rattle.std.specs.Prelude.{List, [], ◌∷◌, ◌++◌, map, IsPermutation}
use Rattle.std.specs.List.{flat_map}
use Rattle.lin_bound.specs.Box.{lower, upper}
use Rattle.lin_bound.specs.declared.path.Branch.{Branch}
use Rattle.cert_tree.specs.declared.records.Act.{Act}
use Rattle.cert_tree.specs.declared.records.Act.TheVariants.{Closed, Split}
use Rattle.cert_tree.specs.declared.records.Record.{Record}

-- the paths that an act at a path leaves to do, the lower half's first
abbrev pub children_of : List Branch → Act → List (List Branch)
children_of path (Closed mult) = []
children_of path (Split var at mult) =
    (path ++ lower var at ∷ []) ∷ ((path ++ upper var at ∷ []) ∷ [])

abbrev pub path_in : Record → List Branch
path_in done = done.path

abbrev pub children : Record → List (List Branch)
children done = children_of done.path done.act

-- Each path is among the records and the left paths as often as a split record has it as a
-- child, and the pending ones once more.
abbrev pub BalancedFrom : List (List Branch) → List Record → List (List Branch) → Type 0
BalancedFrom pending records left =
    IsPermutation (map path_in records ++ left) (pending ++ flat_map children records)

abbrev pub IsBalanced : List Record → List (List Branch) → Type 0
IsBalanced records left = BalancedFrom ([] ∷ []) records left
