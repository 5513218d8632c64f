-- How balanced lists stay so.
use Rattle.std.proofs.Common.{◌≡◌, ℕ, ◌<◌, List, [], ◌∷◌, ◌++◌, map, length, get_or, remove, flat_map, refl, sym, ◌∙◌, ap, subst, IsPermutation}
use Rattle.std.proofs.lemmas.List.{append_assoc, append-nil, map-append}
use Rattle.std.proofs.lemmas.List.Concat.{flat_map-append}
use Rattle.std.proofs.lemmas.List.Sorted.{IsPermutation-sym, IsPermutation-trans, IsPermutation-remove, IsPermutation-append_left, IsPermutation-append_right}
use Rattle.lin_bound.specs.declared.path.Branch.{Branch}
use Rattle.lin_bound.specs.declared.mult.Mult.{Mult}
use Rattle.cert_tree.specs.declared.records.Act.{Act}
use Rattle.cert_tree.specs.declared.records.Act.TheVariants.{Closed, Split}
use Rattle.cert_tree.specs.declared.records.Record.{Record}
use Rattle.lin_bound.specs.Box.{lower, upper}
use Rattle.cert_tree.specs.Records.{children_of, children, path_in, BalancedFrom, IsBalanced}

-- a left path that is done goes to the records, and its children to the left paths
pub balanced_more : (pending : List (List Branch)) (records : List Record) (left : List (List Branch)) (place : ℕ) (path : List Branch) (act : Act) → place < length left → path ≡ get_or left place path → BalancedFrom pending records left → BalancedFrom pending (records ++ record { path = path; act = act } ∷ []) (remove left place ++ children_of path act)
balanced_more pending records left place path act within is balanced =
    let before = map path_in records in
    let below = children_of path act in
    let rest = remove left place in
    let moved : IsPermutation (path ∷ rest) left = IsPermutation-sym left (path ∷ rest) (IsPermutation-remove left place path within is) in
    let all : IsPermutation (before ++ ((path ∷ rest) ++ below)) ((pending ++ flat_map children records) ++ below) =
    IsPermutation-trans (before ++ ((path ∷ rest) ++ below)) ((before ++ left) ++ below) ((pending ++ flat_map children records) ++ below)
    (subst (λ (paths : List (List Branch)). IsPermutation (before ++ ((path ∷ rest) ++ below)) paths) (sym (append_assoc before left below)) (IsPermutation-append_right before ((path ∷ rest) ++ below) (left ++ below) (IsPermutation-append_left below (path ∷ rest) left moved)))
    (IsPermutation-append_left below (before ++ left) (pending ++ flat_map children records) balanced) in
    let paths : before ++ ((path ∷ rest) ++ below) ≡ map path_in (records ++ record { path = path; act = act } ∷ []) ++ (rest ++ below) =
    sym (append_assoc before (path ∷ []) (rest ++ below)) ∙ ap (λ (some : List (List Branch)). some ++ (rest ++ below)) (sym (map-append path_in records (record { path = path; act = act } ∷ []))) in
    let under : (pending ++ flat_map children records) ++ below ≡ pending ++ flat_map children (records ++ record { path = path; act = act } ∷ []) =
    append_assoc pending (flat_map children records) below ∙ ap (λ (some : List (List Branch)). pending ++ some) (sym (flat_map-append children records (record { path = path; act = act } ∷ []) ∙ ap (λ (some : List (List Branch)). flat_map children records ++ some) (append-nil below))) in
    subst (λ (some : List (List Branch)). IsPermutation (map path_in (records ++ record { path = path; act = act } ∷ []) ++ (rest ++ below)) some) under
    (subst (λ (some : List (List Branch)). IsPermutation some ((pending ++ flat_map children records) ++ below)) paths all)

-- a closed one leaves no children
pub balanced_closed : (pending : List (List Branch)) (records : List Record) (left : List (List Branch)) (place : ℕ) (done : Record) → place < length left → done.path ≡ get_or left place done.path → children done ≡ [] → BalancedFrom pending records left → BalancedFrom pending (records ++ done ∷ []) (remove left place)
balanced_closed pending records left place done within is none balanced =
    subst (λ (paths : List (List Branch)). BalancedFrom pending (records ++ done ∷ []) paths) (ap (λ (below : List (List Branch)). remove left place ++ below) none ∙ append-nil (remove left place)) (balanced_more pending records left place done.path done.act within is balanced)

-- the same of what the calls of a search say, where it closes a path
pub closed_stays : (records after : List Record) (left rest : List (List Branch)) (place : ℕ) (path : List Branch) (mult : Mult) → place < length left → path ≡ get_or left place path → rest ≡ remove left place → after ≡ records ++ record { path = path; act = Closed mult } ∷ [] → IsBalanced records left → IsBalanced after rest
closed_stays records after left rest place path mult within is removed pushed balanced =
    let done = balanced_closed ([] ∷ []) records left place (record { path = path; act = Closed mult }) within is refl balanced in
    subst (λ (some : List Record). IsBalanced some rest) (sym pushed) (subst (λ (paths : List (List Branch)). IsBalanced (records ++ record { path = path; act = Closed mult } ∷ []) paths) (sym removed) done)

-- and where it splits one
pub split_stays : (records after : List Record) (left rest one two : List (List Branch)) (place : ℕ) (path below above : List Branch) (var at : ℕ) (mult : Mult) → place < length left → path ≡ get_or left place path → rest ≡ remove left place → below ≡ path ++ lower var at ∷ [] → above ≡ path ++ upper var at ∷ [] → one ≡ rest ++ below ∷ [] → two ≡ one ++ above ∷ [] → after ≡ records ++ record { path = path; act = Split var at mult } ∷ [] → IsBalanced records left → IsBalanced after two
split_stays records after left rest one two place path below above var at mult within is removed lower_is upper_is first second pushed balanced =
    let done = balanced_more ([] ∷ []) records left place path (Split var at mult) within is balanced in
    let children : below ∷ (above ∷ []) ≡ children_of path (Split var at mult) = ap (λ (some : List Branch). some ∷ (above ∷ [])) lower_is ∙ ap (λ (some : List Branch). (path ++ lower var at ∷ []) ∷ (some ∷ [])) upper_is in
    let both : two ≡ remove left place ++ children_of path (Split var at mult) =
    second ∙ (ap (λ (paths : List (List Branch)). paths ++ above ∷ []) (first ∙ ap (λ (paths : List (List Branch)). paths ++ below ∷ []) removed) ∙ (append_assoc (remove left place) (below ∷ []) (above ∷ []) ∙ ap (λ (paths : List (List Branch)). remove left place ++ paths) children)) in
    subst (λ (some : List Record). IsBalanced some two) (sym pushed) (subst (λ (paths : List (List Branch)). IsBalanced (records ++ record { path = path; act = Split var at mult } ∷ []) paths) (sym both) done)
