-- A walk over the nodes of a tree that is not done, with the places that are still to come.
use Rattle.std.proofs.Common.{◌≡◌, ℕ, ◌+◌, ◌<◌, List, [], ◌∷◌, ◌++◌, reverse, length, get_or, drop, sym, ◌∙◌, ap, subst}
use Rattle.std.specs.Prelude.{ℤ, Option, Some}
use Rattle.std.proofs.lemmas.List.{reverse-append, reverse-reverse, drop_more, get_or_default}
use Rattle.lin_bound.specs.Problem.{ProblemData}
use Rattle.lin_bound.specs.Box.{whole_box, half, box_at, IsPath, lower, upper}
use Rattle.lin_bound.specs.declared.region.Region.{Region}
use Rattle.lin_bound.specs.declared.mult.Mult.{Mult}
use Rattle.cert_tree.specs.declared.nodes.TreeNode.{TreeNode}
use Rattle.cert_tree.specs.declared.nodes.TreeNode.TheVariants.{Leaf, Split, Open}
use Rattle.cert_tree.specs.declared.possible.Place.{Place}
use Rattle.cert_tree.specs.Partial.{PartlyCertify, greatest_top, most_left}
use Rattle.cert_tree.specs.Places.{mult_of, mult_at, IsNumber, halves_in, raised}
use Rattle.cert_tree.proofs.Bounds.{boxes_of}
use Rattle.cert_tree.proofs.Assembled.{cut_push}
use Rattle.cert_tree.proofs.Paths.{lower_path, upper_path}

-- the boxes of places, each with its parent's multipliers
abbrev pub boxes_with : ProblemData → List TreeNode → List Place → List (Region × Option Mult)
boxes_with p nodes [] = []
boxes_with p nodes (place ∷ places) = (box_at p place.path, mult_at nodes place.parent) ∷ boxes_with p nodes places

-- each place has a path of the problem and a parent among the nodes, or none
abbrev pub ArePlaces : ProblemData → List TreeNode → List Place → Type 0
ArePlaces p nodes [] = Unit {0}
ArePlaces p nodes (place ∷ places) = IsPath p place.path × IsNumber nodes place.parent × ArePlaces p nodes places

-- what holds during the walk, the places read from the next one on
pub record IsNext (p : ProblemData) (best : Option ℤ) (nodes : List TreeNode) (places : List Place) (most : ℤ) (rest : List TreeNode) : Type 0 where
  pub greatest : greatest_top p most (boxes_with p nodes places) rest ≡ most_left p nodes best
  pub parts : PartlyCertify p best (boxes_of (boxes_with p nodes places)) rest
  pub legal : ArePlaces p nodes places

-- the same of a stack of places
abbrev pub IsWalking : ProblemData → Option ℤ → List TreeNode → List Place → ℤ → ℕ → Type 0
IsWalking p best nodes stack most number = IsNext p best nodes (reverse stack) most (drop number nodes)

-- the places of the halves have the halves as boxes, and the split's multipliers
halves_are : (p : ProblemData) (nodes : List TreeNode) (number : ℕ) (place : Place) (places : List Place) (var at : ℕ) (mult : Mult) → get_or nodes number Open ≡ Split var at mult → boxes_with p nodes (halves_in number place (Split var at mult) ++ places) ≡ (half (lower var at) (box_at p place.path), Some mult) ∷ ((half (upper var at) (box_at p place.path), Some mult) ∷ boxes_with p nodes places)
halves_are p nodes number place places var at mult is =
    let rest = boxes_with p nodes places in
    let below = cut_push (whole_box p) place.path (lower var at) in
    let above = cut_push (whole_box p) place.path (upper var at) in
    let same : mult_at nodes (Some number) ≡ Some mult = ap mult_of is in
    ap (λ (box : Region). (box, mult_at nodes (Some number)) ∷ ((box_at p (place.path ++ upper var at ∷ []), mult_at nodes (Some number)) ∷ rest)) below
    ∙ (ap (λ (box : Region). (half (lower var at) (box_at p place.path), mult_at nodes (Some number)) ∷ ((box, mult_at nodes (Some number)) ∷ rest)) above
    ∙ ap (λ (parent : Option Mult). (half (lower var at) (box_at p place.path), parent) ∷ ((half (upper var at) (box_at p place.path), parent) ∷ rest)) same)

-- one node further
next_more : (p : ProblemData) (best : Option ℤ) (nodes : List TreeNode) (number : ℕ) (place : Place) (places : List Place) (most : ℤ) (node : TreeNode) (rest : List TreeNode) → number < length nodes → get_or nodes number Open ≡ node → IsNext p best nodes (place ∷ places) most (node ∷ rest) → IsNext p best nodes (halves_in number place node ++ places) (raised p nodes place most node) rest
next_more p best nodes number place places most (Leaf mult) rest within is next =
    record { greatest = next.greatest; parts = next.parts.1; legal = next.legal.2 }
next_more p best nodes number place places most (Split var at mult) rest within is next =
    let same = sym (halves_are p nodes number place places var at mult is) in
    record {
      greatest = ap (λ (boxes : List (Region × Option Mult)). greatest_top p most boxes rest) (sym same) ∙ next.greatest;
      parts = subst (λ (boxes : List (Region × Option Mult)). PartlyCertify p best (boxes_of boxes) rest) same next.parts.2;
      legal = (lower_path p place.path var at next.legal.0 next.parts.0, within, (upper_path p place.path var at next.legal.0 next.parts.0, within, next.legal.2));
    }
next_more p best nodes number place places most Open rest within is next =
    record { greatest = next.greatest; parts = next.parts; legal = next.legal.2 }

-- the stack read from its top, before a place is taken and after others are put on it
popped : (pending : List Place) (place : Place) → reverse (pending ++ place ∷ []) ≡ place ∷ reverse pending
popped pending place = reverse-append pending (place ∷ [])

pushed : (pending halves : List Place) → reverse (pending ++ reverse halves) ≡ halves ++ reverse pending
pushed pending halves = reverse-append pending (reverse halves) ∙ ap (λ (places : List Place). places ++ reverse pending) (reverse-reverse halves)

-- the place taken is the next one
pub walking_popped : (p : ProblemData) (best : Option ℤ) (nodes : List TreeNode) (old pending : List Place) (place : Place) (most : ℤ) (number : ℕ) → old ≡ pending ++ place ∷ [] → IsWalking p best nodes old most number → IsNext p best nodes (place ∷ reverse pending) most (drop number nodes)
walking_popped p best nodes old pending place most number taken walking =
    subst (λ (places : List Place). IsNext p best nodes places most (drop number nodes)) (ap reverse taken ∙ popped pending place) walking

-- one turn
pub walking_turn : (p : ProblemData) (best : Option ℤ) (nodes : List TreeNode) (old pending new : List Place) (place : Place) (most more : ℤ) (number : ℕ) (node : TreeNode) → number < length nodes → node ≡ get_or nodes number node → old ≡ pending ++ place ∷ [] → more ≡ raised p nodes place most node → new ≡ pending ++ reverse (halves_in number place node) → IsWalking p best nodes old most number → IsWalking p best nodes new more (number + 1)
walking_turn p best nodes old pending new place most more number node within is taken more_is put walking =
    let node_is : get_or nodes number Open ≡ node = get_or_default nodes number Open node within ∙ sym is in
    let rest = drop (number + 1) nodes in
    let before = walking_popped p best nodes old pending place most number taken walking in
    let nodes_are : drop number nodes ≡ node ∷ rest = drop_more nodes number Open within ∙ ap (λ (one : TreeNode). one ∷ rest) node_is in
    let split = subst (λ (some : List TreeNode). IsNext p best nodes (place ∷ reverse pending) most some) nodes_are before in
    let after = next_more p best nodes number place (reverse pending) most node rest within node_is split in
    let stack : halves_in number place node ++ reverse pending ≡ reverse new = sym (ap reverse put ∙ pushed pending (halves_in number place node)) in
    subst (λ (places : List Place). IsNext p best nodes places more rest) stack
    (subst (λ (some : ℤ). IsNext p best nodes (halves_in number place node ++ reverse pending) some rest) (sym more_is) after)

-- a place is there for each node
pub place_is_there : (p : ProblemData) (best : Option ℤ) (nodes : List TreeNode) (stack : List Place) (most : ℤ) (number : ℕ) → number < length nodes → stack ≡ [] → IsWalking p best nodes stack most number → ⊥
place_is_there p best nodes stack most number within empty walking =
    let next = subst (λ (places : List Place). IsNext p best nodes (reverse places) most (drop number nodes)) empty walking in
    subst (λ (rest : List TreeNode). PartlyCertify p best [] rest) (drop_more nodes number Open within) next.parts
