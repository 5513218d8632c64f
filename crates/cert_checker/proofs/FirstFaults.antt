-- The first fault of a tree: going on from a place at which nothing is wrong, and that there is one first fault.
use Rattle.std.proofs.Common.{◌≡◌, ℕ, suc, ◌+◌, ◌<◌, List, [], ◌∷◌, ◌++◌, length, get_or, drop, refl, sym, ◌∙◌, ap, subst, arith, Bool, true, false, inl, inr}
use Rattle.std.specs.Prelude.{ℤ, Option, None, Some}
use Rattle.std.proofs.lemmas.Int.{ints}
use lib.Signed.{◌<ℤ◌}
use Rattle.std.proofs.lemmas.List.{drop_more, drop_all}
use Rattle.lin_bound.specs.Problem.{ProblemData}
use Rattle.lin_bound.specs.Box.{whole_box, Splits, IsRegion, lower}
use Rattle.lin_bound.specs.Bound.{Closes, bound_of}
use Rattle.lin_bound.specs.declared.region.Region.{Region}
use Rattle.lin_bound.specs.declared.mult.Mult.{Mult}
use Rattle.lin_bound.proofs.Halves.{halves_cover}
use Rattle.cert_tree.specs.Certificates.{Certify, IsCertificate}
use Rattle.cert_tree.specs.Trees.{IsWhole}
use Rattle.cert_tree.specs.declared.nodes.TreeNode.{TreeNode}
use Rattle.cert_tree.specs.declared.nodes.TreeNode.TheVariants.{Leaf, Split, Open}
use Rattle.cert_tree.proofs.Soundness.{AllRegions, half_regions}
use Rattle.cert_checker.specs.declared.answer.Reason.{Reason}
use Rattle.cert_checker.specs.declared.answer.Reason.TheVariants.{NotClosed, BadSplit, OpenLeaf, BadMult}
use Rattle.cert_checker.specs.declared.answer.CheckAnswer.{CheckAnswer}
use Rattle.cert_checker.specs.declared.answer.CheckAnswer.TheVariants.{Valid, Invalid}
use Rattle.cert_checker.specs.declared.walk.Cut.{Cut}
use Rattle.cert_checker.specs.Faults.{target_of, MayClose, IsRight, IsWrong, Place, root, below, children, FirstFault, IsChecked, FirstFaultIsOne, IsJudged, SplitIs, IsDivided}
use Rattle.cert_checker.specs.Walk.{Undoes, here, others, WentOn}

-- a leaf closes its box exactly if its multipliers may, and its bound is below the target
pub closes_below : (p : ProblemData) (best : Option ℤ) (box : Region) (mult : Mult) → MayClose best mult.d → bound_of p box mult <ℤ target_of best mult.d → Closes p box mult best
closes_below p None box mult may less = (may, less)
closes_below p (Some value) box mult may less = less

below_closes : (p : ProblemData) (best : Option ℤ) (box : Region) (mult : Mult) → Closes p box mult best → MayClose best mult.d × (bound_of p box mult <ℤ target_of best mult.d)
below_closes p None box mult closes = closes
below_closes p (Some value) box mult closes = (tt, closes)

-- nothing that is wrong is right
wrong_leaf : (p : ProblemData) (best : Option ℤ) (box : Region) (mult : Mult) (reason : Reason) → IsWrong p best box (Leaf mult) reason → MayClose best mult.d × (bound_of p box mult <ℤ target_of best mult.d) → ⊥
wrong_leaf p best box mult BadMult wrong closed = wrong closed.0
wrong_leaf p best box mult (NotClosed bound target) wrong closed = omega (arith, ints, wrong.1, wrong.2, wrong.3, closed.1)
wrong_leaf p best box mult BadSplit wrong closed = wrong
wrong_leaf p best box mult OpenLeaf wrong closed = wrong

wrong_split : (p : ProblemData) (best : Option ℤ) (box : Region) (var at : ℕ) (mult : Mult) (reason : Reason) → IsWrong p best box (Split var at mult) reason → Splits (lower var at) box → ⊥
wrong_split p best box var at mult BadSplit wrong splits = wrong splits
wrong_split p best box var at mult BadMult wrong splits = wrong
wrong_split p best box var at mult (NotClosed bound target) wrong splits = wrong
wrong_split p best box var at mult OpenLeaf wrong splits = wrong

wrong_not_right : (p : ProblemData) (best : Option ℤ) (box : Region) (node : TreeNode) (reason : Reason) → IsWrong p best box node reason → IsRight p best box node → ⊥
wrong_not_right p best box (Leaf mult) reason wrong right = wrong_leaf p best box mult reason wrong (below_closes p best box mult right)
wrong_not_right p best box (Split var at mult) reason wrong right = wrong_split p best box var at mult reason wrong right
wrong_not_right p best box Open reason wrong right = right

-- a node has one reason
same_reason_leaf : (p : ProblemData) (best : Option ℤ) (box : Region) (mult : Mult) (one other : Reason) → IsWrong p best box (Leaf mult) one → IsWrong p best box (Leaf mult) other → one ≡ other
same_reason_leaf p best box mult BadMult BadMult wrong also = refl
same_reason_leaf p best box mult BadMult (NotClosed bound target) wrong also = absurd (wrong also.0)
same_reason_leaf p best box mult BadMult BadSplit wrong also = absurd also
same_reason_leaf p best box mult BadMult OpenLeaf wrong also = absurd also
same_reason_leaf p best box mult (NotClosed bound target) BadMult wrong also = absurd (also wrong.0)
same_reason_leaf p best box mult (NotClosed bound target) (NotClosed most above) wrong also =
    ap (λ (some : ℤ). NotClosed some target) (wrong.1 ∙ sym also.1) ∙ ap (λ (some : ℤ). NotClosed most some) (wrong.2 ∙ sym also.2)
same_reason_leaf p best box mult (NotClosed bound target) BadSplit wrong also = absurd also
same_reason_leaf p best box mult (NotClosed bound target) OpenLeaf wrong also = absurd also
same_reason_leaf p best box mult BadSplit other wrong also = absurd wrong
same_reason_leaf p best box mult OpenLeaf other wrong also = absurd wrong

same_reason : (p : ProblemData) (best : Option ℤ) (box : Region) (node : TreeNode) (one other : Reason) → IsWrong p best box node one → IsWrong p best box node other → one ≡ other
same_reason p best box (Leaf mult) one other wrong also = same_reason_leaf p best box mult one other wrong also
same_reason p best box (Split var at mult) BadSplit BadSplit wrong also = refl
same_reason p best box (Split var at mult) BadSplit BadMult wrong also = absurd also
same_reason p best box (Split var at mult) BadSplit OpenLeaf wrong also = absurd also
same_reason p best box (Split var at mult) BadSplit (NotClosed bound target) wrong also = absurd also
same_reason p best box (Split var at mult) BadMult other wrong also = absurd wrong
same_reason p best box (Split var at mult) OpenLeaf other wrong also = absurd wrong
same_reason p best box (Split var at mult) (NotClosed bound target) other wrong also = absurd wrong
same_reason p best box Open OpenLeaf OpenLeaf wrong also = refl
same_reason p best box Open OpenLeaf BadMult wrong also = absurd also
same_reason p best box Open OpenLeaf BadSplit wrong also = absurd also
same_reason p best box Open OpenLeaf (NotClosed bound target) wrong also = absurd also
same_reason p best box Open BadMult other wrong also = absurd wrong
same_reason p best box Open BadSplit other wrong also = absurd wrong
same_reason p best box Open (NotClosed bound target) other wrong also = absurd wrong

-- a tree has one first fault
one_fault : (p : ProblemData) (best : Option ℤ) (places : List Place) (nodes : List TreeNode) (path other : List Bool) (reason another : Reason)
    → FirstFault p best places nodes path reason → FirstFault p best places nodes other another → (path ≡ other) × (reason ≡ another)
one_fault p best [] nodes path other reason another one two = absurd one
one_fault p best (place ∷ places) [] path other reason another one two = absurd one
one_fault p best (place ∷ places) (node ∷ nodes) path other reason another (inl one) (inl two) =
    (one.1 ∙ sym two.1, same_reason p best place.box node reason another one.0 two.0)
one_fault p best (place ∷ places) (node ∷ nodes) path other reason another (inl one) (inr two) =
    absurd (wrong_not_right p best place.box node reason one.0 two.0)
one_fault p best (place ∷ places) (node ∷ nodes) path other reason another (inr one) (inl two) =
    absurd (wrong_not_right p best place.box node another two.0 one.0)
one_fault p best (place ∷ places) (node ∷ nodes) path other reason another (inr one) (inr two) =
    one_fault p best (children node place ++ places) nodes path other reason another one.1 two.1

pub first_fault_is_one : FirstFaultIsOne
first_fault_is_one p best nodes path other reason another one two =
    one_fault p best (root p ∷ []) nodes path other reason another one two

-- the boxes of places
abbrev pub boxes : List Place → List Region
boxes [] = []
boxes (place ∷ places) = place.box ∷ boxes places

-- a tree with a fault is no certificate
not_certified : (p : ProblemData) (best : Option ℤ) (places : List Place) (nodes : List TreeNode) (path : List Bool) (reason : Reason)
    → FirstFault p best places nodes path reason → Certify p best (boxes places) nodes → ⊥
not_certified p best [] nodes path reason fault certify = fault
not_certified p best (place ∷ places) [] path reason fault certify = fault
not_certified p best (place ∷ places) (Leaf mult ∷ nodes) path reason (inl here) certify = wrong_not_right p best place.box (Leaf mult) reason here.0 certify.0
not_certified p best (place ∷ places) (Leaf mult ∷ nodes) path reason (inr later) certify = not_certified p best places nodes path reason later.1 certify.1
not_certified p best (place ∷ places) (Split var at mult ∷ nodes) path reason (inl here) certify = wrong_not_right p best place.box (Split var at mult) reason here.0 certify.0
not_certified p best (place ∷ places) (Split var at mult ∷ nodes) path reason (inr later) certify =
    not_certified p best (below false var at place ∷ (below true var at place ∷ places)) nodes path reason later.1 certify.1
not_certified p best (place ∷ places) (Open ∷ nodes) path reason fault certify = certify

-- what a walk over some places and nodes finds
abbrev pub Finds : ProblemData → Option ℤ → List Place → List TreeNode → CheckAnswer → Type 0
Finds p best places nodes Valid = Certify p best (boxes places) nodes
Finds p best places nodes (Invalid path reason) = FirstFault p best places nodes path reason

-- from the root it is what a check answers
pub checked_by : (p : ProblemData) (best : Option ℤ) (nodes : List TreeNode) (answer : CheckAnswer) → Finds p best (root p ∷ []) nodes answer → IsChecked p nodes best answer
checked_by p best nodes Valid finds = finds
checked_by p best nodes (Invalid path reason) finds = (not_certified p best (root p ∷ []) nodes path reason finds, finds)

-- with nothing wrong here, it is what is found of the places after this one
finds_on : (p : ProblemData) (best : Option ℤ) (place : Place) (places : List Place) (node : TreeNode) (nodes : List TreeNode) (answer : CheckAnswer)
    → IsRight p best place.box node → Finds p best (children node place ++ places) nodes answer → Finds p best (place ∷ places) (node ∷ nodes) answer
finds_on p best place places (Leaf mult) nodes Valid right finds = (right, finds)
finds_on p best place places (Split var at mult) nodes Valid right finds = (right, finds)
finds_on p best place places Open nodes Valid right finds = absurd right
finds_on p best place places node nodes (Invalid path reason) right finds = inr (right, finds)

-- what holds while the check is at some places
pub record IsChecking (p : ProblemData) (best : Option ℤ) (nodes : List TreeNode) (places : List Place) (rest : List TreeNode) : Type 0 where
  pub regions : AllRegions p (boxes places)
  pub whole : IsWhole (length places) rest
  pub onward : (answer : CheckAnswer) → Finds p best places rest answer → Finds p best (root p ∷ []) nodes answer

regions_on : (p : ProblemData) (best : Option ℤ) (place : Place) (places : List Place) (node : TreeNode) → IsRight p best place.box node → AllRegions p (boxes (place ∷ places)) → AllRegions p (boxes (children node place ++ places))
regions_on p best place places (Leaf mult) right regions = regions.1
regions_on p best place places (Split var at mult) right regions = half_regions halves_cover p place.box (boxes places) var at right regions
regions_on p best place places Open right regions = absurd right

whole_on : (p : ProblemData) (best : Option ℤ) (place : Place) (places : List Place) (node : TreeNode) (rest : List TreeNode) → IsRight p best place.box node → IsWhole (suc (length places)) (node ∷ rest) → IsWhole (length (children node place ++ places)) rest
whole_on p best place places (Leaf mult) rest right whole = whole
whole_on p best place places (Split var at mult) rest right whole = whole
whole_on p best place places Open rest right whole = absurd right

checks_on : (p : ProblemData) (best : Option ℤ) (nodes : List TreeNode) (place : Place) (places : List Place) (node : TreeNode) (rest : List TreeNode)
    → IsRight p best place.box node → IsChecking p best nodes (place ∷ places) (node ∷ rest) → IsChecking p best nodes (children node place ++ places) rest
checks_on p best nodes place places node rest right checking =
    record {
      regions = regions_on p best place places node right checking.regions;
      whole = whole_on p best place places node rest right checking.whole;
      onward = λ answer finds. checking.onward answer (finds_on p best place places node rest answer right finds);
    }

-- the same at the walk's place
pub record IsWalking (p : ProblemData) (best : Option ℤ) (nodes : List TreeNode) (cuts : List Cut) (box : Region) (number : ℕ) : Type 0 where
  pub undoes : Undoes cuts box
  pub checking : IsChecking p best nodes (here cuts box ∷ others cuts box) (drop number nodes)

pub begins : (p : ProblemData) (best : Option ℤ) (nodes : List TreeNode) (cuts : List Cut) (box : Region) → cuts ≡ [] → box ≡ whole_box p → IsRegion p box → IsWhole 1 nodes → IsWalking p best nodes cuts box 0
begins p best nodes cuts box cuts_are box_is region whole =
    let known : IsRegion p (whole_box p) = subst (IsRegion p) box_is region in
    let first : IsWalking p best nodes [] (whole_box p) 0 = record {
      undoes = known.low_each ∙ sym known.high_each;
      checking = record { regions = (known, tt); whole = whole; onward = λ answer finds. finds };
    } in
    subst (λ (some : List Cut). IsWalking p best nodes some box 0) (sym cuts_are)
    (subst (λ (some : Region). IsWalking p best nodes [] some 0) (sym box_is) first)

-- the nodes from a number on
nodes_from : (nodes : List TreeNode) (number : ℕ) (node : TreeNode) → number < length nodes → node ≡ get_or nodes number node → drop number nodes ≡ node ∷ drop (number + 1) nodes
nodes_from nodes number node within is =
    drop_more nodes number node within ∙ ap (λ (one : TreeNode). one ∷ drop (number + 1) nodes) (sym is)

at_node : (p : ProblemData) (best : Option ℤ) (nodes : List TreeNode) (cuts : List Cut) (box : Region) (number : ℕ) (node : TreeNode) → number < length nodes → node ≡ get_or nodes number node
    → IsWalking p best nodes cuts box number → IsChecking p best nodes (here cuts box ∷ others cuts box) (node ∷ drop (number + 1) nodes)
at_node p best nodes cuts box number node within is walking =
    subst (λ (rest : List TreeNode). IsChecking p best nodes (here cuts box ∷ others cuts box) rest) (nodes_from nodes number node within is) walking.checking

-- what is wrong here is the first fault
pub wrong_here : (p : ProblemData) (best : Option ℤ) (nodes : List TreeNode) (cuts : List Cut) (box : Region) (number : ℕ) (node : TreeNode) (path : List Bool) (reason : Reason) → number < length nodes → node ≡ get_or nodes number node
    → path ≡ (here cuts box).path → IsWrong p best box node reason → IsWalking p best nodes cuts box number → IsChecked p nodes best (Invalid path reason)
wrong_here p best nodes cuts box number node path reason within is path_is wrong walking =
    checked_by p best nodes (Invalid path reason)
    ((at_node p best nodes cuts box number node within is walking).onward (Invalid path reason) (inl (wrong, path_is)))

-- the walk went on to another place
pub walks_on : (p : ProblemData) (best : Option ℤ) (nodes : List TreeNode) (cuts new_cuts : List Cut) (box new_box : Region) (number : ℕ) (node : TreeNode) → number < length nodes → node ≡ get_or nodes number node
    → IsRight p best box node → WentOn node true cuts box new_cuts new_box → IsWalking p best nodes cuts box number → IsWalking p best nodes new_cuts new_box (number + 1)
walks_on p best nodes cuts new_cuts box new_box number node within is right went walking =
    let after = checks_on p best nodes (here cuts box) (others cuts box) node (drop (number + 1) nodes) right (at_node p best nodes cuts box number node within is walking) in
    record {
      undoes = went.1;
      checking = subst (λ (places : List Place). IsChecking p best nodes places (drop (number + 1) nodes)) went.0 after;
    }

none_left : (p : ProblemData) (best : Option ℤ) (rest : List TreeNode) → IsWhole 0 rest → Certify p best [] rest
none_left p best [] whole = tt
none_left p best (node ∷ rest) whole = absurd whole

-- there was no other place, and thus no other node
pub walks_off : (p : ProblemData) (best : Option ℤ) (nodes : List TreeNode) (cuts new_cuts : List Cut) (box new_box : Region) (number : ℕ) (node : TreeNode) → number < length nodes → node ≡ get_or nodes number node
    → IsRight p best box node → WentOn node false cuts box new_cuts new_box → IsWalking p best nodes cuts box number → IsCertificate p nodes best
walks_off p best nodes cuts new_cuts box new_box number node within is right went walking =
    let after = checks_on p best nodes (here cuts box) (others cuts box) node (drop (number + 1) nodes) right (at_node p best nodes cuts box number node within is walking) in
    let done : IsChecking p best nodes [] (drop (number + 1) nodes) = subst (λ (places : List Place). IsChecking p best nodes places (drop (number + 1) nodes)) went after in
    done.onward Valid (none_left p best (drop (number + 1) nodes) done.whole)

-- a node is there for each place
pub node_is_there : (p : ProblemData) (best : Option ℤ) (nodes : List TreeNode) (cuts : List Cut) (box : Region) (number : ℕ) → length nodes ≡ number → IsWalking p best nodes cuts box number → ⊥
node_is_there p best nodes cuts box number end walking =
    let none : drop number nodes ≡ [] = drop_all number nodes (omega arith) in
    subst (λ (rest : List TreeNode). IsWhole (suc (length (others cuts box))) rest) none walking.checking.whole

-- what is right divides its box
pub right_divides : (p : ProblemData) (best : Option ℤ) (box : Region) (node : TreeNode) → IsRight p best box node → IsDivided box node
right_divides p best box (Leaf mult) right = tt
right_divides p best box (Split var at mult) right = right
right_divides p best box Open right = tt

-- a split's fault is its node's
pub split_judged : (p : ProblemData) (best : Option ℤ) (box : Region) (var at : ℕ) (mult : Mult) (found : Option Reason) → SplitIs box var at found → IsJudged p best box (Split var at mult) found
split_judged p best box var at mult None is = is
split_judged p best box var at mult (Some BadSplit) is = is
split_judged p best box var at mult (Some BadMult) is = is
split_judged p best box var at mult (Some OpenLeaf) is = is
split_judged p best box var at mult (Some (NotClosed bound target)) is = is
