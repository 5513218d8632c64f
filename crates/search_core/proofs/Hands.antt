-- The paths of open nodes and of nodes in hand, in any order, and how many nodes a worker has.
use Rattle.std.proofs.Common.{◌≡◌, ℕ, suc, ◌+◌, ◌≤◌, Bool, if◌then◌else◌, List, [], ◌∷◌, ◌++◌, map, refl, sym, ap, subst, arith, inl, inr, IsPermutation, All}
use Rattle.std.specs.Prelude.{◌==◌, ◌⊎◌}
use Rattle.std.proofs.lemmas.Bool.{cases_Bool, eqb-true}
use Rattle.std.proofs.lemmas.List.Sums.{sum_by-cons}
use Rattle.std.proofs.lemmas.List.Sorted.{IsPermutation-sym, IsPermutation-trans, IsPermutation-append_left, IsPermutation-append_right, IsPermutation-middle, IsPermutation-map, sum_by-IsPermutation}
use Rattle.lin_bound.specs.declared.path.Branch.{Branch}
use Rattle.cert_tree.specs.declared.records.Act.{Act}
use Rattle.cert_tree.specs.declared.records.Record.{Record}
use Rattle.cert_tree.specs.Records.{children_of, path_in, children, IsBalanced}
use Rattle.cert_tree.proofs.Balance.{balanced_more}
use Rattle.search_core.specs.Core.{IsBusy, Replaced}
use Rattle.search_core.specs.Kept.{path_held, one_of, nodes_of}
use Rattle.search_core.specs.declared.event.Hand.{Hand}

-- the paths of the open nodes and of those in hand
abbrev pub to_do : List (List Branch) → List Hand → List (List Branch)
to_do left hands = left ++ map path_held hands

-- balance doesn't know the order of the open paths
pub rebalance : (records : List Record) (left other : List (List Branch)) → IsPermutation other left → IsBalanced records left → IsBalanced records other
rebalance records left other same balanced =
    let before = map path_in records in
    IsPermutation-trans (before ++ other) (before ++ left) (([] ∷ []) ++ Rattle.std.specs.List.flat_map children records) (IsPermutation-append_right before other left same) balanced

-- a node in hand is among what is to do
pub hand_first : (left : List (List Branch)) (before after : List Hand) (hand : Hand) → IsPermutation before (hand ∷ after) → IsPermutation (to_do left before) (hand.path ∷ to_do left after)
hand_first left before after hand moved =
    IsPermutation-trans (to_do left before) (left ++ map path_held (hand ∷ after)) (hand.path ∷ to_do left after)
    (IsPermutation-append_right left (map path_held before) (map path_held (hand ∷ after)) (IsPermutation-map path_held before (hand ∷ after) moved))
    (IsPermutation-middle left hand.path (map path_held after))

-- and so does an open one
pub left_first : (before after : List (List Branch)) (hands : List Hand) (path : List Branch) → IsPermutation before (path ∷ after) → IsPermutation (to_do before hands) (path ∷ to_do after hands)
left_first before after hands path moved = IsPermutation-append_left (map path_held hands) before (path ∷ after) moved

-- a path that moves between the two leaves all that is to do
pub moves_over : (left other : List (List Branch)) (hands others : List Hand) (hand : Hand) → IsPermutation left (hand.path ∷ other) → IsPermutation others (hand ∷ hands) → IsPermutation (to_do other others) (to_do left hands)
moves_over left other hands others hand opened held =
    IsPermutation-trans (to_do other others) (hand.path ∷ to_do other hands) (to_do left hands) (hand_first other others hands hand held)
    (IsPermutation-sym (to_do left hands) (hand.path ∷ to_do other hands) (left_first left other hands hand.path opened))

-- a node in hand that is another with the same path
pub same_path : (left : List (List Branch)) (before after : List Hand) (old new : Hand) → old.path ≡ new.path → Replaced before after old new → IsPermutation (to_do left after) (to_do left before)
same_path left before after old new same replaced =
    IsPermutation-trans (to_do left after) (new.path ∷ to_do left replaced.others) (to_do left before) (hand_first left after replaced.others new replaced.put)
    (IsPermutation-sym (to_do left before) (new.path ∷ to_do left replaced.others)
    (subst (λ (path : List Branch). IsPermutation (to_do left before) (path ∷ to_do left replaced.others)) same (hand_first left before replaced.others old replaced.taken)))

-- a node in hand that is recorded leaves its children to do
pub recorded : (records : List Record) (left : List (List Branch)) (before after : List Hand) (hand : Hand) (act : Act) → IsPermutation before (hand ∷ after) → IsBalanced records (to_do left before) → IsBalanced (records ++ record { path = hand.path; act = act } ∷ []) (to_do left after ++ children_of hand.path act)
recorded records left before after hand act moved balanced =
    balanced_more ([] ∷ []) records (hand.path ∷ to_do left after) 0 hand.path act (omega arith) refl
    (rebalance records (to_do left before) (hand.path ∷ to_do left after) (IsPermutation-sym (to_do left before) (hand.path ∷ to_do left after) (hand_first left before after hand moved)) balanced)

-- a worker's nodes, where one comes first
pub one_more : (worker : ℕ) (before after : List Hand) (hand : Hand) → IsPermutation before (hand ∷ after) → nodes_of worker before ≡ one_of worker hand + nodes_of worker after
one_more worker before after hand moved =
    omega (arith, sum_by-IsPermutation (one_of worker) before (hand ∷ after) moved, sum_by-cons (one_of worker) hand after)

one_or_none : (worker : ℕ) (hand : Hand) → (one_of worker hand ≡ 0) ⊎ ((one_of worker hand ≡ 1) × (hand.worker ≡ worker))
one_or_none worker hand =
    elim (cases_Bool (worker == hand.worker)) [
      | inl same ↦ inr (ap (λ (b : Bool). if b then 1 else 0) same, sym (eqb-true worker hand.worker same))
      | inr other ↦ inl (ap (λ (b : Bool). if b then 1 else 0) other)
    ]

-- one that has none in hand has none
pub idle_none : (worker : ℕ) (hands : List Hand) → ¬ IsBusy hands worker → nodes_of worker hands ≡ 0
idle_none worker [] idle = refl
idle_none worker (hand ∷ hands) idle =
    let rest = idle_none worker hands (λ busy. idle (busy.0, ((suc busy.1.0.0, omega (arith, busy.1.0.1), busy.1.0.2), busy.1.1))) in
    elim (one_or_none worker hand) [
      | inl none ↦ omega (arith, none, rest, sum_by-cons (one_of worker) hand hands)
      | inr one ↦ absurd (idle (hand, ((0, omega arith, refl), one.1)))
    ]

-- so where it takes one, no worker has two
pub still_one : (worker : ℕ) (hands others : List Hand) (hand : Hand) → ¬ IsBusy hands hand.worker → IsPermutation others (hand ∷ hands) → nodes_of worker hands ≤ 1 → nodes_of worker others ≤ 1
still_one worker hands others hand idle moved most =
    elim (one_or_none worker hand) [
      | inl none ↦ omega (arith, none, most, one_more worker others hands hand moved)
      | inr one ↦ omega (arith, one.0, one_more worker others hands hand moved, idle_none worker hands (subst (λ (w : ℕ). ¬ IsBusy hands w) one.1 idle))
    ]

-- what holds of the first and the rest, and of the rest alone
pub all_rest : {X : Type 0} (P : X → Type 0) (x : X) (xs : List X) → All P (x ∷ xs) → All P xs
all_rest P x xs each = λ k d h. each (suc k) d (omega (arith, h))
