-- When the node in hand is handled, and what that comes to.
use Rattle.std.proofs.Common.{◌≡◌, ℕ, zero, suc, Bool, true, false, if◌then◌else◌, ◌+◌, ◌≤◌, List, [], ◌∷◌, ◌++◌, map, remove, refl, sym, ap, subst, ◌∙◌, arith, inl, inr, IsPermutation, Contains, Some}
use Rattle.std.specs.Prelude.{◌==◌, slice_get, slice_index_or, ℤ, Option, None, ◌⊎◌}
use Rattle.std.proofs.lemmas.Cmp.{nat_eq_equiv}
use Rattle.std.proofs.lemmas.List.{length-map, get_or-map}
use Rattle.std.proofs.lemmas.List.Elements.{All-contains, All-weaker, Contains-append_right}
use Rattle.std.proofs.lemmas.List.Sums.{sum_by-cons}
use Rattle.std.proofs.lemmas.List.Sorted.{Contains-permutation, sum_by-IsPermutation, IsPermutation-append_comm, IsPermutation-append_left, IsPermutation-trans, IsPermutation-reverse}
use Rattle.std.proofs.lemmas.Option.{slice_get_within, get_or_from_slice_get, slice_get-get_or}
use Rattle.lin_bound.specs.Problem.{ProblemData}
use Rattle.lin_bound.specs.Box.{box_at, IsPath, IsRegion, lower, upper}
use Rattle.lin_bound.specs.Bound.{IsMult, Closes, plain}
use Rattle.lin_bound.specs.declared.region.Region.{Region}
use Rattle.lin_bound.specs.declared.path.Branch.{Branch}
use Rattle.lin_bound.specs.declared.mult.Mult.{Mult}
use Rattle.cert_tree.specs.declared.records.Record.{Record}
use Rattle.cert_tree.specs.declared.records.Act.TheVariants.{Closed, Split}
use Rattle.cert_tree.specs.Records.{children_of}
use Rattle.cert_tree.specs.Laws.{IsPlainlyRight}
use Rattle.cert_tree.proofs.Paths.{Divides, divides_plainly, left_paths}
use Rattle.search_core.specs.Search.{value_in}
use Rattle.search_core.specs.Nodes.{IsClosed, IsSplit, IsBetter}
use Rattle.search_core.specs.Core.{CoreState, Holds, IsBusy, IsHeldAt, IsClosable, HasMore, IsReady, IsRecorded}
use Rattle.search_core.specs.Moves.{IsBoxOf, ClosesAtOnce, without_place, children_in_turn, IsClosing, IsSplitting, IsLowOf}
use Rattle.search_core.specs.Kept.{path_held, one_of, nodes_of, IsKept}
use Rattle.search_core.specs.declared.event.Hand.{Hand}
use Rattle.search_core.specs.declared.event.Seen.TheVariants.{Looked}
use Rattle.simplex_proposer.specs.declared.proposal.Proposal.{Proposal}
use Rattle.search_core.proofs.Nodes.{closed_not_better, place_splits}
use Rattle.search_core.proofs.Table.{found_at, taken_out}

-- a worker's own node counts
pub its_own : (worker : ℕ) (hand : Hand) → hand.worker ≡ worker → one_of worker hand ≡ 1
its_own worker hand same =
    let alike : (worker == hand.worker) ≡ true = subst (λ (w : ℕ). (worker == w) ≡ true) (sym same) (nat_eq_equiv.refl worker) in
    ap (λ (b : Bool). if b then 1 else 0) alike

-- a worker that has a node has one at least, and where it has no more than one, all of its nodes are the same
has_some : (hands : List Hand) (worker place : ℕ) (hand : Hand) → slice_get hands place ≡ Some hand → hand.worker ≡ worker → nodes_of worker hands ≡ 1 + nodes_of worker (remove hands place)
has_some hands worker place hand there same =
    omega (arith, sum_by-IsPermutation (one_of worker) hands (hand ∷ remove hands place) (taken_out hands place hand there), sum_by-cons (one_of worker) hand (remove hands place), its_own worker hand same)

held_by : (hands : List Hand) (worker : ℕ) (hand : Hand) → Holds hands worker hand → 1 ≤ nodes_of worker hands
held_by hands worker hand held =
    omega (arith, has_some hands worker held.0.0 hand (slice_get-get_or hands held.0.0 hand held.0.1 ∙ ap Some held.0.2) held.1)

first_or_later : (one other : Hand) (hands : List Hand) → Contains (one ∷ hands) other → (one ≡ other) ⊎ Contains hands other
first_or_later one other hands (zero, within, is) = inl is
first_or_later one other hands (suc place, within, is) = inr (place, omega (arith, within), is)

pub only_one : (hands : List Hand) (worker place : ℕ) (one other : Hand) → nodes_of worker hands ≤ 1 → slice_get hands place ≡ Some one → one.worker ≡ worker → Holds hands worker other → one ≡ other
only_one hands worker place one other most there same held =
    elim (first_or_later one other (remove hands place) (Contains-permutation hands (one ∷ remove hands place) other (taken_out hands place one there) held.0)) [
      | inl is ↦ is
      | inr later ↦ absurd (omega (arith, most, has_some hands worker place one there same, held_by (remove hands place) worker other (later, held.1)))
    ]

Contains-map : {X Y : Type 0} (f : X → Y) (xs : List X) (place : ℕ) (x : X) → slice_get xs place ≡ Some x → Contains (map f xs) (f x)
Contains-map f xs place x there = (place, omega (arith, length-map xs f, slice_get_within xs place x there), get_or-map f xs place x (f x) (slice_get_within xs place x there) ∙ ap f (get_or_from_slice_get xs place x x there))

looked_same : (one other : Option ℤ) → Looked one ≡ Looked other → one ≡ other
looked_same one other same = cc

some_same : (one other : Hand) → Some one ≡ Some other → one ≡ other
some_same one other same = cc

not_able : (p : ProblemData) (box : Region) (seen : Option ℤ) (proposal : Proposal) → IsRegion p box → IsBetter p box seen → IsClosable p box seen proposal ⊎ HasMore p box → ⊥
not_able p box seen proposal region better (inl (inl closes)) = closed_not_better p box proposal.mult seen region closes better
not_able p box seen proposal region better (inl (inr plainly)) = closed_not_better p box (plain p plainly.0) seen region plainly.2 better
not_able p box seen proposal region better (inr more) = omega (arith, more.2, better.one more.0 more.1)

opened : (old new : List (List Branch)) (hand : Hand) (var at : ℕ) (mult : Mult) (is_upper_next : Bool) → new ≡ old ++ children_in_turn is_upper_next hand.path var at → IsPermutation new (children_of hand.path (Split var at mult) ++ old)
opened old new hand var at mult true is =
    let low = hand.path ++ lower var at ∷ [] in
    let high = hand.path ++ upper var at ∷ [] in
    subst (λ (paths : List (List Branch)). IsPermutation paths (low ∷ (high ∷ old))) (sym is)
    (IsPermutation-append_comm old (low ∷ (high ∷ [])))
opened old new hand var at mult false is =
    let low = hand.path ++ lower var at ∷ [] in
    let high = hand.path ++ upper var at ∷ [] in
    subst (λ (paths : List (List Branch)). IsPermutation paths (low ∷ (high ∷ old))) (sym is)
    (IsPermutation-trans (old ++ high ∷ (low ∷ [])) ((high ∷ (low ∷ [])) ++ old) (low ∷ (high ∷ old))
    (IsPermutation-append_comm old (high ∷ (low ∷ [])))
    (IsPermutation-append_left old (high ∷ (low ∷ [])) (low ∷ (high ∷ [])) (IsPermutation-reverse (high ∷ (low ∷ [])))))

-- the node that is where a worker's does is the worker's
pub at_hand : (hands : List Hand) (worker place : ℕ) (found : Hand) → IsHeldAt hands worker place → found ≡ slice_index_or hands place found → (slice_get hands place ≡ Some found) × (found.worker ≡ worker)
at_hand hands worker place found held is =
    let same : found ≡ held.0 = is ∙ get_or_from_slice_get hands place held.0 found held.1 in
    (held.1 ∙ ap Some (sym same), ap (λ (h : Hand). h.worker) same ∙ held.2)

-- the paths of nodes in hand are the problem's
pub hand_path : (p : ProblemData) (state : CoreState) (place : ℕ) (hand : Hand) → IsKept p state → slice_get state.hands place ≡ Some hand → IsPath p hand.path
hand_path p state place hand kept there =
    let paths = state.left ++ map path_held state.hands in
    let divides = All-weaker (λ (done : Record). IsPlainlyRight p (value_in state.best) None done.path done.act) (λ (done : Record). Divides p done.path done.act) (λ done right. divides_plainly p (value_in state.best) None done.path done.act right) state.records kept.right in
    All-contains (IsPath p) paths hand.path (left_paths p state.records paths kept.balanced divides)
    (Contains-append_right state.left (map path_held state.hands) hand.path (Contains-map path_held state.hands place hand there))

-- a node that was not looked at is not ready
pub unlooked : (p : ProblemData) (state : CoreState) (worker place : ℕ) (proposal : Proposal) (hand : Hand) → IsKept p state → slice_get state.hands place ≡ Some hand → hand.worker ≡ worker → ((value : Option ℤ) → hand.seen ≡ Looked value → ⊥) → ¬ IsReady p state worker proposal
unlooked p state worker place proposal hand kept there of seen ready =
    seen ready.seen (ap (λ (h : Hand). h.seen) (only_one state.hands worker place hand ready.hand (kept.one_each worker) there of ready.held) ∙ ready.looked)

-- nor is one whose box is a better point
pub stuck : (p : ProblemData) (state : CoreState) (worker place : ℕ) (proposal : Proposal) (hand : Hand) (seen : Option ℤ) (box : Region) → IsKept p state → slice_get state.hands place ≡ Some hand → hand.worker ≡ worker → hand.seen ≡ Looked seen → box ≡ box_at p hand.path → IsRegion p box → IsBetter p box seen → ¬ IsReady p state worker proposal
stuck p state worker place proposal hand seen box kept there of looked box_is region better ready =
    let same : hand ≡ ready.hand = only_one state.hands worker place hand ready.hand (kept.one_each worker) there of ready.held in
    let values : seen ≡ ready.seen = looked_same seen ready.seen (sym looked ∙ (ap (λ (h : Hand). h.seen) same ∙ ready.looked)) in
    let boxes : box_at p ready.hand.path ≡ box = ap (λ (h : Hand). box_at p h.path) (sym same) ∙ sym box_is in
    not_able p box seen proposal region better
    (subst (λ (v : Option ℤ). IsClosable p box v proposal ⊎ HasMore p box) (sym values) (subst (λ (b : Region). IsClosable p b ready.seen proposal ⊎ HasMore p b) boxes ready.able))

-- the low ends of its box are a point that any looked-at node of the worker has
pub low_of : (p : ProblemData) (state : CoreState) (worker place : ℕ) (hand : Hand) (box : Region) (point : List ℕ) → IsKept p state → slice_get state.hands place ≡ Some hand → hand.worker ≡ worker → box ≡ box_at p hand.path → point ≡ box.low → IsLowOf p state worker point
low_of p state worker place hand box point kept there of box_is is =
    λ other seen held looked.
    is ∙ (ap (λ (b : Region). b.low) box_is
    ∙ ap (λ (h : Hand). (box_at p h.path).low) (only_one state.hands worker place hand other (kept.one_each worker) there of held))

-- its box is that of any node of the worker
pub box_of_hand : (p : ProblemData) (state : CoreState) (worker place : ℕ) (hand : Hand) (box : Region) → IsKept p state → slice_get state.hands place ≡ Some hand → hand.worker ≡ worker → box ≡ box_at p hand.path → IsBoxOf p state worker box
box_of_hand p state worker place hand box kept there of box_is =
    λ other held. box_is ∙ ap (λ (h : Hand). box_at p h.path) (only_one state.hands worker place hand other (kept.one_each worker) there of held)

-- and so the worker's box is that of the node at the place
pub hand_box : (p : ProblemData) (hands : List Hand) (worker place : ℕ) (hand : Hand) (box : Region) → slice_get hands place ≡ Some hand → hand.worker ≡ worker → ((other : Hand) → Holds hands worker other → box ≡ box_at p other.path) → box ≡ box_at p hand.path
hand_box p hands worker place hand box there of known = known hand (found_at hands place hand there, of)

-- a worker without a node has none, and neither has one whose node was not looked at
pub low_of_none : (p : ProblemData) (state : CoreState) (worker : ℕ) (point : List ℕ) → ¬ IsBusy state.hands worker → IsLowOf p state worker point
low_of_none p state worker point idle = λ other seen held looked. absurd (idle (other, held))

pub low_unlooked : (p : ProblemData) (state : CoreState) (worker place : ℕ) (hand : Hand) (point : List ℕ) → IsKept p state → slice_get state.hands place ≡ Some hand → hand.worker ≡ worker → ((value : Option ℤ) → hand.seen ≡ Looked value → ⊥) → IsLowOf p state worker point
low_unlooked p state worker place hand point kept there of unlooked =
    λ other seen held looked. absurd (unlooked seen (ap (λ (h : Hand). h.seen) (only_one state.hands worker place hand other (kept.one_each worker) there of held) ∙ looked))

-- a node that is closed
closable : (p : ProblemData) (box : Region) (seen : Option ℤ) (proposal : Proposal) (chosen : Mult) → IsClosed p box seen proposal chosen → IsClosable p box seen proposal
closable p box seen proposal chosen (inl proposed) = inl proposed.1
closable p box seen proposal chosen (inr plainly) =
    inr (plainly.1.number, plainly.1.within, subst (λ (mult : Mult). Closes p box mult seen) plainly.1.is plainly.1.closes)

pub closed : (p : ProblemData) (before after : CoreState) (worker place : ℕ) (proposal : Proposal) (hand : Hand) (seen : Option ℤ) (box : Region) (chosen : Mult) → slice_get before.hands place ≡ Some hand → hand.worker ≡ worker → hand.seen ≡ Looked seen → box ≡ box_at p hand.path → IsMult p chosen → IsClosed p box seen proposal chosen → IsClosing before place chosen after → IsReady p before worker proposal × IsRecorded p before worker proposal after
closed p before after worker place proposal hand seen box chosen there of looked box_is legal closes closing =
    let same : closing.hand ≡ hand = some_same closing.hand hand (sym closing.moves.there ∙ there) in
    let holds : Holds before.hands worker hand = (found_at before.hands place hand there, of) in
    let closed_here : IsClosed p (box_at p hand.path) seen proposal chosen = subst (λ (b : Region). IsClosed p b seen proposal chosen) box_is closes in (
      record { hand = hand; seen = seen; held = holds; looked = looked; able = inl (closable p (box_at p hand.path) seen proposal chosen closed_here) },
      record {
        hand = hand;
        seen = seen;
        held = holds;
        looked = looked;
        hands = rw closing.moves.hands (taken_out before.hands place hand there);
        done = inl (record {
          mult = chosen;
          legal = legal;
          closed = closed_here;
          records = closing.moves.records ∙ ap (λ (h : Hand). before.records ++ record { path = h.path; act = Closed chosen } ∷ []) same;
          left = closing.left;
        });
        budget = closing.moves.budget;
        best = closing.moves.best;
      },
    )

-- a node that was not looked at is not closed at once
pub unlooked_open : (p : ProblemData) (state : CoreState) (worker place : ℕ) (mult : Mult) (hand : Hand) → IsKept p state → slice_get state.hands place ≡ Some hand → hand.worker ≡ worker → ((value : Option ℤ) → hand.seen ≡ Looked value → ⊥) → ¬ ClosesAtOnce p state worker mult
unlooked_open p state worker place mult hand kept there of unlooked once =
    unlooked once.seen (ap (λ (h : Hand). h.seen) (only_one state.hands worker place hand once.hand (kept.one_each worker) there of once.held) ∙ once.looked)

-- nor is one that the multipliers don't close
pub still_open : (p : ProblemData) (state : CoreState) (worker place : ℕ) (mult : Mult) (hand : Hand) (seen : Option ℤ) (box : Region) → IsKept p state → slice_get state.hands place ≡ Some hand → hand.worker ≡ worker → hand.seen ≡ Looked seen → box ≡ box_at p hand.path → ¬ Closes p box mult seen → ¬ ClosesAtOnce p state worker mult
still_open p state worker place mult hand seen box kept there of looked box_is unclosed once =
    let same : hand ≡ once.hand = only_one state.hands worker place hand once.hand (kept.one_each worker) there of once.held in
    let values : seen ≡ once.seen = looked_same seen once.seen (sym looked ∙ (ap (λ (h : Hand). h.seen) same ∙ once.looked)) in
    let boxes : box_at p once.hand.path ≡ box = ap (λ (h : Hand). box_at p h.path) (sym same) ∙ sym box_is in
    unclosed (subst (λ (v : Option ℤ). Closes p box mult v) (sym values) (subst (λ (b : Region). Closes p b mult once.seen) boxes once.closes))

-- one that they close is
pub closed_once : (p : ProblemData) (before after : CoreState) (worker place : ℕ) (mult : Mult) (hand : Hand) (seen : Option ℤ) (box : Region) → slice_get before.hands place ≡ Some hand → hand.worker ≡ worker → hand.seen ≡ Looked seen → box ≡ box_at p hand.path → IsMult p mult → Closes p box mult seen → IsClosing before place mult after → ClosesAtOnce p before worker mult × IsRecorded p before worker (without_place mult) after
closed_once p before after worker place mult hand seen box there of looked box_is legal closes closing = (
  record {
    hand = hand;
    seen = seen;
    held = (found_at before.hands place hand there, of);
    looked = looked;
    closes = subst (λ (b : Region). Closes p b mult seen) box_is closes;
  },
  (closed p before after worker place (without_place mult) hand seen box mult there of looked box_is legal (inl (refl, closes)) closing).1,
)

pub ready_once : (p : ProblemData) (state : CoreState) (worker : ℕ) (mult : Mult) → ClosesAtOnce p state worker mult → IsReady p state worker (without_place mult)
ready_once p state worker mult once = record { hand = once.hand; seen = once.seen; held = once.held; looked = once.looked; able = inl (inl once.closes) }

-- a node that is split
pub split : (p : ProblemData) (before after : CoreState) (worker place var at : ℕ) (proposal : Proposal) (hand : Hand) (seen : Option ℤ) (box : Region) (chosen : Mult) (is_upper_next : Bool) → slice_get before.hands place ≡ Some hand → hand.worker ≡ worker → hand.seen ≡ Looked seen → box ≡ box_at p hand.path → IsMult p proposal.mult → IsSplit p box seen proposal chosen var at → IsSplitting before place var at chosen is_upper_next after → IsReady p before worker proposal × IsRecorded p before worker proposal after
split p before after worker place var at proposal hand seen box chosen is_upper_next there of looked box_is legal splits splitting =
    let same : splitting.hand ≡ hand = some_same splitting.hand hand (sym splitting.moves.there ∙ there) in
    let holds : Holds before.hands worker hand = (found_at before.hands place hand there, of) in
    let here : IsSplit p (box_at p hand.path) seen proposal chosen var at = subst (λ (b : Region). IsSplit p b seen proposal chosen var at) box_is splits in (
      record { hand = hand; seen = seen; held = holds; looked = looked; able = inr here.plainly.more },
      record {
        hand = hand;
        seen = seen;
        held = holds;
        looked = looked;
        hands = rw splitting.moves.hands (taken_out before.hands place hand there);
        done = inr (record {
          var = var;
          at = at;
          legal = legal;
          unclosed = here.unclosed;
          plainly = here.plainly;
          splits = place_splits (box_at p hand.path) proposal var at here.place;
          records = splitting.moves.records ∙ (ap (λ (h : Hand). before.records ++ record { path = h.path; act = Split var at chosen } ∷ []) same ∙ ap (λ (m : Mult). before.records ++ record { path = hand.path; act = Split var at m } ∷ []) here.chosen_is);
          left = opened before.left after.left hand var at proposal.mult is_upper_next (splitting.left ∙ ap (λ (h : Hand). before.left ++ children_in_turn is_upper_next h.path var at) same);
        });
        budget = splitting.moves.budget;
        best = splitting.moves.best;
      },
    )
