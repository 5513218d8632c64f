-- Each event keeps what holds of a search.
use Rattle.std.proofs.Common.{◌≡◌, ℕ, ◌<◌, List, [], ◌∷◌, ◌++◌, map, length, refl, sym, ap, subst, arith, inl, inr, IsPermutation, Contains, All}
use Rattle.std.specs.Prelude.{ℤ, Option, None, Some, Result, Ok, Err, IfOk, OnErr}
use Rattle.std.proofs.lemmas.Int.{ints}
use Rattle.std.proofs.lemmas.List.{append-nil, append_assoc, length_push}
use Rattle.std.proofs.lemmas.List.Elements.{All-cons, All-contains, All-push, All-weaker}
use Rattle.std.proofs.lemmas.List.Sorted.{IsPermutation-refl, IsPermutation-sym, IsPermutation-trans, IsPermutation-append_left, IsPermutation-append_comm, All-permutation, length_permutation}
use Rattle.lin_bound.specs.Problem.{ProblemData, cost_at, IsFeasible}
use Rattle.lin_bound.specs.Box.{box_at}
use Rattle.lin_bound.specs.declared.path.Branch.{Branch}
use Rattle.cert_tree.specs.declared.records.Act.{Act}
use Rattle.cert_tree.specs.declared.records.Act.TheVariants.{Closed, Split}
use Rattle.cert_tree.specs.declared.records.Record.{Record}
use Rattle.cert_tree.specs.Records.{children_of}
use Rattle.cert_tree.specs.Laws.{IsPlainlyRight}
use Rattle.cert_tree.specs.Multipliers.{ActIsLegal}
use Rattle.cert_tree.specs.Values.{IsAtMost}
use Rattle.cert_tree.proofs.Values.{closes_more, plainly_open_none, plainly_right_more}
use Rattle.search_core.specs.Search.{Found, IsFound, value_in}
use Rattle.lin_bound.specs.Bound.{Closes}
use Rattle.lin_bound.specs.declared.region.Region.{Region}
use Rattle.lin_bound.specs.declared.mult.Mult.{Mult}
use Rattle.search_core.specs.Nodes.{IsAbove, IsClosed}
use Rattle.search_core.specs.Core.{CoreState, begun, IsBusy, in_hand, IsEnabled, IsTaken, IsLooked, IsBestOf, IsOffered, IsClosedBy, IsSplitBy, IsRecorded, IsDropped, Performs, Steps, Runs}
use Rattle.search_core.specs.Kept.{path_held, one_of, SeenBelow, IsKept}
use Rattle.simplex_proposer.specs.declared.proposal.Proposal.{Proposal}
use Rattle.search_core.specs.declared.event.Hand.{Hand}
use Rattle.search_core.specs.declared.event.Seen.{Seen}
use Rattle.search_core.specs.declared.event.Seen.TheVariants.{NotLooked, Looked}
use Rattle.search_core.specs.declared.event.Event.{Event}
use Rattle.search_core.specs.declared.event.Event.TheVariants.{Take, Look, Handle, Offer, Drop}
use Rattle.search_core.specs.declared.event.Stepped.{Stepped}
use Rattle.search_core.specs.declared.event.Stepped.TheVariants.{Done, NotEnabled}
use Rattle.search_core.proofs.Hands.{to_do, rebalance, moves_over, same_path, recorded, one_more, still_one, all_rest}

pub at_most_itself : (value : Option ℤ) → IsAtMost value value
at_most_itself None = tt
at_most_itself (Some z) = omega (arith, ints)

pub at_most_then : (one two three : Option ℤ) → IsAtMost one two → IsAtMost two three → IsAtMost one three
at_most_then None two three first second = tt
at_most_then (Some a) None three first second = absurd first
at_most_then (Some a) (Some b) None first second = absurd second
at_most_then (Some a) (Some b) (Some c) first second = omega (arith, ints, first, second)

-- a value seen stays below a best that does not fall
seen_more : (value most : Option ℤ) (seen : Seen) → IsAtMost value most → SeenBelow value seen → SeenBelow most seen
seen_more value most NotLooked more below = tt
seen_more value most (Looked seen) more below = at_most_then seen value most below more

seen_value : (best seen : Option ℤ) (of : Seen) → of ≡ Looked seen → SeenBelow best of → IsAtMost seen best
seen_value best seen of is below = subst (λ (s : Seen). SeenBelow best s) is below

-- an offered point that becomes the best is above the best before
rises : (p : ProblemData) (point : List ℕ) (before : Option Found) → IsAbove (cost_at p point) (value_in before) → IsAtMost (value_in before) (Some (cost_at p point))
rises p point None above = tt
rises p point (Some found) above = omega (arith, ints, above)

pub best_rises : (p : ProblemData) (point : List ℕ) (before after : Option Found) → IsBestOf p point before after → IsAtMost (value_in before) (value_in after)
best_rises p point before after best = elim best [
  | inl better ↦ subst (λ (o : Option Found). IsAtMost (value_in before) (value_in o)) (sym better.1) (rises p point before better.0)
  | inr same ↦ subst (λ (o : Option Found). IsAtMost (value_in before) (value_in o)) (sym same.1) (at_most_itself (value_in before))
]

best_found : (p : ProblemData) (point : List ℕ) (before after : Option Found) → IsFeasible p point → IsFound p before → IsBestOf p point before after → IsFound p after
best_found p point before after feasible found best = elim best [
  | inl better ↦ subst (IsFound p) (sym better.1) (feasible, refl)
  | inr same ↦ subst (IsFound p) (sym same.1) found
]

keeps_take : (p : ProblemData) (before after : CoreState) (worker : ℕ) (path : List Branch) → ¬ IsBusy before.hands worker → begun before < before.budget → IsKept p before → IsTaken before worker path after → IsKept p after
keeps_take p before after worker path idle room kept taken =
    let hand = in_hand worker path NotLooked in
    record {
      balanced = rw taken.records (rebalance before.records (to_do before.left before.hands) (to_do after.left after.hands) (moves_over before.left after.left before.hands after.hands hand taken.left taken.hands) kept.balanced);
      found = rw taken.best kept.found;
      right = rw (taken.records, taken.best) kept.right;
      legal = rw taken.records kept.legal;
      one_each = λ w. still_one w before.hands after.hands hand idle taken.hands (kept.one_each w);
      seen = rw taken.best (All-permutation (λ (h : Hand). SeenBelow (value_in before.best) h.seen) (hand ∷ before.hands) after.hands (IsPermutation-sym after.hands (hand ∷ before.hands) taken.hands) (All-cons (λ (h : Hand). SeenBelow (value_in before.best) h.seen) hand before.hands tt kept.seen));
      within = omega (arith, room, taken.budget, ap (λ (rs : List Record). length rs) taken.records, length_permutation after.hands (hand ∷ before.hands) taken.hands);
    }

keeps_look : (p : ProblemData) (before after : CoreState) (worker : ℕ) → IsKept p before → IsLooked before worker after → IsKept p after
keeps_look p before after worker kept looked =
    let old = looked.hand in
    let new = in_hand worker old.path (Looked (value_in before.best)) in
    let others = looked.hands.others in
    let P : Hand → Type 0 = λ (h : Hand). SeenBelow (value_in before.best) h.seen in
    let rest : All P others = all_rest P old others (All-permutation P before.hands (old ∷ others) looked.hands.taken kept.seen) in
    record {
      balanced = rw (looked.records, looked.left) (rebalance before.records (to_do before.left before.hands) (to_do before.left after.hands) (same_path before.left before.hands after.hands old new refl looked.hands) kept.balanced);
      found = rw looked.best kept.found;
      right = rw (looked.records, looked.best) kept.right;
      legal = rw looked.records kept.legal;
      one_each = λ w. omega (arith, kept.one_each w, one_more w before.hands others old looked.hands.taken, one_more w after.hands others new looked.hands.put, ap (λ (v : ℕ). one_of w (in_hand v old.path old.seen)) looked.held.1);
      seen = rw looked.best (All-permutation P (new ∷ others) after.hands (IsPermutation-sym after.hands (new ∷ others) looked.hands.put) (All-cons P new others (at_most_itself (value_in before.best)) rest));
      within = omega (arith, kept.within, looked.budget, ap (λ (rs : List Record). length rs) looked.records, length_permutation before.hands (old ∷ others) looked.hands.taken, length_permutation after.hands (new ∷ others) looked.hands.put);
    }

keeps_offer : (p : ProblemData) (before after : CoreState) (point : List ℕ) → IsFeasible p point → IsKept p before → IsOffered p before point after → IsKept p after
keeps_offer p before after point feasible kept offered =
    let more : IsAtMost (value_in before.best) (value_in after.best) = best_rises p point before.best after.best offered.best in
    record {
      balanced = rw (offered.records, offered.left, offered.hands) kept.balanced;
      found = best_found p point before.best after.best feasible kept.found offered.best;
      right = rw offered.records (All-weaker (λ (done : Record). IsPlainlyRight p (value_in before.best) None done.path done.act) (λ (done : Record). IsPlainlyRight p (value_in after.best) None done.path done.act) (λ done is. plainly_right_more p (value_in before.best) (value_in after.best) None done.path done.act more is) before.records kept.right);
      legal = rw offered.records kept.legal;
      one_each = rw offered.hands kept.one_each;
      seen = rw offered.hands (All-weaker (λ (h : Hand). SeenBelow (value_in before.best) h.seen) (λ (h : Hand). SeenBelow (value_in after.best) h.seen) (λ h below. seen_more (value_in before.best) (value_in after.best) h.seen more below) before.hands kept.seen);
      within = rw (offered.budget, offered.records, offered.hands) kept.within;
    }

-- a node in hand that is recorded, once its act is right
pub record IsDoneWith (p : ProblemData) (before : CoreState) (hand : Hand) (act : Act) (after : CoreState) : Type 0 where
  pub right : IsPlainlyRight p (value_in before.best) None hand.path act
  pub legal : ActIsLegal p act
  pub records : after.records ≡ before.records ++ record { path = hand.path; act = act } ∷ []
  pub to_do : IsPermutation (to_do after.left after.hands) (to_do before.left after.hands ++ children_of hand.path act)

keeps_done : (p : ProblemData) (before after : CoreState) (hand : Hand) (act : Act) → IsKept p before → IsPermutation before.hands (hand ∷ after.hands) → after.budget ≡ before.budget → after.best ≡ before.best → IsDoneWith p before hand act after → IsKept p after
keeps_done p before after hand act kept moved budget best done =
    let new : Record = record { path = hand.path; act = act } in
    let P : Hand → Type 0 = λ (h : Hand). SeenBelow (value_in before.best) h.seen in
    record {
      balanced = rw done.records (rebalance (before.records ++ new ∷ []) (to_do before.left after.hands ++ children_of hand.path act) (to_do after.left after.hands) done.to_do (recorded before.records before.left before.hands after.hands hand act moved kept.balanced));
      found = rw best kept.found;
      right = rw (done.records, best) (All-push (λ (r : Record). IsPlainlyRight p (value_in before.best) None r.path r.act) before.records new kept.right done.right);
      legal = rw done.records (All-push (λ (r : Record). ActIsLegal p r.act) before.records new kept.legal done.legal);
      one_each = λ w. omega (arith, kept.one_each w, one_more w before.hands after.hands hand moved);
      seen = rw best (all_rest P hand after.hands (All-permutation P before.hands (hand ∷ after.hands) moved kept.seen));
      within = omega (arith, kept.within, budget, ap (λ (rs : List Record). length rs) done.records, length_push before.records new, length_permutation before.hands (hand ∷ after.hands) moved);
    }

nothing_more : (before after : List (List Branch)) (hands : List Hand) → after ≡ before → IsPermutation (to_do after hands) (to_do before hands ++ [])
nothing_more before after hands same =
    let here = to_do before hands in
    subst (λ (left : List (List Branch)). IsPermutation (to_do left hands) (here ++ [])) (sym same)
    (subst (λ (paths : List (List Branch)). IsPermutation here paths) (sym (append-nil here)) (IsPermutation-refl here))

children_more : (before after below : List (List Branch)) (hands : List Hand) → IsPermutation after (below ++ before) → IsPermutation (to_do after hands) (to_do before hands ++ below)
children_more before after below hands opened =
    let held = map path_held hands in
    IsPermutation-trans (after ++ held) (below ++ (before ++ held)) ((before ++ held) ++ below)
    (subst (λ (paths : List (List Branch)). IsPermutation (after ++ held) paths) (append_assoc below before held) (IsPermutation-append_left held after (below ++ before) opened))
    (IsPermutation-append_comm below (before ++ held))

-- the value seen for a node in hand is not above the best
pub seen_at_most : (p : ProblemData) (state : CoreState) (hand : Hand) (seen : Option ℤ) → IsKept p state → Contains state.hands hand → hand.seen ≡ Looked seen → IsAtMost seen (value_in state.best)
seen_at_most p state hand seen kept held looked =
    seen_value (value_in state.best) seen hand.seen looked (All-contains (λ (h : Hand). SeenBelow (value_in state.best) h.seen) state.hands hand kept.seen held)

-- the multipliers chosen close the box
closes_chosen : (p : ProblemData) (box : Region) (seen : Option ℤ) (proposal : Proposal) (chosen : Mult) → IsClosed p box seen proposal chosen → Closes p box chosen seen
closes_chosen p box seen proposal chosen (inl proposed) = subst (λ (mult : Mult). Closes p box mult seen) (sym proposed.0) proposed.1
closes_chosen p box seen proposal chosen (inr plainly) = plainly.1.closes

keeps_close : (p : ProblemData) (before after : CoreState) (hand : Hand) (seen : Option ℤ) (proposal : Proposal) → IsKept p before → Contains before.hands hand → hand.seen ≡ Looked seen → IsPermutation before.hands (hand ∷ after.hands) → after.budget ≡ before.budget → after.best ≡ before.best → IsClosedBy p before hand seen proposal after → IsKept p after
keeps_close p before after hand seen proposal kept held looked moved budget best closed =
    keeps_done p before after hand (Closed closed.mult) kept moved budget best (record {
      right = closes_more p (box_at p hand.path) closed.mult seen (value_in before.best) (seen_at_most p before hand seen kept held looked) (closes_chosen p (box_at p hand.path) seen proposal closed.mult closed.closed);
      legal = closed.legal;
      records = closed.records;
      to_do = nothing_more before.left after.left after.hands closed.left;
    })

keeps_split : (p : ProblemData) (before after : CoreState) (hand : Hand) (seen : Option ℤ) (proposal : Proposal) → IsKept p before → IsPermutation before.hands (hand ∷ after.hands) → after.budget ≡ before.budget → after.best ≡ before.best → IsSplitBy p before hand seen proposal after → IsKept p after
keeps_split p before after hand seen proposal kept moved budget best split =
    keeps_done p before after hand (Split split.var split.at proposal.mult) kept moved budget best (record {
      right = (split.splits, plainly_open_none p (box_at p hand.path) seen split.plainly);
      legal = split.legal;
      records = split.records;
      to_do = children_more before.left after.left (children_of hand.path (Split split.var split.at proposal.mult)) after.hands split.left;
    })

keeps_handle : (p : ProblemData) (before after : CoreState) (worker : ℕ) (proposal : Proposal) → IsKept p before → IsRecorded p before worker proposal after → IsKept p after
keeps_handle p before after worker proposal kept recorded = elim recorded.done [
  | inl closed ↦ keeps_close p before after recorded.hand recorded.seen proposal kept recorded.held.0 recorded.looked recorded.hands recorded.budget recorded.best closed
  | inr split ↦ keeps_split p before after recorded.hand recorded.seen proposal kept recorded.hands recorded.budget recorded.best split
]

keeps_drop : (p : ProblemData) (before after : CoreState) (worker : ℕ) → IsKept p before → IsDropped before worker after → IsKept p after
keeps_drop p before after worker kept dropped =
    let hand = dropped.hand in
    let P : Hand → Type 0 = λ (h : Hand). SeenBelow (value_in before.best) h.seen in
    record {
      balanced = rw dropped.records (rebalance before.records (to_do before.left before.hands) (to_do after.left after.hands) (IsPermutation-sym (to_do before.left before.hands) (to_do after.left after.hands) (moves_over after.left before.left after.hands before.hands hand dropped.left dropped.hands)) kept.balanced);
      found = rw dropped.best kept.found;
      right = rw (dropped.records, dropped.best) kept.right;
      legal = rw dropped.records kept.legal;
      one_each = λ w. omega (arith, kept.one_each w, one_more w before.hands after.hands hand dropped.hands);
      seen = rw dropped.best (all_rest P hand after.hands (All-permutation P before.hands (hand ∷ after.hands) dropped.hands kept.seen));
      within = omega (arith, kept.within, dropped.budget, ap (λ (rs : List Record). length rs) dropped.records, length_permutation before.hands (hand ∷ after.hands) dropped.hands);
    }

pub keeps_event : (p : ProblemData) (before after : CoreState) (event : Event) → IsEnabled p before event → IsKept p before → Performs p before event after → IsKept p after
keeps_event p before after (Take worker path) enabled kept performs = keeps_take p before after worker path enabled.1 enabled.2 kept performs
keeps_event p before after (Look worker) enabled kept performs = keeps_look p before after worker kept performs
keeps_event p before after (Handle worker proposal) enabled kept performs = keeps_handle p before after worker proposal kept performs
keeps_event p before after (Offer worker point) enabled kept performs = keeps_offer p before after point enabled kept performs
keeps_event p before after (Drop worker) enabled kept performs = keeps_drop p before after worker kept performs

pub keeps_step : (p : ProblemData) (before after : CoreState) (event : Event) (outcome : Stepped) → IsKept p before → Steps p before event outcome after → IsKept p after
keeps_step p before after event Done kept steps = keeps_event p before after event steps.0 kept steps.1
keeps_step p before after event NotEnabled kept steps = subst (IsKept p) (sym steps.1) kept

pub keeps_run : (p : ProblemData) (before after : CoreState) (events : List Event) → IsKept p before → Runs p before events after → IsKept p after
keeps_run p before after [] kept runs = subst (IsKept p) (sym runs) kept
keeps_run p before after (event ∷ events) kept runs = keeps_run p runs.1 after events (keeps_step p before runs.1 event runs.0 kept runs.2) runs.3

-- after a call that may have run out of memory
pub keeps_call : {E : Type 0} (p : ProblemData) (before after : CoreState) (event : Event) (result : Result Stepped E) → IsKept p before → IfOk result (λ (outcome : Stepped). Steps p before event outcome after) → OnErr result (after ≡ before) → IsKept p after
keeps_call p before after event (Ok outcome) kept steps same = keeps_step p before after event outcome kept steps
keeps_call p before after event (Err error) kept steps same = subst (IsKept p) (sym same) kept
