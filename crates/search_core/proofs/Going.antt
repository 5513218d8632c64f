-- How one worker's calls make events.
use Rattle.std.proofs.Common.{◌≡◌, ℕ, zero, suc, ◌+◌, ◌<◌, ◌≤◌, List, [], ◌∷◌, ◌++◌, length, replicate, refl, sym, ap, subst, ◌∙◌, arith, inl, inr, IsPermutation, Contains}
use Rattle.std.specs.Prelude.{ℤ, Option, Some, slice_get, slice_index_or, ◌⊎◌}
use Rattle.std.proofs.lemmas.Int.{ints}
use Rattle.std.proofs.lemmas.List.{get_or-replicate, length_push, length-replicate}
use Rattle.std.proofs.lemmas.List.Sorted.{IsPermutation-sym, Contains-permutation, length_permutation}
use Rattle.std.proofs.lemmas.Option.{slice_get-get_or}
use Rattle.lin_bound.specs.Sums.{nat_at}
use Rattle.lin_bound.specs.Problem.{ProblemData, variables, row_count, cost_at, IsLegal, IsFeasible}
use Rattle.lin_bound.specs.Box.{whole_box, half, cut, box_at, AllSplit, IsRegion, IsOnePoint}
use Rattle.lin_bound.specs.Bound.{Closes, plain}
use Rattle.lin_bound.specs.Laws.{NotAbove}
use Rattle.lin_bound.specs.declared.region.Region.{Region}
use Rattle.lin_bound.specs.declared.path.Branch.{Branch}
use Rattle.lin_bound.proofs.OnePoint.{bound_of_cost}
use Rattle.lin_bound.proofs.Halves.{halves_cover}
use Rattle.cert_tree.specs.declared.records.Record.{Record}
use Rattle.search_core.specs.Boxes.{HasNoRoom, IsOpenBelow}
use Rattle.search_core.specs.Search.{Found, value_in}
use Rattle.search_core.specs.Nodes.{IsBetter}
use Rattle.search_core.specs.Moves.{IsLowOf}
use Rattle.search_core.specs.Core.{CoreState, begun, IsBusy, IsClosable, HasMore, IsReady, Outcome, in_hand, IsTaken, IsLooked, IsBestOf, IsOffered, IsRecorded, Runs}
use Rattle.search_core.specs.Kept.{IsKept}
use Rattle.search_core.specs.Solo.{Reaches, IsAlone, IsBegun, IsAllOffered, IsInformed, IsAdvanced}
use Rattle.simplex_proposer.specs.declared.proposal.Proposal.{Proposal}
use Rattle.search_core.specs.declared.event.Hand.{Hand}
use Rattle.search_core.specs.declared.event.Seen.TheVariants.{NotLooked, Looked}
use Rattle.search_core.specs.declared.event.Event.{Event}
use Rattle.search_core.specs.declared.event.Event.TheVariants.{Take, Look, Handle, Offer}
use Rattle.search_core.specs.declared.event.Stepped.{Stepped}
use Rattle.search_core.specs.declared.event.Stepped.TheVariants.{Done, NotEnabled}
use Rattle.search_core.proofs.Nodes.{is_better, above_not_below}
use Rattle.search_core.proofs.Handling.{hand_path}
use Rattle.search_core.proofs.Keeping.{keeps_run}

-- what is enabled is done
pub done_if : (E P U : Type 0) (outcome : Stepped) → Outcome E P U outcome → E → P
done_if E P U Done steps enabled = steps.1
done_if E P U NotEnabled steps enabled = absurd (steps.0 enabled)

-- events after events
pub runs_then : (p : ProblemData) (before middle after : CoreState) (first second : List Event) → Runs p before first middle → Runs p middle second after → Runs p before (first ++ second) after
runs_then p before middle after [] second one two = subst (λ (s : CoreState). Runs p s second after) one two
runs_then p before middle after (event ∷ first) second one two = (one.0, one.1, one.2, runs_then p one.1 middle after first second one.3 two)

pub reaches_then : (p : ProblemData) (before middle after : CoreState) → Reaches p before middle → Reaches p middle after → Reaches p before after
reaches_then p before middle after one two = (one.0 ++ two.0, runs_then p before middle after one.0 two.0 one.1 two.1)

none_of : {X : Type 0} (xs : List X) → length xs ≡ 0 → xs ≡ []
none_of [] none = refl
none_of (x ∷ xs) none = absurd (omega (arith, none))

first_of : {X : Type 0} (xs rest : List X) (x : X) → IsPermutation xs (x ∷ rest) → Contains xs x
first_of xs rest x moved = Contains-permutation (x ∷ rest) xs x (IsPermutation-sym xs (x ∷ rest) moved) (0, omega arith, refl)

first_alone : (one other : Hand) (place : ℕ) → place < 1 → slice_index_or (one ∷ []) place other ≡ other → one ≡ other
first_alone one other zero within is = is
first_alone one other (suc place) within is = absurd (omega (arith, within))

not_less : (a b : ℕ) → ¬ (a < b) → b ≤ a
not_less a b above = omega (arith, above)

only_hand : (hands : List Hand) (one other : Hand) → IsPermutation hands (one ∷ []) → Contains hands other → one ≡ other
only_hand hands one other only found =
    let there = Contains-permutation hands (one ∷ []) other only found in
    first_alone one other there.0 there.1 there.2

nobody_busy : (hands : List Hand) (worker : ℕ) → hands ≡ [] → ¬ IsBusy hands worker
nobody_busy hands worker none busy =
    let found : Contains [] busy.0 = subst (λ (hs : List Hand). Contains hs busy.0) none busy.1.0 in
    absurd (omega (arith, found.1))

-- a path is taken, and the best value looked at
pub begins : (before middle after : CoreState) (path : List Branch) (outcome : Stepped) → before.hands ≡ [] → begun before < before.budget → IsTaken before 0 path middle → Outcome (IsBusy middle.hands 0) (IsLooked middle 0 after) (after ≡ middle) outcome → IsBegun before after
begins before middle after path outcome idle room taken looks =
    let hand = in_hand 0 path NotLooked in
    let busy : IsBusy middle.hands 0 = (hand, (first_of middle.hands before.hands hand taken.hands, refl)) in
    let looked : IsLooked middle 0 after = done_if _ _ _ outcome looks busy in
    let new = in_hand 0 looked.hand.path (Looked (value_in middle.best)) in
    let none : looked.hands.others ≡ [] = none_of looked.hands.others (omega (arith, length_permutation middle.hands (hand ∷ before.hands) taken.hands, ap (λ (hs : List Hand). length hs) idle, length_permutation middle.hands (looked.hand ∷ looked.hands.others) looked.hands.taken)) in
    record {
      reaches = λ p. (Take 0 path ∷ (Look 0 ∷ []), (Done, middle, ((first_of before.left middle.left path taken.left, nobody_busy before.hands 0 idle, room), taken), (outcome, after, looks, refl)));
      alone = record {
        hand = new;
        only = subst (λ (hs : List Hand). IsPermutation after.hands (new ∷ hs)) none looked.hands.put;
        worker = refl;
        looked = ap (λ (best : Option Found). Looked (value_in best)) (sym looked.best);
      };
      budget = looked.budget ∙ taken.budget;
      records = looked.records ∙ taken.records;
    }

-- the box of a path is a box of the problem
whole_region : (p : ProblemData) → IsLegal p → IsRegion p (whole_box p)
whole_region p legal = record {
  low_each = length-replicate (variables p) 0;
  high_each = legal.upper_each;
  ordered = λ i h. let none : nat_at (replicate (variables p) 0) i ≡ 0 = get_or-replicate (variables p) i 0 0 h in omega (arith, none);
  within = λ i h. omega arith;
}

cut_region : (p : ProblemData) (path : List Branch) (box : Region) → IsRegion p box → AllSplit box path → IsRegion p (cut box path)
cut_region p [] box region splits = region
cut_region p (branch ∷ path) box region splits = cut_region p path (half branch box) (halves_cover p box branch region splits.0).region splits.1

-- a node that is stuck is a better point
stuck_better : (p : ProblemData) (state : CoreState) (proposal : Proposal) → IsLegal p → IsKept p state → (alone : IsAlone state) → ¬ IsReady p state 0 proposal → IsBetter p (box_at p alone.hand.path) (value_in state.best)
stuck_better p state proposal legal kept alone stuck =
    let hand = alone.hand in
    let box = box_at p hand.path in
    let found = first_of state.hands [] hand alone.only in
    let there : slice_get state.hands found.0 ≡ Some hand = slice_get-get_or state.hands found.0 hand found.1 ∙ ap Some found.2 in
    let region : IsRegion p box = cut_region p hand.path (whole_box p) (whole_region p legal) (hand_path p state found.0 hand kept there) in
    let unable : ¬ (IsClosable p box (value_in state.best) proposal ⊎ HasMore p box) = λ able. stuck (record { hand = hand; seen = value_in state.best; held = (found, alone.worker); looked = alone.looked; able = able }) in
    let opened : IsOpenBelow p box (value_in state.best) (row_count p + 1) = λ number h closes. unable (inl (inr (number, omega (arith, h), closes))) in
    let narrow : HasNoRoom box = λ i h. not_less (nat_at box.low i) (nat_at box.high i) (λ less. unable (inr (i, omega (arith, h, region.low_each), less))) in
    is_better p box (value_in state.best) region opened narrow

-- once its point was offered, it is closed by the cost alone
closes_own : (p : ProblemData) (box : Region) → IsOnePoint p box → Closes p box (plain p 0) (Some (cost_at p box.low))
closes_own p box one = omega (arith, ints, bound_of_cost p box one)

offered_best : (p : ProblemData) (point : List ℕ) (before after : Option Found) (box : Region) → point ≡ box.low → IsBetter p box (value_in before) → IsBestOf p point before after → after ≡ Some (cost_at p point, point)
offered_best p point before after box is better best = elim best [
  | inl above ↦ above.1
  | inr same ↦ absurd (above_not_below p box.low (value_in before) better.above (subst (λ (x : List ℕ). NotAbove p x (value_in before)) is same.0))
]

one_more_record : (p : ProblemData) (before after : CoreState) (proposal : Proposal) → IsRecorded p before 0 proposal after → length after.records ≡ length before.records + 1
one_more_record p before after proposal recorded = elim recorded.done [
  | inl closed ↦ ap (λ (rs : List Record). length rs) closed.records ∙ length_push before.records _
  | inr split ↦ ap (λ (rs : List Record). length rs) split.records ∙ length_push before.records _
]

-- the point of a stuck node is offered, and the node closed
pub closes_better : (p : ProblemData) (one two three four : CoreState) (proposal : Proposal) (point : List ℕ) (offers looks handles : Stepped) → IsLegal p → IsKept p one → IsAlone one → ¬ IsReady p one 0 proposal → IsLowOf p one 0 point → Outcome (IsFeasible p point) (IsOffered p one point two) (two ≡ one) offers → Outcome (IsBusy two.hands 0) (IsLooked two 0 three) (three ≡ two) looks → Outcome (IsReady p three 0 proposal) (IsRecorded p three 0 proposal four) (four ≡ three) handles → IsAdvanced p one four
closes_better p one two three four proposal point offers looks handles legal kept alone stuck low offer look handle =
    let hand = alone.hand in
    let box = box_at p hand.path in
    let better = stuck_better p one proposal legal kept alone stuck in
    let point_is : point ≡ box.low = low hand (value_in one.best) (first_of one.hands [] hand alone.only, alone.worker) alone.looked in
    let offered : IsOffered p one point two = done_if _ _ _ offers offer (rw point_is better.feasible) in
    let best : two.best ≡ Some (cost_at p point, point) = offered_best p point one.best two.best box point_is better offered.best in
    let only : IsPermutation two.hands (hand ∷ []) = rw offered.hands alone.only in
    let found = first_of two.hands [] hand only in
    let looked : IsLooked two 0 three = done_if _ _ _ looks look (hand, (found, alone.worker)) in
    let same : hand ≡ looked.hand = only_hand two.hands hand looked.hand only looked.held.0 in
    let new = in_hand 0 looked.hand.path (Looked (value_in two.best)) in
    let value : value_in two.best ≡ Some (cost_at p box.low) = ap value_in best ∙ ap (λ (x : List ℕ). Some (cost_at p x)) point_is in
    let closes : Closes p (box_at p looked.hand.path) (plain p 0) (value_in two.best) = subst (λ (h : Hand). Closes p (box_at p h.path) (plain p 0) (value_in two.best)) same (subst (λ (v : Option ℤ). Closes p box (plain p 0) v) (sym value) (closes_own p box better.one)) in
    let recorded : IsRecorded p three 0 proposal four = done_if _ _ _ handles handle (record { hand = new; seen = value_in two.best; held = (first_of three.hands looked.hands.others new looked.hands.put, refl); looked = refl; able = inl (inr (0, omega arith, closes)) }) in
    record {
      reaches = (Offer 0 point ∷ (Look 0 ∷ (Handle 0 proposal ∷ [])), (offers, two, offer, (looks, three, look, (handles, four, handle, refl))));
      idle = none_of four.hands (omega (arith, length_permutation two.hands (hand ∷ []) only, length_permutation two.hands (looked.hand ∷ looked.hands.others) looked.hands.taken, length_permutation three.hands (new ∷ looked.hands.others) looked.hands.put, length_permutation three.hands (recorded.hand ∷ four.hands) recorded.hands));
      budget = recorded.budget ∙ (looked.budget ∙ offered.budget);
      more = one_more_record p three four proposal recorded ∙ ap (λ (rs : List Record). length rs + 1) (looked.records ∙ offered.records);
    }

-- one more point is offered
pub offers_more : (p : ProblemData) (before middle after : CoreState) (point : List ℕ) (outcome : Stepped) → IsAllOffered p before middle → Outcome (IsFeasible p point) (IsOffered p middle point after) (after ≡ middle) outcome → IsAllOffered p before after
offers_more p before middle after point Done all steps = record {
  reaches = reaches_then p before middle after all.reaches (Offer 0 point ∷ [], (Done, after, steps, refl));
  hands = steps.1.hands ∙ all.hands;
  budget = steps.1.budget ∙ all.budget;
  records = steps.1.records ∙ all.records;
}
offers_more p before middle after point NotEnabled all steps = subst (IsAllOffered p before) (sym steps.1) all

-- and the best value is looked at for the same node
pub informs : (p : ProblemData) (before middle after : CoreState) (outcome : Stepped) → IsAlone before → IsAllOffered p before middle → Outcome (IsBusy middle.hands 0) (IsLooked middle 0 after) (after ≡ middle) outcome → IsInformed p before after
informs p before middle after outcome alone all looks =
    let hand = alone.hand in
    let only : IsPermutation middle.hands (hand ∷ []) = rw all.hands alone.only in
    let found = first_of middle.hands [] hand only in
    let looked : IsLooked middle 0 after = done_if _ _ _ outcome looks (hand, (found, alone.worker)) in
    let same : hand ≡ looked.hand = only_hand middle.hands hand looked.hand only looked.held.0 in
    let new = in_hand 0 looked.hand.path (Looked (value_in middle.best)) in
    let none : looked.hands.others ≡ [] = none_of looked.hands.others (omega (arith, length_permutation middle.hands (hand ∷ []) only, length_permutation middle.hands (looked.hand ∷ looked.hands.others) looked.hands.taken)) in
    let last : IsPermutation after.hands (new ∷ []) = subst (λ (hs : List Hand). IsPermutation after.hands (new ∷ hs)) none looked.hands.put in
    record {
      reaches = reaches_then p before middle after all.reaches (Look 0 ∷ [], (outcome, after, looks, refl));
      alone = record {
        hand = new;
        only = last;
        worker = refl;
        looked = ap (λ (best : Option Found). Looked (value_in best)) (sym looked.best);
      };
      same = λ box is other held.
          subst (λ (h : Hand). box ≡ box_at p h.path) (only_hand after.hands new other last held.0)
          (subst (λ (h : Hand). box ≡ box_at p h.path) same (is hand (first_of before.hands [] hand alone.only, alone.worker)));
      budget = looked.budget ∙ all.budget;
      records = looked.records ∙ all.records;
    }

-- so far a node was begun, or points were offered for it
pub record IsAtNode (p : ProblemData) (before after : CoreState) : Type 0 where
  pub reaches : Reaches p before after
  pub alone : IsAlone after
  pub budget : after.budget ≡ before.budget
  pub records : after.records ≡ before.records

pub at_begun : (p : ProblemData) (before after : CoreState) → IsBegun before after → IsAtNode p before after
at_begun p before after begins = record { reaches = begins.reaches p; alone = begins.alone; budget = begins.budget; records = begins.records }

pub at_informed : (p : ProblemData) (before after : CoreState) → IsInformed p before after → IsAtNode p before after
at_informed p before after informed = record { reaches = informed.reaches; alone = informed.alone; budget = informed.budget; records = informed.records }

-- it is handled
pub handles_node : (p : ProblemData) (before middle after : CoreState) (proposal : Proposal) → IsAtNode p before middle → Outcome (IsReady p middle 0 proposal) (IsRecorded p middle 0 proposal after) (after ≡ middle) Done → IsAdvanced p before after
handles_node p before middle after proposal node steps =
    let recorded : IsRecorded p middle 0 proposal after = steps.1 in
    record {
      reaches = reaches_then p before middle after node.reaches (Handle 0 proposal ∷ [], (Done, after, steps, refl));
      idle = none_of after.hands (omega (arith, length_permutation middle.hands (node.alone.hand ∷ []) node.alone.only, length_permutation middle.hands (recorded.hand ∷ after.hands) recorded.hands));
      budget = recorded.budget ∙ node.budget;
      more = one_more_record p middle after proposal recorded ∙ ap (λ (rs : List Record). length rs + 1) node.records;
    }

-- or it is stuck, and goes on from there
pub goes_on : (p : ProblemData) (before middle after : CoreState) → IsAtNode p before middle → IsAdvanced p middle after → IsAdvanced p before after
goes_on p before middle after node advances = record {
  reaches = reaches_then p before middle after node.reaches advances.reaches;
  idle = advances.idle;
  budget = advances.budget ∙ node.budget;
  more = advances.more ∙ ap (λ (rs : List Record). length rs + 1) node.records;
}

-- what holds of a search is kept by these calls
pub keeps_node : (p : ProblemData) (before after : CoreState) → IsKept p before → IsAtNode p before after → IsKept p after
keeps_node p before after kept node = keeps_run p before after node.reaches.0 kept node.reaches.1

pub keeps_offer_look : (p : ProblemData) (before middle after : CoreState) (point : List ℕ) (offers looks : Stepped) → IsKept p before → Outcome (IsFeasible p point) (IsOffered p before point middle) (middle ≡ before) offers → Outcome (IsBusy middle.hands 0) (IsLooked middle 0 after) (after ≡ middle) looks → IsKept p after
keeps_offer_look p before middle after point offers looks kept offer look =
    keeps_run p before after (Offer 0 point ∷ (Look 0 ∷ [])) kept (offers, middle, offer, (looks, after, look, refl))

pub alone_busy : (state : CoreState) → IsAlone state → IsBusy state.hands 0
alone_busy state alone = (alone.hand, (first_of state.hands [] alone.hand alone.only, alone.worker))
