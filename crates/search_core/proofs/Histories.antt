-- What a list of events tells of the best point and of the splits.
use Rattle.std.proofs.Common.{◌≡◌, ℕ, zero, suc, List, [], ◌∷◌, ◌++◌, refl, sym, ap, subst, ◌∙◌, arith, inl, inr, Contains}
use Rattle.std.specs.Prelude.{ℤ, Option, None, Some, ◌⊎◌}
use Rattle.std.proofs.lemmas.Int.{ints}
use Rattle.std.proofs.lemmas.List.Elements.{Contains-push_cases}
use Rattle.lin_bound.specs.Problem.{ProblemData, cost_at, IsFeasible}
use Rattle.lin_bound.specs.Box.{box_at}
use Rattle.lin_bound.specs.Laws.{NotAbove}
use Rattle.lin_bound.specs.declared.path.Branch.{Branch}
use Rattle.lin_bound.specs.declared.mult.Mult.{Mult}
use Rattle.cert_tree.specs.declared.records.Act.TheVariants.{Closed, Split}
use Rattle.cert_tree.specs.declared.records.Record.{Record}
use Rattle.cert_tree.specs.Values.{IsAtMost}
use Rattle.cert_tree.specs.Partial.{PlainlyOpen}
use Rattle.search_core.specs.Search.{Found, value_in}
use Rattle.search_core.specs.Core.{CoreState, Holds, IsRecorded, IsBestOf, Performs, IsEnabled, Steps, Runs}
use Rattle.search_core.specs.Runs.{BestIsOffered, WasOpen, SplitsWereOpen}
use Rattle.simplex_proposer.specs.declared.proposal.Proposal.{Proposal}
use Rattle.search_core.specs.declared.event.Hand.{Hand}
use Rattle.search_core.specs.declared.event.Seen.TheVariants.{Looked}
use Rattle.search_core.specs.declared.event.Event.{Event}
use Rattle.search_core.specs.declared.event.Event.TheVariants.{Take, Look, Handle, Offer, Drop}
use Rattle.search_core.specs.declared.event.Stepped.{Stepped}
use Rattle.search_core.specs.declared.event.Stepped.TheVariants.{Done, NotEnabled}
use Rattle.search_core.proofs.Keeping.{at_most_itself, at_most_then, best_rises}

-- the first, or one of the others
first_or_other : {X : Type 0} (one other : X) (xs : List X) → Contains (one ∷ xs) other → (one ≡ other) ⊎ Contains xs other
first_or_other one other xs (zero, within, is) = inl is
first_or_other one other xs (suc place, within, is) = inr (place, omega (arith, within), is)

later : {X : Type 0} (one other : X) (xs : List X) → Contains xs other → Contains (one ∷ xs) other
later one other xs found = (suc found.0, omega (arith, found.1), found.2)

-- what an event does to the best
abbrev best_with : ProblemData → List ℕ → Option Found
best_with p point = Some (cost_at p point, point)

abbrev BestStep : ProblemData → CoreState → Event → CoreState → Type 0
BestStep p before event after = (after.best ≡ before.best) ⊎ ((worker : ℕ) × (point : List ℕ) × (event ≡ Offer worker point) × IsFeasible p point × (after.best ≡ best_with p point))

best_of : (p : ProblemData) (before after : CoreState) (worker : ℕ) (point : List ℕ) → IsFeasible p point → IsBestOf p point before.best after.best → BestStep p before (Offer worker point) after
best_of p before after worker point feasible best = elim best [
  | inl better ↦ inr (worker, point, refl, feasible, better.1)
  | inr same ↦ inl same.1
]

best_event : (p : ProblemData) (before after : CoreState) (event : Event) → IsEnabled p before event → Performs p before event after → BestStep p before event after
best_event p before after (Take worker path) enabled performs = inl performs.best
best_event p before after (Look worker) enabled performs = inl performs.best
best_event p before after (Handle worker proposal) enabled performs = inl performs.best
best_event p before after (Offer worker point) enabled performs = best_of p before after worker point enabled performs.best
best_event p before after (Drop worker) enabled performs = inl performs.best

best_step : (p : ProblemData) (before after : CoreState) (event : Event) (outcome : Stepped) → Steps p before event outcome after → BestStep p before event after
best_step p before after event Done steps = best_event p before after event steps.0 steps.1
best_step p before after event NotEnabled steps = inl (ap (λ (s : CoreState). s.best) steps.1)

same_at_most : (one other : Option Found) → other ≡ one → IsAtMost (value_in one) (value_in other)
same_at_most one other same = subst (λ (o : Option Found). IsAtMost (value_in one) (value_in o)) (sym same) (at_most_itself (value_in one))

rises_event : (p : ProblemData) (before after : CoreState) (event : Event) → Performs p before event after → IsAtMost (value_in before.best) (value_in after.best)
rises_event p before after (Take worker path) performs = same_at_most before.best after.best performs.best
rises_event p before after (Look worker) performs = same_at_most before.best after.best performs.best
rises_event p before after (Handle worker proposal) performs = same_at_most before.best after.best performs.best
rises_event p before after (Offer worker point) performs = best_rises p point before.best after.best performs.best
rises_event p before after (Drop worker) performs = same_at_most before.best after.best performs.best

rises_step : (p : ProblemData) (before after : CoreState) (event : Event) (outcome : Stepped) → Steps p before event outcome after → IsAtMost (value_in before.best) (value_in after.best)
rises_step p before after event Done steps = rises_event p before after event steps.1
rises_step p before after event NotEnabled steps = same_at_most before.best after.best (ap (λ (s : CoreState). s.best) steps.1)

rises_run : (p : ProblemData) (before after : CoreState) (events : List Event) → Runs p before events after → IsAtMost (value_in before.best) (value_in after.best)
rises_run p before after [] runs = same_at_most before.best after.best (ap (λ (s : CoreState). s.best) runs)
rises_run p before after (event ∷ events) runs =
    at_most_then (value_in before.best) (value_in runs.1.best) (value_in after.best) (rises_step p before runs.1 event runs.0 runs.2) (rises_run p runs.1 after events runs.3)

-- an offered point is not above the best after it
not_above_more : (p : ProblemData) (point : List ℕ) (value most : Option ℤ) → IsAtMost value most → NotAbove p point value → NotAbove p point most
not_above_more p point None most more below = absurd below
not_above_more p point (Some value) None more below = more
not_above_more p point (Some value) (Some most) more below = omega (arith, ints, more, below)

not_above_itself : (p : ProblemData) (point : List ℕ) → NotAbove p point (Some (cost_at p point))
not_above_itself p point = omega (arith, ints)

best_covers : (p : ProblemData) (point : List ℕ) (before after : Option Found) → IsBestOf p point before after → NotAbove p point (value_in after)
best_covers p point before after best = elim best [
  | inl better ↦ subst (λ (o : Option Found). NotAbove p point (value_in o)) (sym better.1) (not_above_itself p point)
  | inr same ↦ subst (λ (o : Option Found). NotAbove p point (value_in o)) (sym same.1) same.0
]

offer_covers : (p : ProblemData) (before after : CoreState) (worker : ℕ) (point : List ℕ) (outcome : Stepped) → IsFeasible p point → Steps p before (Offer worker point) outcome after → NotAbove p point (value_in after.best)
offer_covers p before after worker point Done feasible steps = best_covers p point before.best after.best steps.1.best
offer_covers p before after worker point NotEnabled feasible steps = absurd (steps.0 feasible)

pub best_is_offered : BestIsOffered
best_is_offered p before after [] runs = record {
  offered = inl (ap (λ (s : CoreState). s.best) runs);
  greatest = λ point offered. absurd (omega (arith, offered.1.1.1));
}
best_is_offered p before after (event ∷ events) runs =
    let middle : CoreState = runs.1 in
    let rest = best_is_offered p middle after events runs.3 in
    record {
      offered = elim rest.offered [
        | inl same ↦ elim (best_step p before middle event runs.0 runs.2) [
          | inl kept ↦ inl (same ∙ kept)
          | inr offer ↦ inr (offer.1, (offer.3, (offer.0, (0, omega arith, offer.2))), same ∙ offer.4)
        ]
        | inr offer ↦ inr (offer.0, (offer.1.0, (offer.1.1.0, later event (Offer offer.1.1.0 offer.0) events offer.1.1.1)), offer.2)
      ];
      greatest = λ point offered.
          elim (first_or_other event (Offer offered.1.0 point) events offered.1.1) [
            | inl here ↦ not_above_more p point (value_in middle.best) (value_in after.best) (rises_run p middle after events runs.3)
                (offer_covers p before middle offered.1.0 point runs.0 offered.0 (subst (λ (e : Event). Steps p before e runs.0 middle) here runs.2))
            | inr there ↦ rest.greatest point (offered.0, (offered.1.0, there))
          ];
    }

-- a record that an event makes was there before, or the event split the box of a node in hand
abbrev split_at : List Branch → ℕ → ℕ → Mult → Record
split_at path var at mult = record { path = path; act = Split var at mult }

record IsSplitNow (p : ProblemData) (before : CoreState) (event : Event) (after : CoreState) (path : List Branch) (var at : ℕ) (mult : Mult) : Type 0 where
  pub worker : ℕ
  pub proposal : Proposal
  pub event_is : event ≡ Handle worker proposal
  pub mult_is : mult ≡ proposal.mult
  pub hand : Hand
  pub held : Holds before.hands worker hand
  pub path_is : hand.path ≡ path
  pub seen : Option ℤ
  pub looked : hand.seen ≡ Looked seen
  pub plainly : PlainlyOpen p (box_at p path) seen
  pub made : after.records ≡ before.records ++ split_at path var at mult ∷ []

not_closed : (mult : Mult) (var at : ℕ) (other : Mult) → Closed mult ≡ Split var at other → ⊥
not_closed mult var at other same = cc

same_mult : (var at var' at' : ℕ) (mult other : Mult) → Split var at mult ≡ Split var' at' other → mult ≡ other
same_mult var at var' at' mult other same = cc

from_record : (p : ProblemData) (before after : CoreState) (worker : ℕ) (proposal : Proposal) (path : List Branch) (var at : ℕ) (mult : Mult) → IsRecorded p before worker proposal after → Contains after.records (split_at path var at mult) → Contains before.records (split_at path var at mult) ⊎ IsSplitNow p before (Handle worker proposal) after path var at mult
from_record p before after worker proposal path var at mult recorded found =
    let done = split_at path var at mult in
    elim recorded.done [
      | inl closed ↦ elim (Contains-push_cases before.records (record { path = recorded.hand.path; act = Closed closed.mult }) done (subst (λ (rs : List Record). Contains rs done) closed.records found)) [
        | inl stood ↦ inl stood
        | inr same ↦ absurd (not_closed closed.mult var at mult (ap (λ (r : Record). r.act) same))
      ]
      | inr split ↦ elim (Contains-push_cases before.records (record { path = recorded.hand.path; act = Split split.var split.at proposal.mult }) done (subst (λ (rs : List Record). Contains rs done) split.records found)) [
        | inl stood ↦ inl stood
        | inr same ↦
            let path_is : recorded.hand.path ≡ path = ap (λ (r : Record). r.path) same in
            inr (record {
              worker = worker;
              proposal = proposal;
              event_is = refl;
              mult_is = sym (same_mult split.var split.at var at proposal.mult mult (ap (λ (r : Record). r.act) same));
              hand = recorded.hand;
              held = recorded.held;
              path_is = path_is;
              seen = recorded.seen;
              looked = recorded.looked;
              plainly = subst (λ (some : List Branch). PlainlyOpen p (box_at p some) recorded.seen) path_is split.plainly;
              made = split.records ∙ ap (λ (r : Record). before.records ++ r ∷ []) same;
            })
      ]
    ]

stands : (records other : List Record) (done : Record) → other ≡ records → Contains other done → Contains records done
stands records other done same found = subst (λ (rs : List Record). Contains rs done) same found

from_event : (p : ProblemData) (before after : CoreState) (event : Event) (path : List Branch) (var at : ℕ) (mult : Mult) → Performs p before event after → Contains after.records (split_at path var at mult) → Contains before.records (split_at path var at mult) ⊎ IsSplitNow p before event after path var at mult
from_event p before after (Take worker taken) path var at mult performs found = inl (stands before.records after.records (split_at path var at mult) performs.records found)
from_event p before after (Look worker) path var at mult performs found = inl (stands before.records after.records (split_at path var at mult) performs.records found)
from_event p before after (Handle worker proposal) path var at mult performs found = from_record p before after worker proposal path var at mult performs found
from_event p before after (Offer worker point) path var at mult performs found = inl (stands before.records after.records (split_at path var at mult) performs.records found)
from_event p before after (Drop worker) path var at mult performs found = inl (stands before.records after.records (split_at path var at mult) performs.records found)

-- the event that made the record comes first
now : (p : ProblemData) (before middle after : CoreState) (event : Event) (events : List Event) (path : List Branch) (var at : ℕ) (mult : Mult) → IsEnabled p before event → Performs p before event middle → Runs p middle events after → IsSplitNow p before event middle path var at mult → WasOpen p before after (event ∷ events) path var at mult
now p before middle after event events path var at mult enabled performs runs here = record {
  past = [];
  worker = here.worker;
  proposal = here.proposal;
  later = events;
  whole = ap (λ (e : Event). e ∷ events) here.event_is;
  mult_is = here.mult_is;
  moment = before;
  next = middle;
  reached = refl;
  enabled = subst (IsEnabled p before) here.event_is enabled;
  performed = subst (λ (e : Event). Performs p before e middle) here.event_is performs;
  onward = runs;
  hand = here.hand;
  held = here.held;
  path_is = here.path_is;
  seen = here.seen;
  looked = here.looked;
  plainly = here.plainly;
  made = here.made;
}

from_step : (p : ProblemData) (before middle after : CoreState) (event : Event) (events : List Event) (outcome : Stepped) (path : List Branch) (var at : ℕ) (mult : Mult) → Steps p before event outcome middle → Runs p middle events after → Contains middle.records (split_at path var at mult) → Contains before.records (split_at path var at mult) ⊎ WasOpen p before after (event ∷ events) path var at mult
from_step p before middle after event events Done path var at mult steps runs found = elim (from_event p before middle event path var at mult steps.1 found) [
  | inl stood ↦ inl stood
  | inr here ↦ inr (now p before middle after event events path var at mult steps.0 steps.1 runs here)
]
from_step p before middle after event events NotEnabled path var at mult steps runs found = inl (subst (λ (s : CoreState). Contains s.records (split_at path var at mult)) steps.1 found)

-- what was open with fewer events before it was open with one more
sooner : (p : ProblemData) (before middle after : CoreState) (event : Event) (events : List Event) (outcome : Stepped) (path : List Branch) (var at : ℕ) (mult : Mult) → Steps p before event outcome middle → WasOpen p middle after events path var at mult → WasOpen p before after (event ∷ events) path var at mult
sooner p before middle after event events outcome path var at mult steps was = record {
  past = event ∷ was.past;
  worker = was.worker;
  proposal = was.proposal;
  later = was.later;
  whole = ap (λ (rest : List Event). event ∷ rest) was.whole;
  mult_is = was.mult_is;
  moment = was.moment;
  next = was.next;
  reached = (outcome, middle, steps, was.reached);
  enabled = was.enabled;
  performed = was.performed;
  onward = was.onward;
  hand = was.hand;
  held = was.held;
  path_is = was.path_is;
  seen = was.seen;
  looked = was.looked;
  plainly = was.plainly;
  made = was.made;
}

pub splits_were_open : SplitsWereOpen
splits_were_open p before after [] path var at mult runs found = inl (subst (λ (s : CoreState). Contains s.records (split_at path var at mult)) runs found)
splits_were_open p before after (event ∷ events) path var at mult runs found =
    let middle : CoreState = runs.1 in
    elim (splits_were_open p middle after events path var at mult runs.3 found) [
      | inr was ↦ inr (sooner p before middle after event events runs.0 path var at mult runs.2 was)
      | inl there ↦ from_step p before middle after event events runs.0 path var at mult runs.2 runs.3 there
    ]
