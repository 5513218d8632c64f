-- Lemmas on the versions that a store keeps, as its code reads them.
use Rattle.std.proofs.Common.{◌≡◌, ℕ, ◌+◌, ◌-◌, ◌<◌, ◌≤◌, List, [], ◌∷◌, ◌++◌, length, drop, get_or, Result, Ok, Err, IfOk, sym, ap, ◌∙◌, subst, arith}
use Rattle.std.specs.List.{AllByRecursion}
use Rattle.snapshots.specs.States.{State}
use Rattle.snapshots.specs.declared.snapshot.Snapshot.{Snapshot}
use Rattle.version_store.specs.Answers.{Refuses, shown, state_at}
use Rattle.version_store.specs.Drafted.{AreAllPerformed}
use Rattle.snapshots.specs.declared.tables.Table.{Table}
use Rattle.version_store.specs.Counted.{all_fresh}
use Rattle.version_store.specs.Counts.{entries_in}
use Rattle.version_store.specs.Histories.{Commit, History, IsHistory, above, all_faults, commit_faults, last_state, new_version, numbered, replay, states_of}
use Rattle.version_store.specs.Keeping.{IsReady, IsStored, fresh_in}
use Rattle.version_store.specs.Laws.{HaveRows}
use Rattle.version_store.specs.Legal.{HasColumns}
use Rattle.version_store.specs.declared.faults.CommitFault.{CommitFault}
use Rattle.version_store.specs.declared.faults.CommitKind.TheVariants.{LimitVersions}
use Rattle.version_store.specs.declared.limits.TheConstants.{MAX_VERSION}
use Rattle.version_store.specs.declared.versions.Kept.{Kept}
use Rattle.version_store.proofs.Keeping.{above_due, above_fine, count_states, fresh_kept, kept_drop, kept_rows, kept_shown, low_within, lows_fall, last_shown, lows_rise, own_due, stored_count, stored_more, version_due}
use Rattle.version_store.proofs.Legally.{taken}
use Rattle.std.proofs.lemmas.List.{drop-drop}

pub place_within : (history value : History) (kept : List Kept) (low version : ℕ) → IsStored history kept low → history ≡ value → (replay value).low ≤ version → version ≤ length value → version - low < length kept
place_within history value kept low version is same least most =
    let count = stored_count history kept low is in
    let own : low ≡ (replay value).low = is.low ∙ ap (λ (some : History). (replay some).low) same in
    omega (arith, count, own, least, most, ap length same)

pub shown_at : (history value : History) (kept : List Kept) (low version place : ℕ) (one : Kept) → IsStored history kept low → history ≡ value → (replay value).low ≤ version → version ≤ length value → place ≡ version - low → one ≡ get_or kept place one → one.snapshot ≡ shown value version
shown_at history value kept low version place one is same least most place_is at =
    let own : low ≡ (replay value).low = is.low ∙ ap (λ (some : History). (replay some).low) same in
    let within : place < length kept = omega (arith, place_is, place_within history value kept low version is same least most) in
    let number : low + place ≡ version = omega (arith, place_is, own, least) in
    kept_shown history kept low place one is within at ∙ ap (shown history) number ∙ ap (λ (some : History). shown some version) same

pub rows_shown : (history value : History) (kept : List Kept) (low version place : ℕ) (one : Kept) → IsStored history kept low → history ≡ value → (replay value).low ≤ version → version ≤ length value → place ≡ version - low → one ≡ get_or kept place one → HaveRows one.snapshot.tables
rows_shown history value kept low version place one is same least most place_is at =
    kept_rows history kept low place one is (omega (arith, place_is, place_within history value kept low version is same least most)) at

-- the entries that later commits wrote, as they are kept
pub later_fresh : (history value : History) (kept : List Kept) (old low place : ℕ) → IsStored history kept old → history ≡ value → (replay value).low ≤ low → place ≡ low - old → fresh_in (drop (place + 1) kept) ≡ all_fresh (low + 1) (drop (low + 1) (states_of value))
later_fresh history value kept old low place is same least place_is =
    let own : old ≡ (replay value).low = is.low ∙ ap (λ (some : History). (replay some).low) same in
    let number : old + (place + 1) ≡ low + 1 = omega (arith, place_is, own, least) in
    ap (λ (some : List Kept). fresh_in (drop (place + 1) some)) is.kept
    ∙ ap fresh_in (kept_drop (place + 1) old (drop old (states_of history)))
    ∙ fresh_kept (old + (place + 1)) (drop (place + 1) (drop old (states_of history)))
    ∙ ap (all_fresh (old + (place + 1))) (drop-drop (place + 1) old (states_of history))
    ∙ ap (λ (n : ℕ). all_fresh n (drop n (states_of history))) number
    ∙ ap (λ (some : History). all_fresh (low + 1) (drop (low + 1) (states_of some))) same

-- ---- a commit that has no fault

pub ready_low : (history : History) (commit : Commit) (low rows : ℕ) (version : Kept) → IsHistory history → IsReady history commit low rows version → ((replay history).low ≤ low) × (low ≤ length history)
ready_low history commit low rows version accepted ready =
    let states = states_of history in
    let willing = (taken states commit ready.faultless).changes in
    let begun : (last_state states).low ≤ new_version states - 1 = omega (arith, low_within history accepted, count_states history) in
    let rises = lows_rise 1 (new_version states) (new_version states - 1) (last_state states) commit willing in
    let falls = lows_fall 1 (new_version states) (new_version states - 1) (last_state states) commit begun willing in
    (omega (arith, rises, ready.low), omega (arith, falls, ready.low, count_states history))

pub entries_are_kept : (value : History) (low shown_count later more sum : ℕ) (tables : List Table) → tables ≡ (state_at value low).tables → shown_count ≡ entries_in tables → later ≡ all_fresh (low + 1) (drop (low + 1) (states_of value)) → sum ≡ shown_count + (later + more) → sum ≡ entries_in (state_at value low).tables + (all_fresh (low + 1) (drop (low + 1) (states_of value)) + more)
entries_are_kept value low shown_count later more sum tables same count rest e = omega (arith, e, count, ap entries_in same, rest)

pub keep_stored : (history value commits room : History) (commit : Commit) (kept space left new : List Kept) (old low rows : ℕ) (version : Kept) → IsStored history kept old → history ≡ value → AllByRecursion HasColumns commit → IsReady value commit low rows version → room ≡ history → commits ≡ room ++ commit ∷ [] → space ≡ kept → left ≡ drop (low - old) space → new ≡ left ++ version ∷ [] → IsStored commits new low
keep_stored history value commits room commit kept space left new old low rows version is same some ready room_is joined space_is left_is new_is =
    let own : IsReady history commit low rows version = subst (λ (some : History). IsReady some commit low rows version) (sym same) ready in
    let bounds = ready_low history commit low rows version is.accepted own in
    let least : old ≤ low = omega (arith, is.low, bounds.0) in
    let done = stored_more history commit kept old low rows version is some own least bounds.1 in
    let all : commits ≡ history ++ commit ∷ [] = joined ∙ ap (λ (some : History). some ++ commit ∷ []) room_is in
    let now : new ≡ drop (low - old) kept ++ version ∷ [] = new_is ∙ ap (λ (some : List Kept). some ++ version ∷ []) (left_is ∙ ap (drop (low - old)) space_is) in
    subst (λ (some : History). IsStored some new low) (sym all) (subst (λ (some : List Kept). IsStored (history ++ commit ∷ []) some low) (sym now) done)

-- how many versions are given up, and that there are as many
pub given_up : (history value : History) (commit : Commit) (kept : List Kept) (old low rows : ℕ) (version : Kept) → IsStored history kept old → history ≡ value → IsReady value commit low rows version → (old ≤ low) × (low - old ≤ length kept)
given_up history value commit kept old low rows version is same ready =
    let own : IsReady history commit low rows version = subst (λ (some : History). IsReady some commit low rows version) (sym same) ready in
    let bounds = ready_low history commit low rows version is.accepted own in
    (omega (arith, is.low, bounds.0), omega (arith, is.low, bounds.0, bounds.1, stored_count history kept old is))

-- ---- a version that is prepared

pub too_many : (history : History) (commit : Commit) (high version : ℕ) (fault : CommitFault) → high ≡ length history → version ≡ high + 1 → MAX_VERSION < version → fault ≡ numbered 0 (LimitVersions version) → Refuses (commit_faults (states_of history) commit) fault
too_many history commit high version fault is next many e =
    let number : version ≡ length history + 1 = omega (arith, is, next) in
    version_due history commit fault (above_due MAX_VERSION (length history + 1) version LimitVersions fault number many e)

pub few_now : (history : History) (high version : ℕ) → high ≡ length history → version ≡ high + 1 → version ≤ MAX_VERSION → above MAX_VERSION (length history + 1) LimitVersions ≡ []
few_now history high version is next few = above_fine MAX_VERSION (length history + 1) LimitVersions (omega (arith, is, next, few))

-- what has been done before the limits are tested
pub record IsBegun (history : History) (commit : Commit) (last next : ℕ) (first draft : State) (rows : ℕ) : Type 0 where
  pub high : last ≡ length history
  pub version : next ≡ last + 1
  pub few : next ≤ MAX_VERSION
  pub begun : first ≡ replay history
  pub done : AreAllPerformed last next first draft commit rows

pub change_due : (history : History) (commit : Commit) (high version : ℕ) (begun : State) (fault : CommitFault) → high ≡ length history → version ≡ high + 1 → version ≤ MAX_VERSION → begun ≡ replay history → Refuses (all_faults 1 high version begun commit) fault → Refuses (commit_faults (states_of history) commit) fault
change_due history commit high version begun fault is next few from due =
    let number : version ≡ length history + 1 = omega (arith, is, next) in
    own_due history commit fault (few_now history high version is next few)
    (subst (λ (n : ℕ). Refuses (all_faults 1 n (length history + 1) (replay history) commit) fault) is
    (subst (λ (n : ℕ). Refuses (all_faults 1 high n (replay history) commit) fault) number
    (subst (λ (state : State). Refuses (all_faults 1 high version state commit) fault) from due)))

abbrev pub with_low : ℕ → List Table → State
with_low low tables = record { low = low; tables = tables }

pub begun_state : (history : History) (low : ℕ) (last : Snapshot) (high : ℕ) (begun : State) → low ≡ (replay history).low → last ≡ shown history high → high ≡ length history → begun ≡ record { low = low; tables = last.tables } → begun ≡ replay history
begun_state history low last high begun own is number e =
    e ∙ ap (λ (n : ℕ). with_low n last.tables) own
    ∙ ap (λ (snapshot : Snapshot). with_low (replay history).low snapshot.tables) (is ∙ ap (shown history) number)
    ∙ ap (λ (state : State). with_low (replay history).low state.tables) (last_shown history)

pub rows_shared : {E : Type 0} (answer : Result Snapshot E) (one : Snapshot) → IfOk answer (λ copy. copy ≡ one) → HaveRows one.tables → IfOk answer (λ copy. HaveRows copy.tables)
rows_shared (Ok copy) one is rows = subst (λ (some : Snapshot). HaveRows some.tables) (sym is) rows
rows_shared (Err error) one is rows = tt
