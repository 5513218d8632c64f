-- Lemmas on the versions that a store keeps.
use Rattle.std.proofs.Common.{◌≡◌, inl, inr, ℕ, zero, suc, ◌+◌, ◌-◌, ◌<◌, ◌≤◌, Bool, true, false, leb, List, [], ◌∷◌, ◌++◌, length, length-append, drop, get_or, Option, Some, None, refl, sym, ap, ◌∙◌, subst, arith}
use Rattle.std.specs.Prelude.{map, filter, not}
use Rattle.std.specs.List.{AllByRecursion}
use Rattle.std.proofs.lemmas.List.{get_or-drop, drop-append-le, drop-drop}
use borrow.Author.Tests.{leb-true, le-ltb, lt-ltb}
use Rattle.snapshots.specs.States.{State, nothing, table_named}
use Rattle.snapshots.specs.declared.snapshot.Snapshot.{Snapshot}
use Rattle.snapshots.specs.declared.tables.Table.{Table}
use Rattle.version_store.specs.Answers.{Refuses, shown, state_at}
use Rattle.version_store.specs.Changes.{changed, cut, inserted, is_met, on_named, on_table, updated, with_entries}
use Rattle.snapshots.specs.Entries.{Entry}
use Rattle.version_store.specs.Faults.{change_faults, vacuum_faults}
use Rattle.version_store.specs.Counted.{IsWilling, all_fresh, counted, fresh}
use Rattle.version_store.specs.Counts.{entries_in, written_in}
use Rattle.version_store.specs.Drafted.{AreAllPerformed}
use Rattle.version_store.specs.Histories.{Commit, History, IsHistory, AreAccepted, above, after, after_changes, all_faults, commit_faults, entries_kept, insert_count, last_of, last_state, marks, new_version, numbered, replay, states_of}
use Rattle.version_store.specs.Laws.{HaveRows}
use Rattle.version_store.specs.Legal.{AreLegal, HasColumns, HaveColumns}
use Rattle.version_store.specs.Keeping.{IsReady, IsStored, kept_from, kept_of, fresh_in, with_tables}
use Rattle.version_store.specs.declared.changes.Change.{Change}
use Rattle.version_store.specs.declared.changes.Change.TheVariants as changes
use Rattle.version_store.specs.declared.faults.CommitFault.{CommitFault}
use Rattle.version_store.specs.declared.faults.CommitKind.{CommitKind}
use Rattle.version_store.specs.declared.faults.CommitKind.TheVariants.{LimitCommit, LimitRows, LimitVersions}
use Rattle.version_store.specs.declared.versions.Kept.{Kept}
use Rattle.version_store.specs.declared.limits.TheConstants.{MAX_COMMIT_ROWS, MAX_ENTRIES, MAX_VERSION}
use Rattle.version_store.proofs.Counting.{counted_history}
use Rattle.version_store.proofs.Changing.{low_changed}
use Rattle.version_store.proofs.CountingTables.{entries_are, written_are}
use Rattle.version_store.proofs.Having.{have_rows}
use Rattle.version_store.proofs.Legally.{first_faultless, legal_history, taken}
use Rattle.version_store.proofs.Lists.{all_append}
use Rattle.version_store.proofs.Marks.{last_more}
use Rattle.version_store.proofs.Longer.{above_none, history_more, replay_more, states_more, versions_of}

-- ---- the list of what is kept

pub kept_count : (low : ℕ) (states : List State) → length (kept_from low states) ≡ length states
kept_count low [] = refl
kept_count low (state ∷ states) = ap suc (kept_count (suc low) states)

pub kept_more : (low : ℕ) (states : List State) (new : State) → kept_from low (states ++ new ∷ []) ≡ kept_from low states ++ kept_of (low + length states) new ∷ []
kept_more low [] new = let same : low ≡ low + 0 = omega arith in ap (λ (n : ℕ). kept_of n new ∷ []) same
kept_more low (state ∷ states) new =
    let same : suc low + length states ≡ low + length (state ∷ states) = omega arith in
    ap (λ (rest : List Kept). kept_of low state ∷ rest) (kept_more (suc low) states new ∙ ap (λ (n : ℕ). kept_from (suc low) states ++ kept_of n new ∷ []) same)

pub kept_drop : (count low : ℕ) (states : List State) → drop count (kept_from low states) ≡ kept_from (low + count) (drop count states)
kept_drop zero low states = let same : low ≡ low + 0 = omega arith in ap (λ (n : ℕ). kept_from n states) same
kept_drop (suc count) low [] = refl
kept_drop (suc count) low (state ∷ states) =
    let same : suc low + count ≡ low + suc count = omega arith in
    kept_drop count (suc low) states ∙ ap (λ (n : ℕ). kept_from n (drop count states)) same

pub kept_get : (low : ℕ) (states : List State) (place : ℕ) (d : Kept) → place < length states → get_or (kept_from low states) place d ≡ kept_of (low + place) (get_or states place nothing)
kept_get low [] place d within = absurd (omega (arith, within))
kept_get low (state ∷ states) zero d within = let same : low ≡ low + 0 = omega arith in ap (λ (n : ℕ). kept_of n state) same
kept_get low (state ∷ states) (suc place) d within =
    let same : suc low + place ≡ low + suc place = omega arith in
    kept_get (suc low) states place d (omega (arith, within)) ∙ ap (λ (n : ℕ). kept_of n (get_or states place nothing)) same

pub fresh_kept : (low : ℕ) (states : List State) → fresh_in (kept_from low states) ≡ all_fresh low states
fresh_kept low [] = refl
fresh_kept low (state ∷ states) = ap (λ (n : ℕ). fresh low state + n) (fresh_kept (suc low) states)

-- ---- the versions of a history

pub count_states : (history : History) → length (states_of history) ≡ length history + 1
count_states history = versions_of history

pub low_within : (history : History) → IsHistory history → (replay history).low ≤ length history
low_within history accepted = omega (arith, (counted_history history accepted).now.low, count_states history)

few_all : (states : List State) (history : History) → length states ≤ MAX_VERSION + 1 → AreAccepted states history → length states + length history ≤ MAX_VERSION + 1
few_all states [] few accepted = omega (arith, few)
few_all states (commit ∷ history) few accepted =
    let below : new_version states ≤ MAX_VERSION = above_none MAX_VERSION (new_version states) LimitVersions (taken states commit accepted.0).version in
    let count = length-append states (after states commit ∷ []) in
    let rest = few_all (states ++ after states commit ∷ []) history (omega (arith, below, count)) accepted.1 in
    omega (arith, rest, count)

pub few_versions : (history : History) → IsHistory history → length history ≤ MAX_VERSION
few_versions history accepted =
    let all : length (nothing ∷ []) + length history ≤ MAX_VERSION + 1 = few_all (nothing ∷ []) history (omega arith) accepted in
    omega (arith, all)

drop_count : (count : ℕ) (states : List State) → count ≤ length states → length (drop count states) + count ≡ length states
drop_count zero states within = omega arith
drop_count (suc count) [] within = absurd (omega (arith, within))
drop_count (suc count) (state ∷ states) within = let rest = drop_count count states (omega (arith, within)) in omega (arith, rest)

pub stored_count : (history : History) (kept : List Kept) (low : ℕ) → IsStored history kept low → length kept + low ≡ length history + 1
stored_count history kept low is =
    let count : length kept ≡ length (drop low (states_of history)) = ap length is.kept ∙ kept_count low (drop low (states_of history)) in
    let within : low ≤ length (states_of history) = omega (arith, is.low, low_within history is.accepted, count_states history) in
    omega (arith, count, drop_count low (states_of history) within, count_states history)

abbrev snapshot_of : ℕ → State → Snapshot
snapshot_of version state = record { version = version; tables = state.tables }

-- a version that is kept
pub kept_shown : (history : History) (kept : List Kept) (low place : ℕ) (one : Kept) → IsStored history kept low → place < length kept → one ≡ get_or kept place one → one.snapshot ≡ shown history (low + place)
kept_shown history kept low place one is within at =
    let states = drop low (states_of history) in
    let count : length kept ≡ length states = ap length is.kept ∙ kept_count low states in
    let here : one ≡ kept_of (low + place) (get_or states place nothing) =
    at ∙ ap (λ (some : List Kept). get_or some place one) is.kept ∙ kept_get low states place one (omega (arith, within, count)) in
    ap (λ (some : Kept). some.snapshot) here
    ∙ ap (snapshot_of (low + place)) (get_or-drop low (states_of history) place nothing)

all_get : (P : Kept → Type 0) (kept : List Kept) (place : ℕ) (d : Kept) → place < length kept → AllByRecursion P kept → P (get_or kept place d)
all_get P [] place d within all = absurd (omega (arith, within))
all_get P (one ∷ kept) zero d within all = all.0
all_get P (one ∷ kept) (suc place) d within all = all_get P kept place d (omega (arith, within)) all.1

pub kept_rows : (history : History) (kept : List Kept) (low place : ℕ) (one : Kept) → IsStored history kept low → place < length kept → one ≡ get_or kept place one → HaveRows one.snapshot.tables
kept_rows history kept low place one is within at =
    subst (λ (some : Kept). HaveRows some.snapshot.tables) (sym at) (all_get (λ (some : Kept). HaveRows some.snapshot.tables) kept place one within is.rows)

-- ---- the least version that is kept rises

low_on : (state : State) (name : List ℕ) (does : Table → Table) → (on_named state name does).low ≡ state.low
low_on state name does = by_case (table_named name state.tables)
  where
    by_case : (given : Option Table) → (on_table state given does).low ≡ state.low
    by_case None = refl
    by_case (Some table) = refl

low_rises : (version high : ℕ) (state : State) (change : Change) → change_faults high state change ≡ [] → state.low ≤ (changed version state change).low
low_rises version high state (changes.Create name columns) e = omega arith
low_rises version high state (changes.Insert name rows) e = let same = low_on state name (λ (found : Table). inserted found version rows) in omega (arith, same)
low_rises version high state (changes.Update name sets written) e = let same = low_on state name (λ (found : Table). with_entries found (map (updated found version sets written) found.entries)) in omega (arith, same)
low_rises version high state (changes.Delete name written) e = let same = low_on state name (λ (found : Table). with_entries found (filter (λ (entry : Entry). not (is_met found written entry)) found.entries)) in omega (arith, same)
low_rises version high state (changes.Partition name columns size radius) e = let same = low_on state name (λ (found : Table). cut found columns size radius) in omega (arith, same)
low_rises version high state (changes.Vacuum asked) e = at_least state.low high asked e
  where
    at_least : (low high asked : ℕ) → vacuum_faults low high asked ≡ [] → low ≤ asked
    at_least low high asked e = by_test (leb low asked) refl
      where
        by_test : (b : Bool) → leb low asked ≡ b → low ≤ asked
        by_test true is = leb-true _ _ is
        by_test false is = let given = rw is at e in absurd (cc)

pub lows_rise : (number version high : ℕ) (state : State) (commit : Commit) → all_faults number high version state commit ≡ [] → state.low ≤ (after_changes version state commit).low
lows_rise number version high state [] e = omega arith
lows_rise number version high state (change ∷ rest) e =
    let parts = first_faultless number high version state change rest e in
    omega (arith, low_rises version high state change parts.0, lows_rise (suc number) version high (changed version state change) rest parts.1)

pub lows_fall : (number version high : ℕ) (state : State) (commit : Commit) → state.low ≤ high → all_faults number high version state commit ≡ [] → (after_changes version state commit).low ≤ high
lows_fall number version high state [] low e = low
lows_fall number version high state (change ∷ rest) low e =
    let parts = first_faultless number high version state change rest e in
    lows_fall (suc number) version high (changed version state change) rest (low_changed version high state change parts.0 low) parts.1

-- ---- lists

all_drop : (P : Kept → Type 0) (count : ℕ) (kept : List Kept) → AllByRecursion P kept → AllByRecursion P (drop count kept)
all_drop P zero kept all = all
all_drop P (suc count) [] all = tt
all_drop P (suc count) (one ∷ kept) all = all_drop P count kept all.1

get_before : (states : List State) (new : State) (place : ℕ) → place < length states → get_or (states ++ new ∷ []) place nothing ≡ get_or states place nothing
get_before [] new place within = absurd (omega (arith, within))
get_before (state ∷ states) new zero within = refl
get_before (state ∷ states) new (suc place) within = get_before states new place (omega (arith, within))

last_from : (first : State) (states : List State) → get_or (first ∷ states) (length states) nothing ≡ last_of first states
last_from first [] = refl
last_from first (state ∷ states) = last_from state states

last_at : (states : List State) (n : ℕ) → length states ≡ n + 1 → get_or states n nothing ≡ last_state states
last_at [] n count = absurd (omega (arith, count))
last_at (state ∷ states) n count =
    let same : n ≡ length states = omega (arith, count) in
    ap (λ (m : ℕ). get_or (state ∷ states) m nothing) same ∙ last_from state states

-- the state of the last version
pub last_shown : (history : History) → state_at history (length history) ≡ replay history
last_shown history = last_at (states_of history) (length history) (count_states history)

-- ---- how many entries are kept with one version more

fresh_more : (version : ℕ) (states : List State) (new : State) → all_fresh version (states ++ new ∷ []) ≡ all_fresh version states + fresh (version + length states) new
fresh_more version [] new = let same : version + 0 ≡ version = omega arith in omega (arith, ap (λ (n : ℕ). fresh n new) same)
fresh_more version (state ∷ states) new =
    let same : suc version + length states ≡ version + length (state ∷ states) = omega arith in
    omega (arith, fresh_more (suc version) states new, ap (λ (n : ℕ). fresh n new) same)

pub counted_more : (states : List State) (low : ℕ) (new : State) → low < length states → counted low (states ++ new ∷ []) ≡ length (marks (get_or states low nothing)) + (all_fresh (suc low) (drop (suc low) states) + fresh (length states) new)
counted_more states low new within =
    let later : drop (suc low) (states ++ new ∷ []) ≡ drop (suc low) states ++ new ∷ [] = drop-append-le (suc low) states (new ∷ []) (omega (arith, within)) in
    let count : suc low + length (drop (suc low) states) ≡ length states = omega (arith, drop_count (suc low) states (omega (arith, within))) in
    omega (arith, ap (λ (state : State). length (marks state)) (get_before states new low within), ap (all_fresh (suc low)) later, fresh_more (suc low) (drop (suc low) states) new, ap (λ (n : ℕ). fresh n new) count)

-- what the code counts
pub entries_with_is : (history : History) (low entries fresh_now version : ℕ) (tables : List Table) → low ≤ length history → version ≡ length history + 1 → fresh_now ≡ written_in version tables → entries ≡ entries_in (state_at history low).tables + (all_fresh (low + 1) (drop (low + 1) (states_of history)) + fresh_now) → entries ≡ counted low (with_tables history low tables)
entries_with_is history low entries fresh_now version tables most is now e =
    let states = states_of history in
    let new : State = record { low = low; tables = tables } in
    let within : low < length states = omega (arith, most, count_states history) in
    let one : low + 1 ≡ suc low = omega arith in
    let number : version ≡ length states = omega (arith, is, count_states history) in
    let written : fresh_now ≡ fresh (length states) new = now ∙ written_are version tables ∙ ap (λ (n : ℕ). fresh n new) number in
    omega (arith, e, entries_are (state_at history low).tables, counted_more states low new within, written, ap (λ (n : ℕ). all_fresh n (drop n states)) one)

-- ---- limits of a whole commit

pub above_fine : (most number : ℕ) (fault : ℕ → CommitKind) → number ≤ most → above most number fault ≡ []
above_fine most number fault few = rw (le-ltb most number few) refl

pub above_due : (most number given : ℕ) (fault : ℕ → CommitKind) (answer : CommitFault) → given ≡ number → most < given → answer ≡ numbered 0 (fault given) → Refuses (above most number fault) answer
above_due most number given fault answer is many e =
    let beyond : most < number = omega (arith, is, many) in
    rw (lt-ltb most number beyond) (inl (ap Some (ap (λ (n : ℕ). numbered 0 (fault n)) (sym is) ∙ sym e)))

left_refuses : (first later : List CommitFault) (fault : CommitFault) → Refuses first fault → Refuses (first ++ later) fault
left_refuses [] later fault (inl e) = absurd (cc)
left_refuses (one ∷ first) later fault (inl e) = inl e
left_refuses first later fault (inr e) = inr e

right_refuses : (first later : List CommitFault) (fault : CommitFault) → first ≡ [] → Refuses later fault → Refuses (first ++ later) fault
right_refuses first later fault none given = rw none given

-- ---- the faults of a commit, part by part

abbrev pub own_of : History → Commit → List CommitFault
own_of history commit = all_faults 1 (length history) (length history + 1) (replay history) commit

abbrev pub rows_of_commit : Commit → List CommitFault
rows_of_commit commit = above MAX_COMMIT_ROWS (insert_count commit) LimitCommit

abbrev pub last_of_faults : History → Commit → List CommitFault
last_of_faults history commit = above MAX_ENTRIES (entries_kept (states_of history ++ after (states_of history) commit ∷ [])) LimitRows

parts_are : (history : History) (commit : Commit) → commit_faults (states_of history) commit ≡ above MAX_VERSION (length history + 1) LimitVersions ++ (own_of history commit ++ (rows_of_commit commit ++ last_of_faults history commit))
parts_are history commit =
    let same = count_states history in
    let less : length (states_of history) - 1 ≡ length history = omega (arith, same) in
    ap (λ (n : ℕ). above MAX_VERSION n LimitVersions ++ (all_faults 1 (length (states_of history) - 1) n (replay history) commit ++ (rows_of_commit commit ++ last_of_faults history commit))) same
    ∙ ap (λ (n : ℕ). above MAX_VERSION (length history + 1) LimitVersions ++ (all_faults 1 n (length history + 1) (replay history) commit ++ (rows_of_commit commit ++ last_of_faults history commit))) less

pub version_due : (history : History) (commit : Commit) (fault : CommitFault) → Refuses (above MAX_VERSION (length history + 1) LimitVersions) fault → Refuses (commit_faults (states_of history) commit) fault
version_due history commit fault due = rw (parts_are history commit) (left_refuses _ _ fault due)

pub own_due : (history : History) (commit : Commit) (fault : CommitFault) → above MAX_VERSION (length history + 1) LimitVersions ≡ [] → Refuses (own_of history commit) fault → Refuses (commit_faults (states_of history) commit) fault
own_due history commit fault none due = rw (parts_are history commit) (right_refuses _ _ fault none (left_refuses _ _ fault due))

pub rows_due : (history : History) (commit : Commit) (fault : CommitFault) → above MAX_VERSION (length history + 1) LimitVersions ≡ [] → own_of history commit ≡ [] → Refuses (rows_of_commit commit) fault → Refuses (commit_faults (states_of history) commit) fault
rows_due history commit fault none own due = rw (parts_are history commit) (right_refuses _ _ fault none (right_refuses _ _ fault own (left_refuses _ _ fault due)))

pub last_due : (history : History) (commit : Commit) (fault : CommitFault) → above MAX_VERSION (length history + 1) LimitVersions ≡ [] → own_of history commit ≡ [] → rows_of_commit commit ≡ [] → Refuses (last_of_faults history commit) fault → Refuses (commit_faults (states_of history) commit) fault
last_due history commit fault none own rows due = rw (parts_are history commit) (right_refuses _ _ fault none (right_refuses _ _ fault own (right_refuses _ _ fault rows due)))

pub all_fine : (history : History) (commit : Commit) → above MAX_VERSION (length history + 1) LimitVersions ≡ [] → own_of history commit ≡ [] → rows_of_commit commit ≡ [] → last_of_faults history commit ≡ [] → commit_faults (states_of history) commit ≡ []
all_fine history commit none own rows last = parts_are history commit ∙ rw (none, own, rows, last) refl

after_is : (history : History) (commit : Commit) → after (states_of history) commit ≡ after_changes (length history + 1) (replay history) commit
after_is history commit = ap (λ (n : ℕ). after_changes n (replay history) commit) (count_states history)

-- the entries kept are those counted, if no change has a fault
pub kept_counted : (history : History) (commit : Commit) → IsHistory history → own_of history commit ≡ [] → entries_kept (states_of history ++ after (states_of history) commit ∷ []) ≡ counted (after (states_of history) commit).low (states_of history ++ after (states_of history) commit ∷ [])
kept_counted history commit accepted own =
    let same = count_states history in
    let less : length (states_of history) - 1 ≡ length history = omega (arith, same) in
    let willing : IsWilling (states_of history) commit =
    ap (λ (n : ℕ). all_faults 1 (length (states_of history) - 1) n (replay history) commit) same ∙ ap (λ (n : ℕ). all_faults 1 n (length history + 1) (replay history) commit) less ∙ own in
    let counts = (counted_history history accepted).more commit willing in
    counts.entries ∙ ap (λ (state : State). counted state.low (states_of history ++ after (states_of history) commit ∷ [])) (last_more nothing (states_of history) (after (states_of history) commit))

-- the state with the tables of a draft that performed the changes
pub record IsDrafted (history : History) (commit : Commit) (draft : State) : Type 0 where
  pub state : draft ≡ after (states_of history) commit
  pub least : (replay history).low ≤ draft.low
  pub most : draft.low ≤ length history

pub drafted : (history : History) (commit : Commit) (begun draft : State) (rows : ℕ) → IsHistory history → begun ≡ replay history → AreAllPerformed (length history) (length history + 1) begun draft commit rows → IsDrafted history commit draft
drafted history commit begun draft rows accepted from done =
    let own : own_of history commit ≡ [] = subst (λ (state : State). all_faults 1 (length history) (length history + 1) state commit ≡ []) from done.faultless in
    let is : draft ≡ after (states_of history) commit = done.state ∙ ap (λ (state : State). after_changes (length history + 1) state commit) from ∙ sym (after_is history commit) in
    let low : draft.low ≡ (after (states_of history) commit).low = ap (λ (state : State). state.low) is in
    let rises = lows_rise 1 (length history + 1) (length history) (replay history) commit own in
    let same : (after (states_of history) commit).low ≡ (after_changes (length history + 1) (replay history) commit).low = ap (λ (state : State). state.low) (after_is history commit) in
    record {
      state = is;
      least = omega (arith, rises, low, same);
      most = omega (arith, low, same, lows_fall 1 (length history + 1) (length history) (replay history) commit (low_within history accepted) own);
    }

-- ---- one version more

pub stored_more : (history : History) (commit : Commit) (kept : List Kept) (old low rows : ℕ) (version : Kept) → IsStored history kept old → AllByRecursion HasColumns commit → IsReady history commit low rows version → old ≤ low → low ≤ length history → IsStored (history ++ commit ∷ []) (drop (low - old) kept ++ version ∷ []) low
stored_more history commit kept old low rows version is some ready least most =
    let states = states_of history in
    let new = after states commit in
    let all = history ++ commit ∷ [] in
    let accepted : IsHistory all = history_more history commit is.accepted ready.faultless in
    let columns : HaveColumns all = all_append (AllByRecursion HasColumns) history (commit ∷ []) is.columns (some, tt) in
    let last : replay all ≡ new = replay_more history commit in
    let within : low ≤ length states = omega (arith, most, count_states history) in
    let later : drop low (states_of all) ≡ drop low states ++ new ∷ [] = ap (drop low) (states_more (nothing ∷ []) history commit) ∙ drop-append-le low states (new ∷ []) within in
    let number : low + length (drop low states) ≡ length history + 1 = omega (arith, drop_count low states within, count_states history) in
    let reached : old + (low - old) ≡ low = omega (arith, least) in
    let left : drop (low - old) kept ≡ kept_from low (drop low states) =
    ap (drop (low - old)) is.kept ∙ kept_drop (low - old) old (drop old states) ∙ ap (kept_from (old + (low - old))) (drop-drop (low - old) old states) ∙ ap (λ (n : ℕ). kept_from n (drop n states)) reached in
    let shows : HaveRows new.tables = have_rows (length all) new.tables
    (subst (λ (state : State). AreLegal (length all) state.tables) last (legal_history all accepted columns))
    (subst (λ (state : State). length (marks state) ≤ MAX_ENTRIES) last (counted_history all accepted).few) in
    record {
      accepted = accepted;
      columns = columns;
      low = ready.low ∙ sym (ap (λ (state : State). state.low) last);
      kept = ap (λ (some : List Kept). some ++ version ∷ []) left
          ∙ ap (λ (one : Kept). kept_from low (drop low states) ++ one ∷ []) (ready.version ∙ ap (λ (n : ℕ). kept_of n new) (sym number))
          ∙ sym (ap (kept_from low) later ∙ kept_more low (drop low states) new);
      rows = all_append (λ (one : Kept). HaveRows one.snapshot.tables) (drop (low - old) kept) (version ∷ []) (all_drop (λ (one : Kept). HaveRows one.snapshot.tables) (low - old) kept is.rows)
          (subst (λ (one : Kept). HaveRows one.snapshot.tables) (sym ready.version) shows, tt);
    }
