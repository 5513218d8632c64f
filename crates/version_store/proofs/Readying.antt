-- Lemmas on a version that is prepared, as the code prepares it.
use Rattle.std.proofs.Common.{◌≡◌, ℕ, ◌+◌, ◌-◌, ◌^◌, List, [], ◌∷◌, ◌++◌, length, refl, sym, ap, ◌∙◌, subst, arith}
use Rattle.std.specs.Prelude.{min}
use Rattle.snapshots.specs.States.{State}
use Rattle.snapshots.specs.declared.snapshot.Snapshot.{Snapshot}
use Rattle.snapshots.specs.declared.tables.Table.{Table}
use Rattle.version_store.specs.Answers.{Refuses}
use Rattle.version_store.specs.Counted.{counted, fresh}
use Rattle.version_store.specs.Counts.{written_in}
use Rattle.version_store.specs.Drafted.{AreAllPerformed}
use Rattle.version_store.specs.Histories.{Commit, History, IsHistory, above, after, all_rows, commit_faults, replay, states_of}
use Rattle.version_store.specs.Keeping.{IsReady, kept_of, with_tables}
use Rattle.version_store.specs.Legal.{AreLegal, HaveColumns}
use Rattle.version_store.specs.declared.faults.CommitFault.{CommitFault}
use Rattle.version_store.specs.declared.faults.CommitKind.TheVariants.{LimitRows}
use Rattle.version_store.specs.declared.limits.TheConstants.{MAX_ENTRIES}
use Rattle.version_store.specs.declared.versions.Kept.{Kept}
use Rattle.version_store.proofs.CountingTables.{written_are}
use Rattle.version_store.proofs.Keeping.{IsDrafted, all_fine, count_states, drafted, kept_counted, last_due, last_of_faults, own_of, rows_due, rows_of_commit}
use Rattle.version_store.proofs.KeepingAt.{IsBegun, few_now, with_low}
use Rattle.version_store.proofs.Legally.{legal_history, legal_later}

all_done : (history : History) (commit : Commit) (last next : ℕ) (first draft : State) (rows : ℕ) → IsBegun history commit last next first draft rows → AreAllPerformed (length history) (length history + 1) (replay history) draft commit rows
all_done history commit last next first draft rows is =
    let number : next ≡ length history + 1 = omega (arith, is.high, is.version) in
    subst (λ (n : ℕ). AreAllPerformed n (length history + 1) (replay history) draft commit rows) is.high
    (subst (λ (n : ℕ). AreAllPerformed last n (replay history) draft commit rows) number
    (subst (λ (state : State). AreAllPerformed last next state draft commit rows) is.begun is.done))

-- the draft is where the version is to be
pub bounds_of : (history : History) (commit : Commit) (last next : ℕ) (first draft : State) (rows : ℕ) → IsHistory history → IsBegun history commit last next first draft rows → IsDrafted history commit draft
bounds_of history commit last next first draft rows accepted is =
    drafted history commit (replay history) draft rows accepted refl (all_done history commit last next first draft rows is)

pub inserts_due : (history : History) (commit : Commit) (last next : ℕ) (first draft : State) (rows : ℕ) (fault : CommitFault) → IsBegun history commit last next first draft rows → Refuses (rows_of_commit commit) fault → Refuses (commit_faults (states_of history) commit) fault
inserts_due history commit last next first draft rows fault is due =
    rows_due history commit fault (few_now history last next is.high is.version is.few) (all_done history commit last next first draft rows is).faultless due

-- the state that is counted is that after the commit
last_is : (history : History) (commit : Commit) (draft : State) (low : ℕ) (tables : List Table) → IsHistory history → own_of history commit ≡ [] → draft ≡ after (states_of history) commit → low ≡ draft.low → tables ≡ draft.tables → last_of_faults history commit ≡ above MAX_ENTRIES (counted low (with_tables history low tables)) LimitRows
last_is history commit draft low tables accepted own is lows are =
    let same : with_low low tables ≡ after (states_of history) commit = ap (λ (n : ℕ). with_low n tables) lows ∙ ap (with_low draft.low) are ∙ is in
    ap (λ (n : ℕ). above MAX_ENTRIES n LimitRows) (kept_counted history commit accepted own)
    ∙ sym (ap (λ (state : State). above MAX_ENTRIES (counted state.low (states_of history ++ state ∷ [])) LimitRows) same)

pub entries_due : (history : History) (commit : Commit) (last next : ℕ) (first draft : State) (rows low : ℕ) (tables : List Table) (fault : CommitFault) → IsHistory history → IsBegun history commit last next first draft rows → rows_of_commit commit ≡ [] → low ≡ draft.low → tables ≡ draft.tables → Refuses (above MAX_ENTRIES (counted low (with_tables history low tables)) LimitRows) fault → Refuses (commit_faults (states_of history) commit) fault
entries_due history commit last next first draft rows low tables fault accepted is fine lows are due =
    let done = all_done history commit last next first draft rows is in
    let drawn = bounds_of history commit last next first draft rows accepted is in
    last_due history commit fault (few_now history last next is.high is.version is.few) done.faultless fine
    (rw (last_is history commit draft low tables accepted done.faultless drawn.state lows are) due)

abbrev pub kept_by : Snapshot → ℕ → Kept
kept_by snapshot count = record { snapshot = snapshot; fresh = count }

abbrev pub kept_with : ℕ → List Table → ℕ → Kept
kept_with version tables count = record { snapshot = record { version = version; tables = tables }; fresh = count }

pub ready_is : (history : History) (commit : Commit) (last next : ℕ) (first draft : State) (rows low now : ℕ) (tables : List Table) (made : Kept) → IsHistory history → IsBegun history commit last next first draft rows → rows_of_commit commit ≡ [] → low ≡ draft.low → tables ≡ draft.tables → above MAX_ENTRIES (counted low (with_tables history low tables)) LimitRows ≡ [] → now ≡ written_in next tables → made ≡ record { snapshot = record { version = next; tables = tables }; fresh = now } → IsReady history commit low rows made
ready_is history commit last next first draft rows low now tables made accepted is fine lows are few fresh_is e =
    let done = all_done history commit last next first draft rows is in
    let drawn = bounds_of history commit last next first draft rows accepted is in
    let number : next ≡ length history + 1 = omega (arith, is.high, is.version) in
    let written : now ≡ fresh next draft = fresh_is ∙ written_are next tables ∙ ap (λ (some : List Table). fresh next (with_low draft.low some)) are in
    record {
      faultless = all_fine history commit (few_now history last next is.high is.version is.few) done.faultless fine (last_is history commit draft low tables accepted done.faultless drawn.state lows are ∙ few);
      low = lows ∙ ap (λ (state : State). state.low) drawn.state;
      rows = done.rows ∙ sym (ap (λ (n : ℕ). min (all_rows n (replay history) commit) (2 ^ 64 - 1)) (count_states history));
      version = e ∙ ap (λ (n : ℕ). kept_with next tables n) written ∙ ap (λ (some : List Table). kept_with next some (fresh next draft)) are ∙ ap (λ (n : ℕ). kept_of n draft) number ∙ ap (kept_of (length history + 1)) drawn.state;
    }

pub begun_legal : (history : History) (last : ℕ) (first : State) → IsHistory history → HaveColumns history → last ≡ length history → first ≡ replay history → AreLegal (last + 1) first.tables
begun_legal history last first accepted some number from =
    subst (λ (state : State). AreLegal (last + 1) state.tables) (sym from)
    (legal_later (length history) (last + 1) (replay history).tables (omega (arith, number)) (legal_history history accepted some))

pub made_is : (snapshot : Snapshot) (version count : ℕ) (tables seen : List Table) → snapshot ≡ record { version = version; tables = tables } → seen ≡ tables → kept_by snapshot count ≡ kept_with version seen count
made_is snapshot version count tables seen is same = ap (λ (some : Snapshot). kept_by some count) is ∙ sym (ap (λ (some : List Table). kept_with version some count) same)
