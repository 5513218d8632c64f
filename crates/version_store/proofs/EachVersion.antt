-- What holds of the last version of each history holds of each version.
use Rattle.std.proofs.Common.{◌≡◌, ℕ, zero, suc, List, [], ◌∷◌, ◌++◌, Some, get_or, sym, subst, append_assoc}
use Rattle.std.specs.List.{AllByRecursion}
use Rattle.std.proofs.lemmas.List.{append-nil}
use Rattle.snapshots.specs.States.{State, nothing, table_named}
use Rattle.snapshots.specs.declared.tables.Table.{Table}
use Rattle.version_store.specs.Answers.{state_at}
use Rattle.version_store.specs.Histories.{History, after, replay, states_of, AreAccepted, IsHistory}
use Rattle.version_store.specs.Legal.{HasColumns, HaveColumns}
use Rattle.version_store.proofs.Lists.{all_append, all_at}
use Rattle.version_store.proofs.Longer.{replay_more, states_more}
use Rattle.version_store.proofs.Places.{named_found}

-- ---- prefixes

pub accepted_before : (states : List State) (before more : History) → AreAccepted states (before ++ more) → AreAccepted states before
accepted_before states [] more accepted = tt
accepted_before states (commit ∷ before) more accepted = (accepted.0, accepted_before (states ++ after states commit ∷ []) before more accepted.1)

pub all_before : {A : Type 0} (P : A → Type 0) (xs ys : List A) → AllByRecursion P (xs ++ ys) → AllByRecursion P xs
all_before P [] ys all = tt
all_before P (x ∷ xs) ys all = (all.0, all_before P xs ys all.1)

-- ---- versions

-- so are the last versions of all histories
abbrev pub AreAllLast : (State → Type 0) → Type 0
AreAllLast Q = (history : History) → IsHistory history → HaveColumns history → Q (replay history)

all_states : (Q : State → Type 0) (before more : History) → AreAllLast Q → IsHistory (before ++ more) → HaveColumns (before ++ more) → AllByRecursion Q (states_of before) → AllByRecursion Q (states_of (before ++ more))
all_states Q before [] last accepted columns all = subst (λ (history : History). AllByRecursion Q (states_of history)) (sym (append-nil before)) all
all_states Q before (commit ∷ more) last accepted columns all =
    let longer : History = before ++ commit ∷ [] in
    let same : longer ++ more ≡ before ++ commit ∷ more = append_assoc before (commit ∷ []) more in
    let all_accepted : IsHistory (longer ++ more) = subst IsHistory (sym same) accepted in
    let all_columns : HaveColumns (longer ++ more) = subst HaveColumns (sym same) columns in
    let new : Q (after (states_of before) commit) = subst Q (replay_more before commit)
    (last longer (accepted_before (nothing ∷ []) longer more all_accepted) (all_before (AllByRecursion HasColumns) longer more all_columns)) in
    let now : AllByRecursion Q (states_of longer) = subst (AllByRecursion Q) (sym (states_more (nothing ∷ []) before commit))
    (all_append Q (states_of before) (after (states_of before) commit ∷ []) all (new, tt)) in
    subst (λ (history : History). AllByRecursion Q (states_of history)) same (all_states Q longer more last all_accepted all_columns now)

all_got : (Q : State → Type 0) (states : List State) (place : ℕ) → Q nothing → AllByRecursion Q states → Q (get_or states place nothing)
all_got Q [] place none all = none
all_got Q (state ∷ states) zero none all = all.0
all_got Q (state ∷ states) (suc place) none all = all_got Q states place none all.1

pub each_version : (Q : State → Type 0) (history : History) (version : ℕ) → AreAllLast Q → IsHistory history → HaveColumns history → Q (state_at history version)
each_version Q history version last accepted columns =
    let first : Q nothing = last [] tt tt in
    all_got Q (states_of history) version first (all_states Q [] history last accepted columns (first, tt))

-- ---- a table of a version

pub table_at : (Q : Table → Type 0) (name : List ℕ) (tables : List Table) (table : Table) → table_named name tables ≡ Some table → AllByRecursion Q tables → Q table
table_at Q name tables table is all =
    let found = named_found name tables table is in
    all_at Q found.before found.after table (subst (AllByRecursion Q) found.is all)
