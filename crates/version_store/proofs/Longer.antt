-- Histories with one more commit.
use Rattle.std.proofs.Common.{◌≡◌, ℕ, ◌+◌, ◌≤◌, Bool, true, false, ltb, List, [], ◌∷◌, ◌++◌, length, refl, ap, ◌∙◌, length-append, arith}
use borrow.Author.Tests.{ltb-false}
use Rattle.snapshots.specs.States.{State, nothing}
use Rattle.version_store.specs.Histories.{Commit, History, above, last_state, new_version, after, states_after, states_of, replay, commit_faults, AreAccepted, IsHistory}
use Rattle.version_store.specs.declared.faults.CommitKind.{CommitKind}
use Rattle.version_store.proofs.Marks.{last_more}

pub above_none : (most number : ℕ) (fault : ℕ → CommitKind) → above most number fault ≡ [] → number ≤ most
above_none most number fault e = by_test (ltb most number) refl
  where
    by_test : (b : Bool) → ltb most number ≡ b → number ≤ most
    by_test true is = let given = rw is at e in absurd (cc)
    by_test false is = ltb-false _ _ is

pub states_more : (states : List State) (history : History) (commit : Commit) → states_after states (history ++ commit ∷ []) ≡ states_after states history ++ after (states_after states history) commit ∷ []
states_more states [] commit = refl
states_more states (first ∷ history) commit = states_more (states ++ after states first ∷ []) history commit

pub replay_more : (history : History) (commit : Commit) → replay (history ++ commit ∷ []) ≡ after (states_of history) commit
replay_more history commit = ap last_state (states_more (nothing ∷ []) history commit) ∙ last_more nothing (states_of history) (after (states_of history) commit)

accepted_more : (states : List State) (history : History) (commit : Commit) → AreAccepted states history → commit_faults (states_after states history) commit ≡ [] → AreAccepted states (history ++ commit ∷ [])
accepted_more states [] commit accepted e = (e, tt)
accepted_more states (first ∷ history) commit accepted e = (accepted.0, accepted_more (states ++ after states first ∷ []) history commit accepted.1 e)

pub history_more : (history : History) (commit : Commit) → IsHistory history → commit_faults (states_of history) commit ≡ [] → IsHistory (history ++ commit ∷ [])
history_more history commit accepted e = accepted_more (nothing ∷ []) history commit accepted e

states_length : (states : List State) (history : History) → length (states_after states history) ≡ length states + length history
states_length states [] = omega arith
states_length states (commit ∷ history) =
    let rest = states_length (states ++ after states commit ∷ []) history in
    omega (arith, rest, length-append states (after states commit ∷ []))

pub versions_of : (history : History) → new_version (states_of history) ≡ length history + 1
versions_of history = omega (arith, states_length (nothing ∷ []) history)
