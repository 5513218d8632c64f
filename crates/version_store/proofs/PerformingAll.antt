-- Lemmas on the changes of a commit, performed one after another.
use Rattle.std.proofs.Common.{◌≡◌, ℕ, zero, suc, ◌+◌, ◌-◌, ◌^◌, ◌<◌, ◌≤◌, inl, inr, List, [], ◌∷◌, ◌++◌, length, drop, get_or, sym, ap, ◌∙◌, subst, add-one, arith}
use Rattle.std.specs.Prelude.{map, min}
use Rattle.std.specs.List.{AllByRecursion}
use Rattle.std.proofs.Math.Seq.{drop-cons}
use Rattle.std.proofs.Math.ListN.{drop_of_length-le}
use Rattle.snapshots.specs.States.{State}
use Rattle.version_store.specs.Answers.{Refuses}
use Rattle.version_store.specs.Faults.{change_faults}
use Rattle.version_store.specs.Changes.{changed, rows_changed}
use Rattle.version_store.specs.Histories.{after_changes, all_faults, all_rows, numbered}
use Rattle.version_store.specs.Legal.{AreLegal, HasColumns}
use Rattle.version_store.specs.Drafted.{AreAllPerformed, IsPerformed}
use Rattle.version_store.specs.declared.changes.Change.{Change}
use Rattle.version_store.specs.declared.faults.CommitFault.{CommitFault}
use Rattle.version_store.specs.declared.faults.CommitKind.{CommitKind}
use Rattle.version_store.proofs.Legally.{legal_change}

-- so many changes have been performed, and these rows counted
pub record IsPerforming (high version : ℕ) (old now : State) (changes : List Change) (sum place : ℕ) : Type 0 where
  pub faults : all_faults 1 high version old changes ≡ all_faults (suc place) high version now (drop place changes)
  pub state : after_changes version old changes ≡ after_changes version now (drop place changes)
  pub rows : min (all_rows version old changes) (2 ^ 64 - 1) ≡ min (sum + all_rows version now (drop place changes)) (2 ^ 64 - 1)
  pub few : sum ≤ 2 ^ 64 - 1
  pub legal : AreLegal version now.tables

column_at : (changes : List Change) (place : ℕ) (d : Change) → place < length changes → AllByRecursion HasColumns changes → HasColumns (get_or changes place d)
column_at [] place d within all = absurd (omega (arith, within))
column_at (change ∷ changes) zero d within all = all.0
column_at (change ∷ changes) (suc place) d within all = column_at changes place d (omega (arith, within)) all.1

pub has_columns : (changes : List Change) (place : ℕ) (change : Change) → place < length changes → change ≡ get_or changes place change → AllByRecursion HasColumns changes → HasColumns change
has_columns changes place change within is all = subst HasColumns (sym is) (column_at changes place change within all)

next_is : (changes : List Change) (place : ℕ) (change : Change) → place < length changes → change ≡ get_or changes place change → drop place changes ≡ change ∷ drop (place + 1) changes
next_is changes place change within is =
    let given : drop place changes ≡ get_or changes place change ∷ drop (suc place) changes = drop-cons changes place change within in
    given ∙ ap (λ (some : Change). some ∷ drop (suc place) changes) (sym is) ∙ ap (λ (n : ℕ). change ∷ drop n changes) (sym (add-one place))

pub performing_refused : (high version : ℕ) (old now : State) (changes : List Change) (rows place : ℕ) (change : Change) (fault : CommitFault) → IsPerforming high version old now changes rows place → place < length changes → change ≡ get_or changes place change → Refuses (map (numbered (place + 1)) (change_faults high now change)) fault → Refuses (all_faults 1 high version old changes) fault
performing_refused high version old now changes rows place change fault so within is given =
    let here : all_faults 1 high version old changes ≡ map (numbered (suc place)) (change_faults high now change) ++ all_faults (suc (suc place)) high version (changed version now change) (drop (place + 1) changes) =
    so.faults ∙ ap (all_faults (suc place) high version now) (next_is changes place change within is) in
    rw here (left_refuses (map (numbered (suc place)) (change_faults high now change)) (all_faults (suc (suc place)) high version (changed version now change) (drop (place + 1) changes)) fault (subst (λ (n : ℕ). Refuses (map (numbered n) (change_faults high now change)) fault) (add-one place) given))
  where
    left_refuses : (first later : List CommitFault) (fault : CommitFault) → Refuses first fault → Refuses (first ++ later) fault
    left_refuses [] later fault (inl e) = absurd (cc)
    left_refuses (one ∷ first) later fault (inl e) = inl e
    left_refuses first later fault (inr e) = inr e

abbrev most : ℕ
most = 2 ^ 64 - 1

-- a sum that is held to the most, and then grows
held_more : (rows count sum rest total : ℕ) → sum ≡ min (rows + count) most → min total most ≡ min (rows + (count + rest)) most → min total most ≡ min (sum + rest) most
held_more rows count sum rest total is e = e ∙ grown sum is
  where
    grown : (sum : ℕ) → sum ≡ min (rows + count) most → min (rows + (count + rest)) most ≡ min (sum + rest) most
    grown sum is = omega (arith, is)

pub performing_more : (high version : ℕ) (old now new : State) (changes : List Change) (rows place : ℕ) (change : Change) (count sum : ℕ) → IsPerforming high version old now changes rows place → AllByRecursion HasColumns changes → place < length changes → change ≡ get_or changes place change → IsPerformed high version now new change count → sum ≡ min (rows + count) (2 ^ 64 - 1) → IsPerforming high version old new changes sum (place + 1)
performing_more high version old now new changes rows place change count sum so all within is done sum_is =
    let rest = drop (place + 1) changes in
    let next = next_is changes place change within is in
    record {
      faults = so.faults ∙ ap (all_faults (suc place) high version now) next
          ∙ ap (λ (faults : List CommitKind). map (numbered (suc place)) faults ++ all_faults (suc (suc place)) high version (changed version now change) rest) done.faultless
          ∙ ap (λ (state : State). all_faults (suc (suc place)) high version state rest) (sym done.state)
          ∙ ap (λ (n : ℕ). all_faults (suc n) high version new rest) (sym (add-one place));
      state = so.state ∙ ap (after_changes version now) next ∙ ap (λ (state : State). after_changes version state rest) (sym done.state);
      rows = held_more rows count sum (all_rows version new rest) (all_rows version old changes) sum_is
          (so.rows ∙ ap (λ (some : List Change). min (rows + all_rows version now some) (2 ^ 64 - 1)) next
          ∙ ap (λ (state : State). min (rows + (rows_changed now change + all_rows version state rest)) (2 ^ 64 - 1)) (sym done.state)
          ∙ ap (λ (n : ℕ). min (rows + (n + all_rows version new rest)) (2 ^ 64 - 1)) (sym done.rows));
      few = omega (arith, sum_is);
      legal = subst (λ (state : State). AreLegal version state.tables) (sym done.state)
          (legal_change version high now change so.legal (has_columns changes place change within is all) done.faultless);
    }

pub performing_done : (high version : ℕ) (old now : State) (changes : List Change) (rows place : ℕ) → IsPerforming high version old now changes rows place → length changes ≤ place → AreAllPerformed high version old now changes rows
performing_done high version old now changes rows place so end =
    let none : drop place changes ≡ [] = drop_of_length-le changes end in
    record {
      faultless = so.faults ∙ ap (all_faults (suc place) high version now) none;
      state = sym (so.state ∙ ap (after_changes version now) none);
      rows = let held : min (all_rows version old changes) (2 ^ 64 - 1) ≡ min (rows + 0) (2 ^ 64 - 1) = so.rows ∙ ap (λ (some : List Change). min (rows + all_rows version now some) (2 ^ 64 - 1)) none in
          omega (arith, held, so.few);
    }
