-- How many entries are kept, version by version.
use Rattle.std.proofs.Common.{◌≡◌, ◌≢◌, ℕ, zero, suc, ◌+◌, ◌-◌, ◌<◌, ◌≤◌, ◌⊎◌, inl, inr, Bool, true, false, eqb, List, [], ◌∷◌, ◌++◌, length, length-append, drop, get_or, refl, sym, ap, subst, ◌∙◌, append_assoc, append-nil, arith}
use Rattle.std.specs.Prelude.{map, flat_map, ◌||◌}
use Rattle.std.specs.List.{AllByRecursion}
use Rattle.std.proofs.lemmas.List.{drop-append-le}
use Rattle.std.proofs.lemmas.Bool.Decides.{eqb_tells}
use Rattle.std.proofs.Math.Seq.{drop-cons}
use Rattle.std.proofs.lemmas.List.Concat.{flat_map-append}
use Rattle.snapshots.specs.States.{State, nothing}
use Rattle.snapshots.specs.declared.tables.Table.{Table}
use Rattle.version_store.specs.Changes.{changed}
use Rattle.version_store.specs.Legal.{AreApart}
use Rattle.version_store.specs.Histories.{Commit, History, Mark, is_mark, is_marked, distinct, marks, marks_of_table, entries_kept, last_of, last_state, after, after_changes, all_faults, states_after, states_of, commit_faults, AreAccepted, IsHistory}
use Rattle.version_store.specs.Counted.{fresh, all_fresh, counted, IsWilling, with_commit, Counts, CountedHistory}
use Rattle.version_store.specs.declared.changes.Change.{Change}
use Rattle.version_store.specs.declared.faults.CommitKind.TheVariants.{LimitRows}
use Rattle.version_store.specs.declared.limits.TheConstants.{MAX_ENTRIES}
use Rattle.version_store.proofs.Lists.{all_map, all_append}
use Rattle.version_store.proofs.Marks.{Includes, Fresh, HasIds, name_of_table, distinct_fresh, marked_right, within_self, fresh_tables, last_more}
use Rattle.version_store.proofs.Longer.{above_none}
use Rattle.version_store.proofs.Changing.{Marked, names_changed, ids_changed, low_changed, marks_changed}
use Rattle.version_store.proofs.Legally.{BornBy, first_faultless, taken}
use Rattle.version_store.proofs.Distinct.{filter_alike, is_new, mark_same, distinct_both, distinct_most}

-- ---- marks by table, and all in one list

all_first : {A : Type 0} (P : A → Type 0) (xs ys : List A) → AllByRecursion P (xs ++ ys) → AllByRecursion P xs
all_first P [] ys all = tt
all_first P (x ∷ xs) ys all = (all.0, all_first P xs ys all.1)

all_rest : {A : Type 0} (P : A → Type 0) (xs ys : List A) → AllByRecursion P (xs ++ ys) → AllByRecursion P ys
all_rest P [] ys all = all
all_rest P (x ∷ xs) ys all = all_rest P xs ys all.1

by_table : (P : Mark → Type 0) (tables : List Table) → AllByRecursion P (flat_map marks_of_table tables) → AllByRecursion (Marked P) tables
by_table P [] all = tt
by_table P (table ∷ tables) all = (all_first P (marks_of_table table) (flat_map marks_of_table tables) all, by_table P tables (all_rest P (marks_of_table table) (flat_map marks_of_table tables) all))

in_one : (P : Mark → Type 0) (tables : List Table) → AllByRecursion (Marked P) tables → AllByRecursion P (flat_map marks_of_table tables)
in_one P [] all = tt
in_one P (table ∷ tables) all = all_append P (marks_of_table table) (flat_map marks_of_table tables) all.0 (in_one P tables all.1)

-- ---- from one version to the next

-- a mark of a version is new in it, or one of the version before
pub record Stems (version : ℕ) (old : State) (mark : Mark) : Type 0 where
  pub born : mark.born ≤ version
  pub from : (mark.born ≡ version) ⊎ (is_marked mark (marks old) ≡ true)

-- a state within the commit that makes a version
record IsWithin (high version : ℕ) (old new : State) : Type 0 where
  ids : AllByRecursion HasIds new.tables
  names : AreApart (map name_of_table new.tables)
  marks_are : AllByRecursion (Marked (Stems version old)) new.tables
  low : new.low ≤ high

commit_within : (number high version : ℕ) (old state : State) (commit : List Change) → IsWithin high version old state → all_faults number high version state commit ≡ [] → IsWithin high version old (after_changes version state commit)
commit_within number high version old state [] is e = is
commit_within number high version old state (change ∷ rest) is e =
    let parts = first_faultless number high version state change rest e in
    commit_within (suc number) high version old (changed version state change) rest (record {
      ids = ids_changed version state change is.ids;
      names = names_changed version high state change parts.0 is.names;
      marks_are = marks_changed (Stems version old) version state change (λ mark same. record { born = omega (arith, same); from = inl same }) is.marks_are;
      low = low_changed version high state change parts.0 is.low;
    }) parts.1

-- the state of a version, and that of the version before
pub record IsState (version : ℕ) (state : State) : Type 0 where
  pub ids : AllByRecursion HasIds state.tables
  pub names : AreApart (map name_of_table state.tables)
  pub born : AllByRecursion (BornBy version) (marks state)
  pub low : state.low ≤ version

all_both : (version : ℕ) (old : State) (later : ℕ) (xs : List Mark) → version ≤ later → AllByRecursion (BornBy version) xs → AllByRecursion (λ (mark : Mark). is_marked mark (marks old) ≡ true) xs → AllByRecursion (Stems later old) xs
all_both version old later [] h one other = tt
all_both version old later (x ∷ xs) h one other = (record { born = omega (arith, h, one.0); from = inr other.0 }, all_both version old later xs h one.1 other.1)

begins : (high version : ℕ) (old : State) → high ≤ version → IsState high old → IsWithin high version old old
begins high version old h is = record {
  ids = is.ids;
  names = is.names;
  marks_are = by_table (Stems version old) old.tables (all_both high old version (marks old) h is.born (within_self (marks old)));
  low = is.low;
}

-- the marks of a version: each once, and how they come from the version before
pub record Links (version : ℕ) (old new : State) : Type 0 where
  pub once : Fresh (marks new)
  pub stems : AllByRecursion (Stems version old) (marks new)

links : (high version : ℕ) (old new : State) → IsWithin high version old new → Links version old new
links high version old new is = record {
  once = fresh_tables new.tables is.ids is.names;
  stems = in_one (Stems version old) new.tables is.marks_are;
}

ends : (high version : ℕ) (old new : State) → high ≤ version → IsWithin high version old new → IsState version new
ends high version old new h is = record {
  ids = is.ids;
  names = is.names;
  born = all_map (Stems version old) (BornBy version) (marks new) (λ (mark : Mark) (stems : Stems version old mark). stems.born) (links high version old new is).stems;
  low = omega (arith, h, is.low);
}

-- ---- the versions of a history

abbrev pub AreLinked : ℕ → State → List State → Type 0
AreLinked version old [] = Unit {0}
AreLinked version old (new ∷ states) = Links (suc version) old new × AreLinked (suc version) new states

linked_more : (version later : ℕ) (old : State) (states : List State) (new : State) → later ≡ suc (version + length states) → AreLinked version old states → Links later (last_of old states) new → AreLinked version old (states ++ new ∷ [])
linked_more version later old [] new count all more =
    let same : later ≡ suc version = omega (arith, count) in
    (subst (λ (n : ℕ). Links n old new) same more, tt)
linked_more version later old (state ∷ states) new count all more = (all.0, linked_more (suc version) later state states new (omega (arith, count)) all.1 more)

-- the states after the first, which is that of no table
pub record AreVersions (states : List State) : Type 0 where
  pub linked : AreLinked 0 nothing states
  pub last : IsState (length states) (last_of nothing states)

pub one_more : (states : List State) (commit : Commit) → AreVersions states → IsWilling (nothing ∷ states) commit → AreVersions (states ++ after (nothing ∷ states) commit ∷ [])
one_more states commit are e =
    let old = last_of nothing states in
    let new = after (nothing ∷ states) commit in
    let version = suc (length states) in
    let high = version - 1 in
    let same : length states ≡ high = omega arith in
    let below : high ≤ version = omega arith in
    let begun : IsWithin high version old old = begins high version old below (subst (λ (n : ℕ). IsState n old) same are.last) in
    let done : IsWithin high version old new = commit_within 1 high version old old commit begun e in
    let count : length (states ++ new ∷ []) ≡ version = omega (arith, length-append states (new ∷ [])) in
    record {
      linked = linked_more 0 version nothing states new (omega arith) are.linked (links high version old new done);
      last = subst (λ (n : ℕ). IsState n (last_of nothing (states ++ new ∷ []))) (sym count)
          (subst (IsState version) (sym (last_more nothing states new)) (ends high version old new below done));
    }

-- ---- from a version on

-- the state of a version, and those after it
record AreFrom (version : ℕ) (state : State) (states : List State) : Type 0 where
  once : Fresh (marks state)
  born : AllByRecursion (BornBy version) (marks state)
  linked : AreLinked version state states

later_from : (version : ℕ) (old new : State) (states : List State) → AreLinked version old (new ∷ states) → AreFrom (suc version) new states
later_from version old new states linked = record {
  once = linked.0.once;
  born = all_map (Stems (suc version) old) (BornBy (suc version)) (marks new) (λ (mark : Mark) (stems : Stems (suc version) old mark). stems.born) linked.0.stems;
  linked = linked.1;
}

from_version : (version : ℕ) (state : State) (states : List State) (steps target : ℕ) → target ≡ version + steps → steps < length (state ∷ states) → AreFrom version state states → AreFrom target (get_or (state ∷ states) steps nothing) (drop (suc steps) (state ∷ states))
from_version version state states zero target is below from =
    let same : version ≡ target = omega (arith, is) in
    subst (λ (n : ℕ). AreFrom n state states) same from
from_version version state [] (suc steps) target is below from = absurd (omega (arith, below))
from_version version state (new ∷ states) (suc steps) target is below from =
    from_version (suc version) new states steps target (omega (arith, is)) (omega (arith, below)) (later_from version state new states from.linked)

-- ---- counting

-- a mark is none of those that were born before it
unborn : (version : ℕ) (mark : Mark) (before : List Mark) → version < mark.born → AllByRecursion (BornBy version) before → is_marked mark before ≡ false
unborn version mark [] h all = refl
unborn version mark (other ∷ before) h all = by_test (is_mark mark other) refl (unborn version mark before h all.1)
  where
    by_test : (b : Bool) → is_mark mark other ≡ b → is_marked mark before ≡ false → (b || is_marked mark before) ≡ false
    by_test true is rest = let same : mark.born ≡ other.born = ap (λ (some : Mark). some.born) (mark_same mark other is) in absurd (omega (arith, h, same, all.0))
    by_test false is rest = rest

-- the new marks of a version are those that were born in it
new_is_born : (version : ℕ) (old : State) (before : List Mark) (mark : Mark) → AllByRecursion (BornBy version) before → Includes (marks old) before → Stems (suc version) old mark → is_new before mark ≡ eqb mark.born (suc version)
new_is_born version old before mark all wide stems = by_test (eqb_tells mark.born (suc version)) stems.from
  where
    by_test : ((eqb mark.born (suc version) ≡ true) × (mark.born ≡ suc version)) ⊎ ((eqb mark.born (suc version) ≡ false) × (mark.born ≢ suc version)) → (mark.born ≡ suc version) ⊎ (is_marked mark (marks old) ≡ true) → is_new before mark ≡ eqb mark.born (suc version)
    by_test (inl h) from =
        let away : is_marked mark before ≡ false = unborn version mark before (omega (arith, h.1)) all in
        rw (away, h.0) refl
    by_test (inr h) (inl same) = absurd (h.1 same)
    by_test (inr h) (inr there) = rw (wide mark there, h.0) refl

all_born : (version : ℕ) (old : State) (before xs : List Mark) → AllByRecursion (BornBy version) before → Includes (marks old) before → AllByRecursion (Stems (suc version) old) xs → AllByRecursion (λ (mark : Mark). is_new before mark ≡ eqb mark.born (suc version)) xs
all_born version old before [] all wide stems = tt
all_born version old before (x ∷ xs) all wide stems = (new_is_born version old before x all wide stems.0, all_born version old before xs all wide stems.1)

one_counted : (version : ℕ) (old new : State) (before : List Mark) → AllByRecursion (BornBy version) before → Includes (marks old) before → Links (suc version) old new → length (distinct (before ++ marks new)) ≡ length (distinct before) + fresh (suc version) new
one_counted version old new before all wide linked =
    distinct_both before (marks new) linked.once
    ∙ ap (λ (some : List Mark). length (distinct before) + length some)
    (filter_alike (is_new before) (λ (mark : Mark). eqb mark.born (suc version)) (marks new) (all_born version old before (marks new) all wide linked.stems))

counted_from : (version : ℕ) (old : State) (states : List State) (before : List Mark) → AllByRecursion (BornBy version) before → Includes (marks old) before → AreLinked version old states → length (distinct (before ++ flat_map marks states)) ≡ length (distinct before) + all_fresh (suc version) states
counted_from version old [] before all wide linked =
    let same : length (distinct (before ++ [])) ≡ length (distinct before) = ap (λ (some : List Mark). length (distinct some)) (append-nil before) in
    omega (arith, same)
counted_from version old (new ∷ states) before all wide linked =
    let grown = before ++ marks new in
    let wider : AllByRecursion (BornBy (suc version)) before = all_map (BornBy version) (BornBy (suc version)) before (λ (mark : Mark) (born : BornBy version mark). let more : mark.born ≤ suc version = omega (arith, born) in more) all in
    let from = later_from version old new states linked in
    let rest = counted_from (suc version) new states grown (all_append (BornBy (suc version)) before (marks new) wider from.born) (λ mark e. marked_right mark before (marks new) e) linked.1 in
    let whole : length (distinct (before ++ (marks new ++ flat_map marks states))) ≡ length (distinct (grown ++ flat_map marks states)) =
    ap (λ (some : List Mark). length (distinct some)) (sym (append_assoc before (marks new) (flat_map marks states))) in
    let one = one_counted version old new before all wide linked.0 in
    omega (arith, whole, rest, one)

kept_from : (low : ℕ) (states : List State) → AreLinked 0 nothing states → low < length (nothing ∷ states) → length (distinct (flat_map marks (drop low (nothing ∷ states)))) ≡ counted low (nothing ∷ states)
kept_from low states linked below =
    let all = nothing ∷ states in
    let first = get_or all low nothing in
    let rest = drop (suc low) all in
    let from : AreFrom low first rest = from_version 0 nothing states low low (omega arith) below (record { once = tt; born = tt; linked = linked }) in
    ap (λ (some : List State). length (distinct (flat_map marks some))) (drop-cons all low nothing below)
    ∙ counted_from low first rest (marks first) from.born (λ mark e. e) from.linked
    ∙ ap (λ (some : List Mark). length some + all_fresh (suc low) rest) (distinct_fresh (marks first) from.once)

pub counts : (states : List State) → AreVersions states → Counts (nothing ∷ states)
counts states are =
    let low = (last_of nothing states).low in
    let below : low < length (nothing ∷ states) = omega (arith, are.last.low) in
    record { low = below; entries = kept_from low states are.linked below }

-- ---- the entries of the last version

few_more : (states : List State) (commit : Commit) → AreVersions states → commit_faults (nothing ∷ states) commit ≡ [] → length (marks (after (nothing ∷ states) commit)) ≤ MAX_ENTRIES
few_more states commit are e =
    let all = nothing ∷ states in
    let new = after all commit in
    let none = taken all commit e in
    let more = one_more states commit are none.changes in
    let low = (last_state (all ++ new ∷ [])).low in
    let last : last_of nothing (states ++ new ∷ []) ≡ new = last_more nothing states new in
    let low_within : low ≤ length (states ++ new ∷ []) = more.last.low in
    let within : low ≤ length all = omega (arith, low_within, length-append states (new ∷ [])) in
    let few = above_none MAX_ENTRIES (entries_kept (all ++ new ∷ [])) LimitRows none.entries in
    let split : drop low (all ++ new ∷ []) ≡ drop low all ++ new ∷ [] = drop-append-le low all (new ∷ []) within in
    let flat : flat_map marks (drop low all ++ new ∷ []) ≡ flat_map marks (drop low all) ++ marks new =
    flat_map-append marks (drop low all) (new ∷ []) ∙ ap (λ (rest : List Mark). flat_map marks (drop low all) ++ rest) (append-nil (marks new)) in
    let same : entries_kept (all ++ new ∷ []) ≡ length (distinct (flat_map marks (drop low all) ++ marks new)) =
    ap (λ (some : List State). length (distinct (flat_map marks some))) split ∙ ap (λ (some : List Mark). length (distinct some)) flat in
    let once : Fresh (marks new) = subst (λ (state : State). Fresh (marks state)) last (fresh_tables (last_of nothing (states ++ new ∷ [])).tables more.last.ids more.last.names) in
    let most = distinct_most (flat_map marks (drop low all)) (marks new) in
    let own : length (distinct (marks new)) ≡ length (marks new) = ap length (distinct_fresh (marks new) once) in
    omega (arith, few, same, most, own)

-- ---- a history

record IsRun (states : List State) : Type 0 where
  first : (later : List State) × (states ≡ nothing ∷ later) × AreVersions later
  few : length (marks (last_state states)) ≤ MAX_ENTRIES

run_all : (states : List State) (history : History) → AreVersions states → length (marks (last_of nothing states)) ≤ MAX_ENTRIES → AreAccepted (nothing ∷ states) history → IsRun (states_after (nothing ∷ states) history)
run_all states [] are few accepted = record { first = (states, refl, are); few = few }
run_all states (commit ∷ history) are few accepted =
    let new = after (nothing ∷ states) commit in
    let more = one_more states commit are (taken (nothing ∷ states) commit accepted.0).changes in
    let fewer : length (marks (last_of nothing (states ++ new ∷ []))) ≤ MAX_ENTRIES =
    subst (λ (state : State). length (marks state) ≤ MAX_ENTRIES) (sym (last_more nothing states new)) (few_more states commit are accepted.0) in
    run_all (states ++ new ∷ []) history more fewer accepted.1

pub counted_history : (history : History) → IsHistory history → CountedHistory history
counted_history history accepted =
    let begun : AreVersions [] = record { linked = tt; last = record { ids = tt; names = tt; born = tt; low = omega arith } } in
    let run = run_all [] history begun (omega arith) accepted in
    let later = run.first.0 in
    let same : states_of history ≡ nothing ∷ later = run.first.1 in
    let are : AreVersions later = run.first.2 in
    record {
      now = subst Counts (sym same) (counts later are);
      more = λ commit e. by_states (states_of history) later commit same are e;
      few = run.few;
    }
  where
    by_states : (states later : List State) (commit : Commit) → states ≡ nothing ∷ later → AreVersions later → IsWilling states commit → Counts (with_commit states commit)
    by_states states later commit same are e =
        subst (λ (some : List State). Counts (with_commit some commit)) (sym same)
        (counts (later ++ after (nothing ∷ later) commit ∷ []) (one_more later commit are (subst (λ (some : List State). IsWilling some commit) same e)))
