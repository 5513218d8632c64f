-- A statement that is refused commits nothing.
use Rattle.std.proofs.Common.{◌≡◌, ◌≢◌, ℕ, Bool, true, false, List, [], ◌∷◌, inl, inr, IsTrue, refl, ap, subst, sym, rules}
use Rattle.std.specs.Prelude.{not, ◌&&◌, ◌==◌}
use Rattle.bound_query.proofs.Truths.{first_of as first_true, second_of as second_true}
use Rattle.paql_ast.specs.declared.statements.Statement.{Statement}
use Rattle.paql_engine.specs.State.{SessionState}
use Rattle.paql_engine.specs.Loading.{insert_of}
use Rattle.paql_engine.specs.Steps.{Steps, Queue, Makes, accepted, alone, whole, accepts, turns, asks, certifies, refuses, is_not_built, loads, refuses_load}
use Rattle.paql_engine.specs.Replied.{shown_as}
use Rattle.paql_engine.specs.declared.accepted.Accepted.{Accepted}
use Rattle.paql_engine.specs.declared.accepted.Accepted.TheVariants as kinds
use Rattle.session_proto.specs.Answers as answers
use Rattle.session_proto.specs.Input.{Content}
use Rattle.session_proto.specs.Refusals.{refusal_of, not_built}
use Rattle.session_proto.specs.Replies.{ReplyData, MemberData, FieldData, num, text, pairs, flag}
use Rattle.version_store.specs.Histories.{History, Commit, states_of, row_count}
use Rattle.version_store.specs.declared.changes.Change.{Change}
use Rattle.version_store.specs.declared.changes.Change.TheVariants as changes
use Rattle.session_server.specs.Checks.{IsRefusal, SaysRefused, status_refused}

-- ---- replies that refuse nothing

abbrev first_of : List ℕ → ℕ
first_of [] = 0
first_of (byte ∷ bytes) = byte

-- the first byte of a text, which tells `refused` from each other status
abbrev mark : MemberData → ℕ
mark (key, num number) = 0
mark (key, text words) = first_of words
mark (key, pairs list) = 0
mark (key, flag truth) = 0

-- no member has a text that begins as `refused` does
abbrev are_plain : List MemberData → Bool
are_plain [] = true
are_plain (member ∷ members) = not (mark member == 114) && are_plain members

unmarked : (member : MemberData) → IsTrue (not (mark member == 114)) → member ≢ status_refused
unmarked member plain is =
    let wrong : false ≡ true = subst (λ (n : ℕ). IsTrue (not (n == 114))) (ap mark is) plain in
    cc

says_nothing : (members : List MemberData) → IsTrue (are_plain members) → ¬ SaysRefused members
says_nothing [] plain says = says
says_nothing (member ∷ members) plain (inl is) = unmarked member (first_true (not (mark member == 114)) (are_plain members) plain) is
says_nothing (member ∷ members) plain (inr says) = says_nothing members (second_true (not (mark member == 114)) (are_plain members) plain) says

plain_reply : (reply shown : ReplyData) → reply ≡ shown → IsTrue (are_plain shown.members) → ¬ IsRefusal reply
plain_reply reply shown is plain = subst (λ (r : ReplyData). ¬ IsRefusal r) (sym is) (says_nothing shown.members plain)

-- the reply to an accepted commit
accepted_plain : (change : Change) (rows version : ℕ) → IsTrue (are_plain (accepted change rows version).members)
accepted_plain (changes.Create table columns) rows version = refl
accepted_plain (changes.Insert table lits) rows version = refl
accepted_plain (changes.Update table sets filter) rows version = refl
accepted_plain (changes.Delete table filter) rows version = refl
accepted_plain (changes.Partition table columns size radius) rows version = refl
accepted_plain (changes.Vacuum low) rows version = refl

makes_plain : (queue : Queue) (t : Statement) (commit : Commit) (shows : ℕ → ℕ → ReplyData) → Makes queue t commit shows → (rows version : ℕ) → IsTrue (are_plain (shows rows version).members)
makes_plain _ _ _ _ (alone t change is) rows version = accepted_plain change rows version
makes_plain _ _ _ _ (whole commit) rows version = refl

shown_plain : (kind : Accepted) (rows version : ℕ) → IsTrue (are_plain (shown_as kind rows version).members)
shown_plain kinds.Created rows version = refl
shown_plain kinds.Inserted rows version = refl
shown_plain kinds.Loaded rows version = refl
shown_plain kinds.Updated rows version = refl
shown_plain kinds.Deleted rows version = refl
shown_plain kinds.Partitioned rows version = refl
shown_plain (kinds.Vacuumed low) rows version = refl
shown_plain (kinds.Transaction count) rows version = refl

pub accepted_refuses_nothing : (kind : Accepted) (rows version : ℕ) → ¬ IsRefusal (shown_as kind rows version)
accepted_refuses_nothing kind rows version = says_nothing (shown_as kind rows version).members (shown_plain kind rows version)

pub not_built_refuses : IsRefusal (refusal_of not_built)
not_built_refuses = search rules

-- ---- a statement that is refused

pub refused_alone : (history : History) (old : SessionState) (t : Statement) (body : Content) (reply : ReplyData) (new : SessionState) → Steps history old t body reply new → IsRefusal reply → new.own ≡ old.own
refused_alone history old t body reply new (accepts row) refusal =
    absurd (plain_reply reply (row.shows (row_count (states_of row.before) row.commit) new.seen) row.shown (makes_plain old.queue t row.commit row.shows row.makes (row_count (states_of row.before) row.commit) new.seen) refusal)
refused_alone history old t body reply new (turns row) refusal = row.becomes.own
refused_alone history old t body reply new (asks row) refusal = row.becomes.own
refused_alone history old t body reply new (certifies row) refusal = row.stays.own
refused_alone history old t body reply new (refuses row) refusal = row.stays.own
refused_alone history old t body reply new (is_not_built row) refusal = row.stays.own
refused_alone history old t body reply new (loads row) refusal =
    absurd (plain_reply reply (answers.loaded (row_count (states_of row.before) (insert_of row.name row.rows)) new.seen) row.shown refl refusal)
refused_alone history old t body reply new (refuses_load row) refusal = row.stays.own
