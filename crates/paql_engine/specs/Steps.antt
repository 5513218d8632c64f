-- What one statement does to a session, and its reply. The history is that after the statement; a
-- step looks only at the commits of it that the session has seen then.
use Rattle.std.specs.Prelude.{◌≡◌, ◌⊎◌, ◌<◌, ◌≤◌, ℕ, suc, ◌+◌, false, List, [], ◌∷◌, ◌++◌}
use Rattle.std.specs.Prelude.{length, Option, Some, None, Ok, slice_get, unwrap_or}
use Rattle.std.specs.Str.{IsUtf8}
use Rattle.paql_ast.specs.declared.queries.Query.{Query}
use Rattle.paql_ast.specs.declared.statements.Statement.{Statement}
use Rattle.paql_ast.specs.declared.statements.Statement.TheVariants as statements
use Rattle.version_store.specs.Answers.{state_at}
use Rattle.version_store.specs.Histories.{Commit, History, states_of, commit_faults, row_count}
use Rattle.version_store.specs.Histories.{replay}
use Rattle.schema_types.specs.declared.Column.{Column}
use Rattle.schema_types.specs.declared.Lit.{Lit}
use Rattle.snapshots.specs.declared.tables.Table.{Table}
use Rattle.version_store.specs.declared.changes.Change.{Change}
use Rattle.version_store.specs.declared.changes.Change.TheVariants as changes
use Rattle.version_store.specs.declared.faults.CommitFault.{CommitFault}
use Rattle.cert_text.specs.Certs.{cert_text}
use Rattle.query_answer.specs.Kept.{kept_cert}
use Rattle.query_answer.specs.declared.kept.Kept.{Kept}
use Rattle.session_proto.specs.Input.{Content}
use Rattle.session_proto.specs.Answers as answers
use Rattle.session_proto.specs.Refusals as refusals
use Rattle.session_proto.specs.Refusals.{Refusal, refusal_of, not_built}
use Rattle.session_proto.specs.Replies.{ReplyData}
use Rattle.paql_engine.specs.Loading.{columns_in, Gives, RefusesLoad, insert_of}
use Rattle.paql_engine.specs.Performed.{change_of, query_of, is_exact}
use Rattle.paql_engine.specs.Queries.{Solves, RefusesQuery}
use Rattle.paql_engine.specs.Refused.{commit_cause, name_in}
use Rattle.paql_engine.specs.State.{SessionState, seen_of}

-- the changes of the open transaction, if one is open
abbrev pub Queue : Type 0
Queue = Option (List Change)

-- ---- what becomes of the session

-- the session has seen no more than there is, and no less than before
pub record Sees (history : History) (old new : SessionState) : Type 0 where
  pub within : new.seen ≤ length history
  pub later : old.seen ≤ new.seen

-- The commit is the last one that the session has seen, after those `before`, of which others may
-- have been made since; it is its own, and no transaction is open after it.
pub record Commits (history before : History) (old : SessionState) (commit : Commit)
    (new : SessionState) : Type 0 where
  pub sees : Sees history old new
  pub last : seen_of history new ≡ before ++ commit ∷ []
  pub number : new.seen ≡ suc (length before)
  pub rose : old.seen < new.seen
  pub own : new.own ≡ suc old.own
  pub queue : new.queue ≡ None
  pub kept : new.kept ≡ old.kept

-- the session committed nothing, and the queue and what is kept are these
pub record Becomes (history : History) (old : SessionState) (held : Queue) (proof : Option Kept)
    (new : SessionState) : Type 0 where
  pub sees : Sees history old new
  pub own : new.own ≡ old.own
  pub queue : new.queue ≡ held
  pub kept : new.kept ≡ proof

abbrev pub Stays : History → SessionState → SessionState → Type 0
Stays history old new = Becomes history old old.queue old.kept new

-- ---- changes

-- the reply to an accepted change, with the rows that it changed and the version that it makes
abbrev pub accepted : Change → ℕ → ℕ → ReplyData
accepted (changes.Create table columns) rows version = answers.created version
accepted (changes.Insert table lits) rows version = answers.inserted rows version
accepted (changes.Update table sets filter) rows version = answers.updated rows version
accepted (changes.Delete table filter) rows version = answers.deleted rows version
accepted (changes.Partition table columns size radius) rows version = answers.partitioned version
accepted (changes.Vacuum low) rows version = answers.vacuumed low version

-- The commit that a statement is, with the open transaction, and the reply to it where it is
-- accepted, by the rows and the version: a change outside a transaction, or COMMIT.
pub data Makes : Queue → Statement → Commit → (ℕ → ℕ → ReplyData) → Type 0 where
  alone : (t : Statement) (change : Change) → change_of t ≡ Some change
      → Makes None t (change ∷ []) (accepted change)
  whole : (commit : Commit)
      → Makes (Some commit) statements.Commit commit (answers.committed (length commit))

-- The statements that change the queue alone, with the queue after them and the reply: BEGIN,
-- ROLLBACK, and a change in a transaction, which isn't looked at before COMMIT.
pub data Moves : Queue → Statement → Queue → ReplyData → Type 0 where
  begins : Moves None statements.Begin (Some []) answers.begun
  rolls_back : (queue : List Change)
      → Moves (Some queue) statements.Rollback None answers.rolled_back
  queues : (t : Statement) (queue : List Change) (change : Change) → change_of t ≡ Some change
      → Moves (Some queue) t (Some (queue ++ change ∷ [])) (answers.queued (length queue + 1))

-- ---- queries

-- the version that a query reads: the one that it asks for, or the last
abbrev pub version_of : History → Query → ℕ
version_of history query = unwrap_or query.version (length history)

abbrev pub tables_of : History → Query → List Table
tables_of history query = (state_at history (version_of history query)).tables

-- a version that is asked for is kept
pub record Reaches (history : History) (version : ℕ) : Type 0 where
  pub low : (replay history).low ≤ version
  pub high : version ≤ length history

abbrev pub IsThere : History → Option ℕ → Type 0
IsThere history None = Unit {0}
IsThere history (Some asked) = Reaches history asked

-- ---- certificates

-- the reply to CERTIFICATE: what is kept of the last query that was answered, as text
abbrev pub certificate_of : Option Kept → ReplyData
certificate_of None = refusal_of refusals.no_certificate
certificate_of (Some kept) = answers.certificate
    (cert_text (kept_cert kept.problem kept.claim kept.pairs kept.tree))

-- ---- refusals

-- why a statement is refused, by the commits that the session has seen and the open transaction
pub data Refuses (history : History) : Queue → Statement → Refusal → Type 0 where
  at_begin : (queue : List Change)
      → Refuses history (Some queue) statements.Begin refusals.in_transaction
  at_commit : Refuses history None statements.Commit refusals.not_in_transaction
  at_rollback : Refuses history None statements.Rollback refusals.not_in_transaction
  -- the first fault of its commit
  in_commit : (queue : Queue) (t : Statement) (commit : Commit) (shows : ℕ → ℕ → ReplyData)
      (fault : CommitFault) → Makes queue t commit shows
      → slice_get (commit_faults (states_of history) commit) 0 ≡ Some fault
      → Refuses history queue t (commit_cause fault)
  -- a query of a version that isn't kept, or isn't there
  in_version : (queue : Queue) (t : Statement) (query : Query) (asked : ℕ)
      → query_of t ≡ Some query → query.version ≡ Some asked
      → (asked < (replay history).low) ⊎ (length history < asked)
      → Refuses history queue t
      (refusals.unkept None asked (length history) (replay history).low)
  -- a query of a version that is there
  in_query : (queue : Queue) (t : Statement) (query : Query) (cause : Refusal)
      → query_of t ≡ Some query → IsThere history query.version
      → RefusesQuery (tables_of history query) query cause → Refuses history queue t cause

-- What isn't performed: a query by SKETCHREFINE, a CREATE TABLE without a column, which no text has,
-- or a statement that is refused for a name that is no text, which no statement of a text has.
pub data IsOther (history : History) (queue : Queue) (t : Statement) : Type 0 where
  by_sketch : (query : Query) → t ≡ statements.Query query → is_exact query.method ≡ false
      → IsOther history queue t
  columnless : (table : List ℕ) → t ≡ statements.Create table [] → IsOther history queue t
  nameless : (cause : Refusal) → Refuses history queue t cause → ¬ IsUtf8 (name_in cause)
      → IsOther history queue t

-- ---- the rows

pub record Accepts (history : History) (old : SessionState) (t : Statement) (reply : ReplyData)
    (new : SessionState) : Type 0 where
  pub commit : Commit
  pub shows : ℕ → ℕ → ReplyData
  pub makes : Makes old.queue t commit shows
  pub before : History
  pub commits : Commits history before old commit new
  pub good : commit_faults (states_of before) commit ≡ []
  pub shown : reply ≡ shows (row_count (states_of before) commit) new.seen

pub record Turns (history : History) (old : SessionState) (t : Statement) (reply : ReplyData)
    (new : SessionState) : Type 0 where
  pub queue : Queue
  pub moves : Moves old.queue t queue reply
  pub becomes : Becomes history old queue old.kept new

pub record Asks (history : History) (old : SessionState) (t : Statement) (reply : ReplyData)
    (new : SessionState) : Type 0 where
  pub query : Query
  pub is : query_of t ≡ Some query
  pub kept : Kept
  pub becomes : Becomes history old old.queue (Some kept) new
  pub there : IsThere (seen_of history new) query.version
  pub solves : Solves (tables_of (seen_of history new) query)
      (version_of (seen_of history new) query) query reply kept

-- CERTIFICATE changes nothing
pub record Certifies (history : History) (old : SessionState) (t : Statement)
    (reply : ReplyData) (new : SessionState) : Type 0 where
  pub is : t ≡ statements.Certificate
  pub stays : Stays history old new
  pub shown : reply ≡ certificate_of old.kept

pub record IsRefused (history : History) (old : SessionState) (t : Statement)
    (reply : ReplyData) (new : SessionState) : Type 0 where
  pub stays : Stays history old new
  pub cause : Refusal
  pub why : Refuses (seen_of history new) old.queue t cause
  pub shown : reply ≡ refusal_of cause

pub record IsNotBuilt (history : History) (old : SessionState) (t : Statement)
    (reply : ReplyData) (new : SessionState) : Type 0 where
  pub stays : Stays history old new
  pub is : IsOther (seen_of history new) old.queue t
  pub shown : reply ≡ refusal_of not_built

-- A LOAD outside a transaction is a commit of the rows that its body gives in the columns of the
-- table, as the version before it has them.
pub record Loads (history : History) (old : SessionState) (t : Statement) (body : Content)
    (reply : ReplyData) (new : SessionState) : Type 0 where
  pub name : List ℕ
  pub bytes : ℕ
  pub is : t ≡ statements.Load name bytes
  pub free : old.queue ≡ None
  pub before : History
  pub columns : List Column
  pub there : columns_in (replay before).tables name ≡ Some columns
  pub rows : List (List Lit)
  pub gives : Gives columns body (Ok rows)
  pub commits : Commits history before old (insert_of name rows) new
  pub good : commit_faults (states_of before) (insert_of name rows) ≡ []
  pub shown : reply ≡ answers.loaded (row_count (states_of before) (insert_of name rows)) new.seen

-- a refusal is told, or the statement isn't performed since the refusal shows a name that is no text
abbrev pub Tells : Refusal → ReplyData → Type 0
Tells cause reply = (reply ≡ refusal_of cause)
    ⊎ ((reply ≡ refusal_of not_built) × (¬ IsUtf8 (name_in cause)))

pub record LoadIsRefused (history : History) (old : SessionState) (t : Statement) (body : Content)
    (reply : ReplyData) (new : SessionState) : Type 0 where
  pub name : List ℕ
  pub bytes : ℕ
  pub is : t ≡ statements.Load name bytes
  pub stays : Stays history old new
  pub cause : Refusal
  pub why : RefusesLoad (seen_of history new) name body old.queue cause
  pub tells : Tells cause reply

-- A statement takes a session from the old state to the new one, with this reply. Its body is for
-- LOAD alone.
pub data Steps (history : History) (old : SessionState) (t : Statement) (body : Content)
    (reply : ReplyData)
    (new : SessionState) : Type 0 where
  accepts : Accepts history old t reply new → Steps history old t body reply new
  turns : Turns history old t reply new → Steps history old t body reply new
  asks : Asks history old t reply new → Steps history old t body reply new
  certifies : Certifies history old t reply new → Steps history old t body reply new
  refuses : IsRefused history old t reply new → Steps history old t body reply new
  is_not_built : IsNotBuilt history old t reply new → Steps history old t body reply new
  loads : Loads history old t body reply new → Steps history old t body reply new
  refuses_load : LoadIsRefused history old t body reply new → Steps history old t body reply new
