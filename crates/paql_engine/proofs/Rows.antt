-- The rows of the statements that are performed, over what the vault of a session holds.
use Rattle.std.proofs.Common.{◌≡◌, ℕ, suc, ◌+◌, List, [], ◌∷◌, ◌++◌, length, take, Option, Some, None, inl, inr, refl, sym, ap, ◌∙◌, subst, append-nil, append_assoc, length-append, Result, Ok, Err, ◌⊎◌, Bool, true, false, arith}
use Rattle.std.specs.Prelude.{◌≤◌, is_some, IsTrue, IfOk, OnOk, OnErr, slice_get, unwrap_or, if◌then◌else◌}
use Rattle.std.specs.declared.alloc.AllocError.{AllocError}
use Rattle.paql_ast.specs.declared.queries.Query.{Query}
use Rattle.paql_ast.specs.declared.statements.Statement.{Statement}
use Rattle.paql_ast.specs.declared.statements.Statement.TheVariants as statements
use Rattle.session_proto.specs.Answers as answers
use Rattle.session_proto.specs.Causes.{cause}
use Rattle.session_proto.specs.Input.{Content}
use Rattle.session_proto.specs.Refusals as refusals
use Rattle.session_proto.specs.Refusals.{Refusal, refusal_of, not_built}
use Rattle.session_proto.specs.Replies.{ReplyData}
use Rattle.session_proto.specs.declared.refusals.BindFault.TheVariants as bindings
use Rattle.session_proto.specs.declared.refusals.Refusal.{Refusal as Told}
use Rattle.session_proto.specs.declared.refusals.Refusal.TheVariants.{Bind}
use Rattle.snapshots.specs.declared.snapshot.Snapshot.{Snapshot}
use Rattle.cert_text.specs.Certs.{cert_text}
use Rattle.query_answer.specs.Kept.{kept_cert}
use Rattle.query_answer.specs.declared.kept.Kept.{Kept}
use Rattle.version_store.specs.Answers.{IsMemory, state_at}
use Rattle.version_store.specs.Histories.{History, states_of, replay, commit_faults, row_count}
use Rattle.version_store.specs.Vaults.{Holding, IsPrefix, Sees, Accepts as Joins, Refused as Declined}
use Rattle.snapshots.specs.declared.tables.Table.{Table}
use Rattle.version_store.specs.declared.changes.Change.{Change}
use Rattle.version_store.specs.declared.faults.CommitFault.{CommitFault}
use Rattle.version_store.specs.declared.store.Committed.{Committed}
use Rattle.version_store.specs.declared.store.VaultFault.TheVariants as vault
use Rattle.paql_engine.specs.Performed.{change_of, query_of, is_exact}
use Rattle.paql_engine.specs.Queries.{Solves, RefusesQuery}
use Rattle.paql_engine.specs.Refused.{commit_cause}
use Rattle.paql_engine.specs.Replied.{reply_of, shown_as}
use Rattle.paql_engine.specs.Showing.{IsToldAs, RefusedSo, RefusesCommit, IsToldOf, StepsTo, Misses, Looks, is_changing}
use Rattle.paql_engine.specs.State.{SessionData, OwnSession, Grows, session_over}
use Rattle.paql_engine.specs.Steps.{Steps, Queue, Becomes, Makes, Moves, Refuses, IsThere, IsOther, accepted as shown_to, tables_of, version_of, certificate_of, columnless, nameless, alone, whole, begins, rolls_back, queues, at_begin, at_rollback, in_commit, in_version, in_query, accepts, turns, asks, certifies, refuses, is_not_built}
use Rattle.paql_engine.specs.declared.accepted.Accepted.{Accepted as AcceptedAs}
use Rattle.paql_engine.specs.declared.accepted.Accepted.TheVariants.{Transaction}
use Rattle.paql_engine.specs.declared.session.Answer.{Answer}
use Rattle.paql_engine.specs.declared.session.Answer.TheVariants.{Made, Accepted}

-- what a session itself keeps
abbrev pub own : Queue → Option Kept → OwnSession
own queue kept = record { queue = queue; kept = kept }

-- a step of a session over a vault that holds this before and that after it
abbrev pub StepsOver : Holding → OwnSession → Statement → Holding → OwnSession → Answer → Type 0
StepsOver before old t after new answer = StepsTo (session_over before old) t (session_over after new) answer

pub take_all : (history : History) → take (length history) history ≡ history
take_all [] = refl
take_all (commit ∷ history) = ap (λ (h : History). commit ∷ h) (take_all history)

pub length_more : (history : History) (commit : List Change) → length (history ++ commit ∷ []) ≡ suc (length history)
length_more [] commit = refl
length_more (first ∷ history) commit = ap suc (length_more history commit)

pub longer_prefix : (old new : History) → IsPrefix old new → length old ≤ length new
longer_prefix old new (more, is) = omega (arith, ap (λ (h : History). length h) is, length-append old more)

-- ---- what a vault has seen

pub sees_same : (vault : Holding) → Sees vault vault
sees_same vault = record { held = ([], sym (append-nil vault.held)); own = refl; stake = refl }

pub grows_seen : (before after : Holding) → Sees before after → Grows before after
grows_seen before after sees = record { held = sees.held; stake = sees.stake }

pub grows_same : (vault : Holding) → Grows vault vault
grows_same vault = grows_seen vault vault (sees_same vault)

pub grows_joined : (before after : Holding) (commit : List Change) (committed : Committed) → Joins before after commit committed → Grows before after
grows_joined before after commit committed joins = record {
  held = (
    joins.held.0 ++ commit ∷ [],
    joins.joins.history ∙ ap (λ (h : History). h ++ commit ∷ []) joins.held.1 ∙ append_assoc before.held joins.held.0 (commit ∷ []),
  );
  stake = joins.stake;
}

-- whatever came of a statement
pub seen_on_err : (before after : Holding) (result : Result Answer AllocError) → Sees before after → OnErr result (Sees before after)
seen_on_err before after (Ok answer) sees = tt
seen_on_err before after (Err error) sees = sees

pub same_on_err : (old new : OwnSession) (result : Result Answer AllocError) → new ≡ old → OnErr result (new ≡ old)
same_on_err old new (Ok answer) same = tt
same_on_err old new (Err error) same = same

pub becomes_over : (before after : Holding) (old new : Queue) (was kept : Option Kept) → Sees before after
    → Becomes after.held (session_over before (own old was)).state new kept (session_over after (own new kept)).state
becomes_over before after old new was kept sees = record {
  sees = record { within = omega arith; later = longer_prefix before.held after.held sees.held };
  own = sees.own;
  queue = refl;
  kept = refl;
}

pub queue_is : (old : OwnSession) (queue held : Queue) (kept : Option Kept) → own queue kept ≡ old → old.queue ≡ held → queue ≡ held
queue_is old queue held kept is known = ap (λ (session : OwnSession). session.queue) is ∙ known

pub queue_was : (old : OwnSession) (queue held : Queue) (kept : Option Kept) → own queue kept ≡ old → queue ≡ held → own held kept ≡ old
queue_was old queue held kept is known = ap (λ (q : Queue). own q kept) (sym known) ∙ is

-- ---- the queue alone

pub moves_to : (before after : Holding) (old : OwnSession) (queue new : Queue) (kept : Option Kept) (t : Statement) (answer : Answer)
    → Sees before after → own queue kept ≡ old → Moves queue t new (reply_of answer) → StepsOver before old t after (own new kept) answer
moves_to before after old queue new kept t answer sees is moves =
    subst (λ (session : OwnSession). StepsOver before session t after (own new kept) answer) is
    (λ body. turns (record { queue = new; moves = moves; becomes = becomes_over before after queue new kept kept sees }))

pub moves_by : (before after : Holding) (old : OwnSession) (queue new : Queue) (kept : Option Kept) (t : Statement) (answer : Answer) (reply : ReplyData)
    → Sees before after → own queue kept ≡ old → Moves queue t new reply → reply_of answer ≡ reply → StepsOver before old t after (own new kept) answer
moves_by before after old queue new kept t answer reply sees is moves shown =
    moves_to before after old queue new kept t answer sees is (subst (Moves queue t new) (sym shown) moves)

-- ---- an accepted commit

row_accepts : (before after : Holding) (queue : Queue) (kept : Option Kept) (t : Statement) (commit : List Change) (shows : ℕ → ℕ → ReplyData) (answer : Answer) (committed : Committed)
    (joins : Joins before after commit committed) → Makes queue t commit shows
    → reply_of answer ≡ shows (row_count (states_of joins.before) commit) (length after.held)
    → StepsOver before (own queue kept) t after (own None kept) answer
row_accepts before after queue kept t commit shows answer committed joins makes shown body =
    let number : length after.held ≡ suc (length joins.before) = ap (λ (h : History). length h) joins.joins.history ∙ length_more joins.before commit in
    let least = longer_prefix before.held joins.before joins.held in
    accepts (record {
      commit = commit;
      shows = shows;
      makes = makes;
      before = joins.before;
      commits = record {
        sees = record { within = omega arith; later = omega (arith, number, least) };
        last = take_all after.held ∙ joins.joins.history;
        number = number;
        rose = omega (arith, number, least);
        own = joins.own;
        queue = refl;
        kept = refl;
      };
      good = joins.joins.faultless;
      shown = shown;
    })

accepted_shown : (before after : Holding) (commit : List Change) (shows : ℕ → ℕ → ReplyData) (accepted : AcceptedAs) (committed : Committed) (joins : Joins before after commit committed)
    → ((rows version : ℕ) → shown_as accepted rows version ≡ shows rows version)
    → shown_as accepted committed.rows committed.version ≡ shows (row_count (states_of joins.before) commit) (length after.held)
accepted_shown before after commit shows accepted committed joins same =
    same committed.rows committed.version ∙ ap (λ (n : ℕ). shows n committed.version) joins.joins.rows
    ∙ ap (shows (row_count (states_of joins.before) commit)) joins.joins.version

pub accepted_steps : (before after : Holding) (old : OwnSession) (queue : Queue) (kept : Option Kept) (t : Statement) (commit : List Change) (shows : ℕ → ℕ → ReplyData) (accepted : AcceptedAs) (committed : Committed)
    → own queue kept ≡ old → Makes queue t commit shows → ((rows version : ℕ) → shown_as accepted rows version ≡ shows rows version)
    → Joins before after commit committed → StepsOver before old t after (own None kept) (Accepted accepted committed)
accepted_steps before after old queue kept t commit shows accepted committed is makes same joins =
    subst (λ (session : OwnSession). StepsOver before session t after (own None kept) (Accepted accepted committed)) is
    (row_accepts before after queue kept t commit shows (Accepted accepted committed) committed joins makes (accepted_shown before after commit shows accepted committed joins same))

-- ---- refusals

row_refuses : (before after : Holding) (queue : Queue) (kept : Option Kept) (t : Statement) (due : Refusal) (answer : Answer)
    → Sees before after → Refuses after.held queue t due → IsToldOf due answer → StepsOver before (own queue kept) t after (own queue kept) answer
row_refuses before after queue kept t due answer sees why (inl told) body =
    let same = take_all after.held in
    refuses (record { stays = becomes_over before after queue queue kept kept sees; cause = due; why = rw same why; shown = told })
row_refuses before after queue kept t due answer sees why (inr told) body =
    let same = take_all after.held in
    is_not_built (record { stays = becomes_over before after queue queue kept kept sees; is = rw same (nameless due why told.1); shown = told.0 })

pub told_of : (due : Refusal) (refusal : Option Told) (answer : Answer) → IsToldAs due refusal → RefusedSo refusal answer → IsToldOf due answer
told_of due None answer nameless_is shown = inr (shown, nameless_is)
told_of due (Some told) answer is shown = inl (shown ∙ ap refusal_of is)

-- a refusal that is told
pub refused_steps : (before after : Holding) (old : OwnSession) (queue : Queue) (kept : Option Kept) (t : Statement) (due : Refusal) (refusal : Option Told) (result : Result Answer AllocError)
    → Sees before after → own queue kept ≡ old → Refuses after.held queue t due → IsToldAs due refusal → IfOk result (RefusedSo refusal)
    → IfOk result (StepsOver before old t after (own queue kept))
refused_steps before after old queue kept t due refusal (Ok answer) sees is why told shown =
    subst (λ (session : OwnSession). StepsOver before session t after (own queue kept) answer) is (row_refuses before after queue kept t due answer sees why (told_of due refusal answer told shown))
refused_steps before after old queue kept t due refusal (Err error) sees is why told shown = tt

-- a refusal without a name
pub plainly_refused : (before after : Holding) (old : OwnSession) (queue : Queue) (kept : Option Kept) (t : Statement) (due : Refusal) (result : Result Answer AllocError)
    → Sees before after → own queue kept ≡ old → Refuses after.held queue t due → IfOk result (λ (answer : Answer). reply_of answer ≡ refusal_of due)
    → IfOk result (StepsOver before old t after (own queue kept))
plainly_refused before after old queue kept t due (Ok answer) sees is why shown =
    subst (λ (session : OwnSession). StepsOver before session t after (own queue kept) answer) is (row_refuses before after queue kept t due answer sees why (inl shown))
plainly_refused before after old queue kept t due (Err error) sees is why shown = tt

-- a refused commit
commit_due : (history : History) (queue : Queue) (t : Statement) (commit : List Change) (shows : ℕ → ℕ → ReplyData) (fault : CommitFault) (answer : Answer)
    → Makes queue t commit shows → (slice_get (commit_faults (states_of history) commit) 0 ≡ Some fault) ⊎ IsMemory fault → RefusesCommit fault answer → Refuses history queue t (commit_cause fault)
commit_due history queue t commit shows fault answer makes (inl first) told = in_commit queue t commit shows fault makes first
commit_due history queue t commit shows fault answer makes (inr memory) told = absurd (told.0 memory.kind)

pub commit_refused : (before after : Holding) (old : OwnSession) (queue : Queue) (kept : Option Kept) (t : Statement) (commit : List Change) (shows : ℕ → ℕ → ReplyData) (fault : CommitFault) (result : Result Answer AllocError)
    → own queue kept ≡ old → Makes queue t commit shows → Declined before after commit fault → IfOk result (RefusesCommit fault)
    → IfOk result (StepsOver before old t after (own queue kept))
commit_refused before after old queue kept t commit shows fault (Ok answer) is makes comes told =
    subst (λ (session : OwnSession). StepsOver before session t after (own queue kept) answer) is
    (row_refuses before after queue kept t (commit_cause fault) answer comes.sees (commit_due after.held queue t commit shows fault answer makes comes.due told) told.1)
commit_refused before after old queue kept t commit shows fault (Err error) is makes comes told = tt

-- ---- BEGIN and ROLLBACK, and COMMIT without a transaction

pub begin_refused : (vault : Holding) (old : OwnSession) (queue : Queue) (kept : Option Kept) (result : Result Answer AllocError)
    → own queue kept ≡ old → is_some queue ≡ true → IfOk result (λ (answer : Answer). reply_of answer ≡ refusal_of refusals.in_transaction)
    → IfOk result (StepsOver vault old statements.Begin vault old)
begin_refused vault old None kept result is opened shown = absurd (cc opened)
begin_refused vault old (Some list) kept result is opened shown =
    subst (λ (session : OwnSession). IfOk result (StepsOver vault old statements.Begin vault session)) is
    (plainly_refused vault vault old (Some list) kept statements.Begin refusals.in_transaction result (sees_same vault) is (at_begin list) shown)

pub begins_now : (vault : Holding) (old : OwnSession) (queue : Queue) (kept : Option Kept) (list : List Change) (reply : ReplyData)
    → own queue kept ≡ old → is_some queue ≡ false → reply ≡ answers.begun → list ≡ [] → StepsOver vault old statements.Begin vault (own (Some list) kept) (Made reply)
begins_now vault old None kept list reply is free shown empty =
    moves_by vault vault old None (Some list) kept statements.Begin (Made reply) answers.begun (sees_same vault) is
    (subst (λ (l : List Change). Moves None statements.Begin (Some l) answers.begun) (sym empty) begins) shown
begins_now vault old (Some open_queue) kept list reply is free shown empty = absurd (cc free)

pub unopened : (vault : Holding) (old : OwnSession) (t : Statement) (queue left : Queue) (kept : Option Kept) (result : Result Answer AllocError)
    → own queue kept ≡ old → queue ≡ None → left ≡ None → ((history : History) → Refuses history None t refusals.not_in_transaction)
    → IfOk result (λ (answer : Answer). reply_of answer ≡ refusal_of refusals.not_in_transaction)
    → IfOk result (StepsOver vault old t vault (own left kept))
unopened vault old t queue left kept result is free after why shown =
    subst (λ (q : Queue). IfOk result (StepsOver vault old t vault (own q kept))) (sym after)
    (plainly_refused vault vault old None kept t refusals.not_in_transaction result (sees_same vault) (queue_was old queue None kept is free) (why vault.held) shown)

none_open : (queue : Queue) → is_some queue ≡ false → queue ≡ None
none_open None free = refl
none_open (Some list) free = absurd (cc free)

pub roll_back_refused : (vault : Holding) (old : OwnSession) (queue : Queue) (kept : Option Kept) (result : Result Answer AllocError)
    → own queue kept ≡ old → is_some queue ≡ false → IfOk result (λ (answer : Answer). reply_of answer ≡ refusal_of refusals.not_in_transaction)
    → IfOk result (StepsOver vault old statements.Rollback vault old)
roll_back_refused vault old queue kept result is free shown =
    let none = none_open queue free in
    subst (λ (session : OwnSession). IfOk result (StepsOver vault old statements.Rollback vault session)) (queue_was old queue None kept is none)
    (unopened vault old statements.Rollback queue None kept result is none refl (λ (history : History). at_rollback) shown)

pub rolls_back_now : (vault : Holding) (old : OwnSession) (queue : Queue) (kept : Option Kept) (reply : ReplyData)
    → own queue kept ≡ old → is_some queue ≡ true → reply ≡ answers.rolled_back → StepsOver vault old statements.Rollback vault (own None kept) (Made reply)
rolls_back_now vault old None kept reply is opened shown = absurd (cc opened)
rolls_back_now vault old (Some list) kept reply is opened shown =
    moves_by vault vault old (Some list) None kept statements.Rollback (Made reply) answers.rolled_back (sees_same vault) is (rolls_back list) shown

-- ---- statements that aren't performed

pub row_other : (vault : Holding) (session : OwnSession) (t : Statement) (answer : Answer)
    → IsOther vault.held session.queue t → reply_of answer ≡ refusal_of not_built
    → StepsOver vault session t vault session answer
row_other vault session t answer other shown body =
    let same = take_all vault.held in
    is_not_built (record { stays = becomes_over vault vault session.queue session.queue session.kept session.kept (sees_same vault); is = rw same other; shown = shown })

pub no_column : (history : History) (queue : Queue) (t : Statement) → is_changing t ≡ true → change_of t ≡ None → IsOther history queue t
no_column history queue (statements.Create table []) is none = columnless table refl
no_column history queue (statements.Create table (column ∷ columns)) is none = absurd (cc none)
no_column history queue (statements.Insert table rows) is none = absurd (cc none)
no_column history queue (statements.Update table sets filter) is none = absurd (cc none)
no_column history queue (statements.Delete table filter) is none = absurd (cc none)
no_column history queue (statements.Partition table columns size radius) is none = absurd (cc none)
no_column history queue (statements.Vacuum version) is none = absurd (cc none)
no_column history queue (statements.Load table bytes) is none = absurd (cc is)
no_column history queue (statements.Query query) is none = absurd (cc is)
no_column history queue statements.Begin is none = absurd (cc is)
no_column history queue statements.Commit is none = absurd (cc is)
no_column history queue statements.Rollback is none = absurd (cc is)
no_column history queue statements.Certificate is none = absurd (cc is)

-- ---- CERTIFICATE

row_certifies : (vault : Holding) (session : OwnSession) (answer : Answer) → reply_of answer ≡ certificate_of session.kept
    → StepsOver vault session statements.Certificate vault session answer
row_certifies vault session answer shown body =
    certifies (record { is = refl; stays = becomes_over vault vault session.queue session.queue session.kept session.kept (sees_same vault); shown = shown })

kept_is : (old : OwnSession) (queue : Queue) (kept known : Option Kept) → own queue kept ≡ old → kept ≡ known → old.kept ≡ known
kept_is old queue kept known is same = ap (λ (session : OwnSession). session.kept) (sym is) ∙ same

pub uncertified : (vault : Holding) (old : OwnSession) (queue : Queue) (kept : Option Kept) (result : Result Answer AllocError)
    → own queue kept ≡ old → kept ≡ None → IfOk result (λ (answer : Answer). reply_of answer ≡ refusal_of refusals.no_certificate)
    → IfOk result (StepsOver vault old statements.Certificate vault old)
uncertified vault old queue kept (Ok answer) is none shown =
    row_certifies vault old answer (shown ∙ sym (ap certificate_of (kept_is old queue kept None is none)))
uncertified vault old queue kept (Err error) is none shown = tt

pub certified : (vault : Holding) (old : OwnSession) (queue : Queue) (kept : Option Kept) (held : Kept) (bytes : List ℕ) (reply : ReplyData)
    → own queue kept ≡ old → kept ≡ Some held → bytes ≡ cert_text (kept_cert held.problem held.claim held.pairs held.tree)
    → reply ≡ answers.certificate bytes → StepsOver vault old statements.Certificate vault old (Made reply)
certified vault old queue kept held bytes reply is some written shown =
    row_certifies vault old (Made reply)
    (shown ∙ ap answers.certificate written ∙ sym (ap certificate_of (kept_is old queue kept (Some held) is some)))

-- ---- queries

exact_if : (query : Query) (b : Bool) → IsTrue b → (if b then Some query else None) ≡ Some query
exact_if query true is = refl
exact_if query false is = absurd (cc is)

pub exactly : (query : Query) → IsTrue (is_exact query.method) → query_of (statements.Query query) ≡ Some query
exactly query is = exact_if query (is_exact query.method) is

-- what a version shows that was asked for, or the last
pub record Shows (history : History) (version : Option ℕ) (snapshot : Snapshot) : Type 0 where
  pub there : IsThere history version
  pub tables : snapshot.tables ≡ (state_at history (unwrap_or version (length history))).tables
  pub number : snapshot.version ≡ unwrap_or version (length history)

pub looked : (history : History) (version : Option ℕ) (snapshot : Snapshot) → Looks history version (Ok snapshot) → Shows history version snapshot
looked history None snapshot is = record { there = tt; tables = ap (λ (s : Snapshot). s.tables) is; number = ap (λ (s : Snapshot). s.version) is }
looked history (Some asked) snapshot is = record { there = is.0; tables = ap (λ (s : Snapshot). s.tables) is.1; number = ap (λ (s : Snapshot). s.version) is.1 }

pub asked_steps : (before after : Holding) (old : OwnSession) (queue : Queue) (was : Option Kept) (query : Query) (snapshot : Snapshot) (reply : ReplyData) (kept : Kept) (answer : Answer)
    → Sees before after → own queue was ≡ old → IsTrue (is_exact query.method) → Looks after.held query.version (Ok snapshot)
    → Solves snapshot.tables snapshot.version query reply kept → reply_of answer ≡ reply
    → StepsOver before old (statements.Query query) after (own queue (Some kept)) answer
asked_steps before after old queue was query snapshot reply kept answer sees is exact looks solves shown =
    let history = after.held in
    let shows = looked history query.version snapshot looks in
    let on_tables : Solves (tables_of history query) snapshot.version query reply kept = subst (λ (tables : List Table). Solves tables snapshot.version query reply kept) shows.tables solves in
    let on_version : Solves (tables_of history query) (version_of history query) query reply kept = subst (λ (n : ℕ). Solves (tables_of history query) n query reply kept) shows.number on_tables in
    let here : Solves (tables_of history query) (version_of history query) query (reply_of answer) kept = subst (λ (r : ReplyData). Solves (tables_of history query) (version_of history query) query r kept) (sym shown) on_version in
    let same = take_all history in
    subst (λ (session : OwnSession). StepsOver before session (statements.Query query) after (own queue (Some kept)) answer) is
    (λ body. asks (record {
      query = query;
      is = exactly query exact;
      kept = kept;
      becomes = becomes_over before after queue queue was (Some kept) sees;
      there = rw same shows.there;
      solves = rw same here;
    }))

pub query_refused : (before after : Holding) (old : OwnSession) (queue : Queue) (kept : Option Kept) (query : Query) (snapshot : Snapshot) (due : Refusal) (refusal : Option Told) (result : Result Answer AllocError)
    → Sees before after → own queue kept ≡ old → IsTrue (is_exact query.method) → Looks after.held query.version (Ok snapshot)
    → RefusesQuery snapshot.tables query due → IsToldAs due refusal → IfOk result (RefusedSo refusal)
    → IfOk result (StepsOver before old (statements.Query query) after (own queue kept))
query_refused before after old queue kept query snapshot due refusal result sees is exact looks why told shown =
    let history = after.held in
    let shows = looked history query.version snapshot looks in
    let on_tables : RefusesQuery (tables_of history query) query due = subst (λ (tables : List Table). RefusesQuery tables query due) shows.tables why in
    refused_steps before after old queue kept (statements.Query query) due refusal result sees is (in_query queue (statements.Query query) query due (exactly query exact) shows.there on_tables) told shown

pub missed : (history : History) (query : Query) (version : Option ℕ) (asked low high : ℕ) → query.version ≡ version → Looks history version (Err (vault.Unkept asked low high)) → Misses history version (vault.Unkept asked low high)
missed history query None asked low high is misses = misses
missed history query (Some version) asked low high is misses = misses

pub version_refused : (before after : Holding) (old : OwnSession) (queue : Queue) (kept : Option Kept) (query : Query) (asked low high : ℕ) (result : Result Answer AllocError)
    → Sees before after → own queue kept ≡ old → IsTrue (is_exact query.method) → Looks after.held query.version (Err (vault.Unkept asked low high))
    → IfOk result (RefusedSo (Some (Bind None (bindings.Unkept asked high low))))
    → IfOk result (StepsOver before old (statements.Query query) after (own queue kept))
version_refused before after old queue kept query asked low high result sees is exact looks shown =
    let history = after.held in
    let misses = missed history query query.version asked low high refl looks in
    let due : Refusal = refusals.unkept None asked (length history) (replay history).low in
    let told : cause (Bind None (bindings.Unkept asked high low)) ≡ due = ap (λ (h : ℕ). refusals.unkept None asked h low) misses.2 ∙ ap (refusals.unkept None asked (length history)) misses.1 in
    refused_steps before after old queue kept (statements.Query query) due (Some (Bind None (bindings.Unkept asked high low))) result sees is
    (in_version queue (statements.Query query) query asked (exactly query exact) misses.0 misses.3) told shown

-- ---- the statement as it was matched

pub performs : (old new : SessionData) (t s : Statement) (body : Content) (result : Result Answer AllocError) → s ≡ t → IfOk result (StepsTo old t new)
    → IfOk result (λ (answer : Answer). Steps new.history old.state s body (reply_of answer) new.state)
performs old new t s body (Ok answer) is steps = subst (λ (u : Statement). Steps new.history old.state u body (reply_of answer) new.state) (sym is) (steps body)
performs old new t s body (Err error) is steps = tt

-- ---- a change, whatever statement it is of

-- each statement that is this change goes from one session to the other
abbrev pub Changes : Holding → OwnSession → Change → Holding → OwnSession → Answer → Type 0
Changes before old change after new answer = (t : Statement) → change_of t ≡ Some change → StepsOver before old t after new answer

pub of_change : (before after : Holding) (old new : OwnSession) (t : Statement) (change : Change) (result : Result Answer AllocError)
    → change_of t ≡ Some change → IfOk result (Changes before old change after new) → IfOk result (StepsOver before old t after new)
of_change before after old new t change (Ok answer) is changes = changes t is
of_change before after old new t change (Err error) is changes = tt

pub queued_steps : (vault : Holding) (old : OwnSession) (kept : Option Kept) (queue new : List Change) (change : Change) (result : Result Answer AllocError)
    → own (Some queue) kept ≡ old → IfOk result (λ (answer : Answer). reply_of answer ≡ answers.queued (length queue + 1)) → OnOk result (new ≡ queue ++ change ∷ [])
    → IfOk result (Changes vault old change vault (own (Some new) kept))
queued_steps vault old kept queue new change (Ok answer) is shown pushed =
    λ t of. moves_by vault vault old (Some queue) (Some new) kept t answer (answers.queued (length queue + 1)) (sees_same vault) is
    (subst (λ (held : List Change). Moves (Some queue) t (Some held) (answers.queued (length queue + 1))) (sym pushed) (queues t queue change of)) shown
queued_steps vault old kept queue new change (Err error) is shown pushed = tt

pub alone_accepted : (before after : Holding) (old : OwnSession) (queue : Queue) (kept : Option Kept) (change : Change) (begun list : List Change) (accepted : AcceptedAs) (committed : Committed)
    → own queue kept ≡ old → old.queue ≡ None → begun ≡ [] → list ≡ begun ++ change ∷ []
    → ((rows version : ℕ) → shown_as accepted rows version ≡ shown_to change rows version)
    → Joins before after list committed → Changes before old change after (own queue kept) (Accepted accepted committed)
alone_accepted before after old queue kept change begun list accepted committed is none empty pushed same comes =
    let free : queue ≡ None = queue_is old queue None kept is none in
    let one : list ≡ change ∷ [] = pushed ∙ ap (λ (start : List Change). start ++ change ∷ []) empty in
    λ t of. subst (λ (q : Queue). StepsOver before old t after (own q kept) (Accepted accepted committed)) (sym free)
    (accepted_steps before after old None kept t (change ∷ []) (shown_to change) accepted committed (queue_was old queue None kept is free) (alone t change of) same
    (subst (λ (commit : List Change). Joins before after commit committed) one comes))

pub alone_refused : (before after : Holding) (old : OwnSession) (queue : Queue) (kept : Option Kept) (change : Change) (begun list : List Change) (fault : CommitFault) (result : Result Answer AllocError)
    → own queue kept ≡ old → old.queue ≡ None → begun ≡ [] → list ≡ begun ++ change ∷ []
    → Declined before after list fault → IfOk result (RefusesCommit fault)
    → IfOk result (Changes before old change after (own queue kept))
alone_refused before after old queue kept change begun list fault (Ok answer) is none empty pushed comes told =
    let free : queue ≡ None = queue_is old queue None kept is none in
    let one : list ≡ change ∷ [] = pushed ∙ ap (λ (start : List Change). start ++ change ∷ []) empty in
    λ t of. subst (λ (q : Queue). StepsOver before old t after (own q kept) answer) (sym free)
    (commit_refused before after old None kept t (change ∷ []) (shown_to change) fault (Ok answer) (queue_was old queue None kept is free) (alone t change of)
    (subst (λ (commit : List Change). Declined before after commit fault) one comes) told)
alone_refused before after old queue kept change begun list fault (Err error) is none empty pushed comes told = tt

-- ---- COMMIT

pub commit_accepted : (before after : Holding) (old : OwnSession) (queue left : Queue) (kept : Option Kept) (list : List Change) (count : ℕ) (committed : Committed)
    → own queue kept ≡ old → queue ≡ Some list → left ≡ None → count ≡ length list → Joins before after list committed
    → StepsOver before old statements.Commit after (own left kept) (Accepted (Transaction count) committed)
commit_accepted before after old queue left kept list count committed is some free counted comes =
    subst (λ (q : Queue). StepsOver before old statements.Commit after (own q kept) (Accepted (Transaction count) committed)) (sym free)
    (accepted_steps before after old (Some list) kept statements.Commit list (answers.committed (length list)) (Transaction count) committed (queue_was old queue (Some list) kept is some) (whole list)
    (λ (rows version : ℕ). ap (λ (n : ℕ). answers.committed n rows version) counted) comes)

pub commit_declined : (before after : Holding) (old : OwnSession) (queue : Queue) (kept : Option Kept) (list back : List Change) (fault : CommitFault) (result : Result Answer AllocError)
    → own queue kept ≡ old → queue ≡ Some list → Declined before after list fault × (back ≡ list) → IfOk result (RefusesCommit fault)
    → IfOk result (StepsOver before old statements.Commit after (own (Some back) kept))
commit_declined before after old queue kept list back fault result is some comes told =
    subst (λ (held : List Change). IfOk result (StepsOver before old statements.Commit after (own (Some held) kept))) (sym comes.1)
    (commit_refused before after old (Some list) kept statements.Commit list (answers.committed (length list)) fault result (queue_was old queue (Some list) kept is some) (whole list) comes.0 told)

-- the same session told otherwise
pub same_before : (before after : Holding) (told old new : OwnSession) (change : Change) (result : Result Answer AllocError)
    → told ≡ old → IfOk result (Changes before told change after new) → IfOk result (Changes before old change after new)
same_before before after told old new change result is changes = subst (λ (session : OwnSession). IfOk result (Changes before session change after new)) is changes
