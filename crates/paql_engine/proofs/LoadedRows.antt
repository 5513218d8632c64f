-- What a LOAD does to a session, over what its vault holds.
use Rattle.std.proofs.Common.{◌≡◌, ℕ, suc, ◌+◌, List, [], ◌∷◌, ◌++◌, length, Option, Some, None, Result, Ok, Err, inl, inr, refl, sym, ap, ◌∙◌, ◌⊎◌, subst, append_assoc, true, arith}
use Rattle.std.specs.Prelude.{is_some, IfOk, slice_get}
use Rattle.std.specs.declared.alloc.AllocError.{AllocError}
use Rattle.paql_ast.specs.declared.statements.Statement.{Statement}
use Rattle.paql_ast.specs.declared.statements.Statement.TheVariants as statements
use Rattle.schema_types.specs.declared.Lit.{Lit}
use Rattle.session_proto.specs.Answers as answers
use Rattle.session_proto.specs.Input.{Content}
use Rattle.session_proto.specs.Refusals as refusals
use Rattle.session_proto.specs.Refusals.{Refusal, refusal_of}
use Rattle.session_proto.specs.declared.refusals.Refusal.{Refusal as Told}
use Rattle.snapshots.specs.States.{State}
use Rattle.snapshots.specs.declared.snapshot.Snapshot.{Snapshot}
use Rattle.snapshots.specs.declared.tables.Table.{Table}
use Rattle.version_store.specs.Answers.{IsMemory, shown}
use Rattle.version_store.specs.Histories.{History, states_of, new_version, replay, commit_faults, row_count}
use Rattle.version_store.specs.Vaults.{Holding, IsPrefix, Sees, Accepts as Joins, Refused as Declined}
use Rattle.version_store.specs.declared.changes.Change.{Change}
use Rattle.version_store.specs.declared.changes.Change.TheVariants as changes
use Rattle.version_store.specs.declared.faults.CommitFault.{CommitFault}
use Rattle.version_store.specs.declared.store.Committed.{Committed}
use Rattle.version_store.proofs.Keeping.{last_shown}
use Rattle.version_store.proofs.Longer.{versions_of}
use Rattle.paql_engine.specs.Loading.{RefusesBody, RefusesLoad, insert_of, in_transaction, in_rows, in_insert}
use Rattle.csv_load.specs.Loading.{OrMemory}
use Rattle.csv_load.specs.declared.loading.LoadFault.{LoadFault}
use Rattle.csv_load.specs.declared.loading.LoadFault.TheVariants as load_faults
use Rattle.paql_engine.specs.LoadSteps.{IsGiven, AreMany, many_faults, Inserts, LoadsTo, IsMemoryFault, accepted, declined}
use Rattle.paql_engine.specs.Refused.{commit_cause}
use Rattle.paql_engine.specs.Replied.{reply_of}
use Rattle.paql_engine.specs.Showing.{IsToldAs, IsToldOf, RefusedSo, RefusesCommit}
use Rattle.paql_engine.specs.State.{SessionData, OwnSession, session_over}
use Rattle.paql_engine.specs.Steps.{Steps, Queue, loads, refuses_load}
use Rattle.paql_engine.specs.declared.accepted.Accepted.TheVariants.{Loaded}
use Rattle.paql_engine.specs.declared.session.Answer.{Answer}
use Rattle.paql_engine.specs.declared.session.Answer.TheVariants.{Accepted}
use Rattle.paql_engine.proofs.Columns.{columns_stay}
use Rattle.paql_engine.proofs.ManyRows.{given_fit, many_due}
use Rattle.paql_engine.proofs.Rows.{becomes_over, sees_same, take_all, length_more, longer_prefix, told_of}

-- a LOAD over a vault that holds this before and that after it, which leaves what the session itself keeps
abbrev pub LoadsOver : Holding → OwnSession → List ℕ → Content → Holding → Answer → Type 0
LoadsOver before session name body after answer = LoadsTo (session_over before session) name body (session_over after session) answer

-- ---- what a vault has seen at two moments

prefix_on : (one two three : History) → IsPrefix one two → IsPrefix two three → IsPrefix one three
prefix_on one two three first next = (first.0 ++ next.0, next.1 ∙ ap (λ (h : History). h ++ next.0) first.1 ∙ append_assoc one first.0 next.0)

sees_on : (before mid after : Holding) → Sees before mid → Sees mid after → Sees before after
sees_on before mid after first next = record {
  held = prefix_on before.held mid.held after.held first.held next.held;
  own = next.own ∙ first.own;
  stake = next.stake ∙ first.stake;
}

-- the tables of the last version
pub last_tables : (history : History) (snapshot : Snapshot) → snapshot ≡ shown history (length history) → snapshot.tables ≡ (replay history).tables
last_tables history snapshot is = ap (λ (s : Snapshot). s.tables) is ∙ ap (λ (s : State). s.tables) (last_shown history)

-- ---- the commit of rows

pub insert_accepted : (before after : Holding) (name : List ℕ) (rows : List (List Lit)) (begun list : List Change) (committed : Committed)
    → begun ≡ [] → list ≡ begun ++ changes.Insert name rows ∷ [] → Joins before after list committed → Inserts before after name rows (Accepted Loaded committed)
insert_accepted before after name rows begun list committed empty pushed comes =
    let one : list ≡ insert_of name rows = pushed ∙ ap (λ (start : List Change). start ++ changes.Insert name rows ∷ []) empty in
    accepted committed (subst (λ (commit : List Change). Joins before after commit committed) one comes)

pub insert_declined : (before after : Holding) (name : List ℕ) (rows : List (List Lit)) (begun list : List Change) (fault : CommitFault) (result : Result Answer AllocError)
    → begun ≡ [] → list ≡ begun ++ changes.Insert name rows ∷ [] → Declined before after list fault → IfOk result (RefusesCommit fault) → IfOk result (Inserts before after name rows)
insert_declined before after name rows begun list fault (Ok answer) empty pushed comes told =
    let one : list ≡ insert_of name rows = pushed ∙ ap (λ (start : List Change). start ++ changes.Insert name rows ∷ []) empty in
    declined fault answer (subst (λ (commit : List Change). Declined before after commit fault) one comes) told
insert_declined before after name rows begun list fault (Err error) empty pushed comes told = tt

-- ---- the rows are committed

load_accepted : (before mid after : Holding) (session : OwnSession) (name : List ℕ) (body : Content) (rows : List (List Lit)) (committed : Committed)
    → session.queue ≡ None → Sees before mid → IsGiven (replay mid.held).tables name body rows → Joins mid after (insert_of name rows) committed
    → LoadsOver before session name body after (Accepted Loaded committed)
load_accepted before mid after session name body rows committed free sees given joins bytes =
    let number : length after.held ≡ suc (length joins.before) = ap (λ (h : History). length h) joins.joins.history ∙ length_more joins.before (insert_of name rows) in
    let least = longer_prefix before.held joins.before (prefix_on before.held mid.held joins.before sees.held joins.held) in
    loads (record {
      name = name;
      bytes = bytes;
      is = refl;
      free = free;
      before = joins.before;
      columns = given.columns;
      there = columns_stay mid.held joins.before name given.columns joins.held given.there;
      rows = rows;
      gives = given.gives;
      commits = record {
        sees = record { within = omega arith; later = omega (arith, number, least) };
        last = take_all after.held ∙ joins.joins.history;
        number = number;
        rose = omega (arith, number, least);
        own = joins.own ∙ ap suc sees.own;
        queue = free;
        kept = refl;
      };
      good = joins.joins.faultless;
      shown = ap (λ (n : ℕ). answers.loaded n committed.version) joins.joins.rows ∙ ap (answers.loaded (row_count (states_of joins.before) (insert_of name rows))) joins.joins.version;
    })

-- ---- refusals

load_refused : (before after : Holding) (session : OwnSession) (name : List ℕ) (body : Content) (due : Refusal) (answer : Answer)
    → Sees before after → RefusesLoad after.held name body session.queue due → IsToldOf due answer → LoadsOver before session name body after answer
load_refused before after session name body due answer sees why told bytes =
    let same = take_all after.held in
    refuses_load (record {
      name = name;
      bytes = bytes;
      is = refl;
      stays = becomes_over before after session.queue session.queue session.kept session.kept sees;
      cause = due;
      why = rw same why;
      tells = told;
    })

insert_due : (history : History) (name : List ℕ) (body : Content) (rows : List (List Lit)) (fault : CommitFault) (answer : Answer) → IsGiven (replay history).tables name body rows
    → (slice_get (commit_faults (states_of history) (insert_of name rows)) 0 ≡ Some fault) ⊎ IsMemory fault → RefusesCommit fault answer → RefusesLoad history name body None (commit_cause fault)
insert_due history name body rows fault answer given (inl first) told = in_insert given.columns rows fault given.there given.gives first
insert_due history name body rows fault answer given (inr memory) told = absurd (told.0 memory.kind)

load_declined : (before mid after : Holding) (session : OwnSession) (name : List ℕ) (body : Content) (rows : List (List Lit)) (fault : CommitFault) (answer : Answer)
    → session.queue ≡ None → Sees before mid → IsGiven (replay mid.held).tables name body rows → Declined mid after (insert_of name rows) fault → RefusesCommit fault answer
    → LoadsOver before session name body after answer
load_declined before mid after session name body rows fault answer free sees given comes told =
    let later : IsGiven (replay after.held).tables name body rows = record {
      columns = given.columns;
      there = columns_stay mid.held after.held name given.columns comes.sees.held given.there;
      gives = given.gives;
    } in
    let due = insert_due after.held name body rows fault answer later comes.due told in
    load_refused before after session name body (commit_cause fault) answer (sees_on before mid after sees comes.sees)
    (subst (λ (queue : Queue). RefusesLoad after.held name body queue (commit_cause fault)) (sym free) due) told.1

inserted_steps : (before mid after : Holding) (session : OwnSession) (name : List ℕ) (body : Content) (rows : List (List Lit)) (answer : Answer)
    → session.queue ≡ None → Sees before mid → IsGiven (replay mid.held).tables name body rows → Inserts mid after name rows answer → LoadsOver before session name body after answer
inserted_steps before mid after session name body rows answer free sees given (accepted committed joins) = load_accepted before mid after session name body rows committed free sees given joins
inserted_steps before mid after session name body rows answer free sees given (declined fault same comes told) = load_declined before mid after session name body rows fault same free sees given comes told

-- ---- what is found of a body

-- the fault of a body, if memory isn't out
pub fault_given : (Given : Result (List (List Lit)) LoadFault → Type 0) (fault : LoadFault) → OrMemory Given (Err fault) → ¬ IsMemoryFault fault → Given (Err fault)
fault_given Given load_faults.LimitBytes given other = given
fault_given Given load_faults.Header given other = given
fault_given Given (load_faults.BadRecord number) given other = given
fault_given Given (load_faults.BadCell number place) given other = given
fault_given Given (load_faults.Memory error) given other = absurd (other tt)

-- ---- the LOAD of a session

pub rows_loaded : (before mid after : Holding) (session : OwnSession) (name : List ℕ) (body : Content) (snapshot : Snapshot) (rows : List (List Lit)) (result : Result Answer AllocError)
    → session.queue ≡ None → Sees before mid → snapshot ≡ shown mid.held (length mid.held) → IsGiven snapshot.tables name body rows
    → IfOk result (Inserts mid after name rows) → IfOk result (LoadsOver before session name body after)
rows_loaded before mid after session name body snapshot rows (Ok answer) free sees looked given inserts =
    inserted_steps before mid after session name body rows answer free sees (subst (λ (tables : List Table). IsGiven tables name body rows) (last_tables mid.held snapshot looked) given) inserts
rows_loaded before mid after session name body snapshot rows (Err error) free sees looked given inserts = tt

pub body_refused : (before after : Holding) (session : OwnSession) (name : List ℕ) (body : Content) (snapshot : Snapshot) (due : Refusal) (refusal : Option Told) (result : Result Answer AllocError)
    → session.queue ≡ None → Sees before after → snapshot ≡ shown after.held (length after.held) → RefusesBody snapshot.tables name body due → IsToldAs due refusal
    → IfOk result (RefusedSo refusal) → IfOk result (LoadsOver before session name body after)
body_refused before after session name body snapshot due refusal (Ok answer) free sees looked why told says =
    let on_last = subst (λ (tables : List Table). RefusesBody tables name body due) (last_tables after.held snapshot looked) why in
    load_refused before after session name body due answer sees
    (subst (λ (queue : Queue). RefusesLoad after.held name body queue due) (sym free) (in_rows due on_last)) (told_of due refusal answer told says)
body_refused before after session name body snapshot due refusal (Err error) free sees looked why told says = tt

-- more rows than a commit may insert
many_refused : (history : History) (name : List ℕ) (body : Content) (version count : ℕ) (fault : CommitFault) → version ≡ length history → AreMany (replay history).tables name body count
    → slice_get (many_faults (version + 1) count) 0 ≡ Some fault → RefusesLoad history name body None (commit_cause fault)
many_refused history name body version count fault is many first =
    let columns = many.given.columns in
    let next : new_version (states_of history) ≡ version + 1 = versions_of history ∙ ap (λ (n : ℕ). n + 1) (sym is) in
    let due : slice_get (many_faults (new_version (states_of history)) (length many.rows)) 0 ≡ Some fault = rw (next, sym many.number) first in
    in_insert columns many.rows fault many.given.there many.given.gives
    (many_due (states_of history) name columns many.rows fault many.given.there (given_fit columns body many.rows many.given.gives) due)

pub many_loaded : (before after : Holding) (session : OwnSession) (name : List ℕ) (body : Content) (snapshot : Snapshot) (count : ℕ) (fault : CommitFault) (result : Result Answer AllocError)
    → session.queue ≡ None → Sees before after → snapshot ≡ shown after.held (length after.held) → AreMany snapshot.tables name body count
    → slice_get (many_faults (snapshot.version + 1) count) 0 ≡ Some fault → IfOk result (RefusesCommit fault) → IfOk result (LoadsOver before session name body after)
many_loaded before after session name body snapshot count fault (Ok answer) free sees looked many first told =
    let on_last = subst (λ (tables : List Table). AreMany tables name body count) (last_tables after.held snapshot looked) many in
    let number : snapshot.version ≡ length after.held = ap (λ (s : Snapshot). s.version) looked in
    let due = many_refused after.held name body snapshot.version count fault number on_last first in
    load_refused before after session name body (commit_cause fault) answer sees
    (subst (λ (queue : Queue). RefusesLoad after.held name body queue (commit_cause fault)) (sym free) due) told.1
many_loaded before after session name body snapshot count fault (Err error) free sees looked many first told = tt

opened : (history : History) (name : List ℕ) (body : Content) (queue : Queue) → is_some queue ≡ true → RefusesLoad history name body queue refusals.in_transaction
opened history name body None is = absurd (cc is)
opened history name body (Some list) is = in_transaction list

pub load_unready : (vault : Holding) (session : OwnSession) (name : List ℕ) (body : Content) (result : Result Answer AllocError)
    → is_some session.queue ≡ true → IfOk result (λ (answer : Answer). reply_of answer ≡ refusal_of refusals.in_transaction)
    → IfOk result (LoadsOver vault session name body vault)
load_unready vault session name body (Ok answer) is says =
    load_refused vault vault session name body refusals.in_transaction answer (sees_same vault) (opened vault.held name body session.queue is) (inl says)
load_unready vault session name body (Err error) is says = tt

-- ---- the statement as it was matched

pub performs_load : (old new : SessionData) (name : List ℕ) (bytes : ℕ) (s : Statement) (body : Content) (result : Result Answer AllocError)
    → s ≡ statements.Load name bytes → IfOk result (LoadsTo old name body new)
    → IfOk result (λ (answer : Answer). Steps new.history old.state s body (reply_of answer) new.state)
performs_load old new name bytes s body (Ok answer) is steps = subst (λ (u : Statement). Steps new.history old.state u body (reply_of answer) new.state) (sym is) (steps bytes)
performs_load old new name bytes s body (Err error) is steps = tt
