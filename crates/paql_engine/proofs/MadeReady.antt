-- A query is made ready, or is refused.
use Rattle.std.proofs.Common.{◌≡◌, ℕ, List, [], Option, Some, None, refl, sym, ap, ◌∙◌, subst, Ok, Err}
use Rattle.std.specs.Prelude.{length, unwrap_or, IsTrue}
use Rattle.std.specs.Fmt.{decimal}
use Rattle.bound_query.specs.declared.queries.BoundQuery.{BoundQuery}
use Rattle.package_program.specs.Linear.{LinearData}
use Rattle.package_program.specs.Translation.{Translates, count_of}
use Rattle.package_program.specs.declared.faults.FormFault.{FormFault}
use Rattle.package_program.specs.declared.faults.FormFault.TheVariants as forms
use Rattle.paql_ast.specs.declared.queries.Query.{Query}
use Rattle.paql_ast.specs.declared.statements.Statement.{Statement}
use Rattle.paql_ast.specs.declared.statements.Statement.TheVariants as statements
use Rattle.paql_bind.specs.Faults.{IsFirst}
use Rattle.paql_bind.specs.Queries.{query_faults}
use Rattle.paql_bind.specs.declared.faults.Refusal.{Refusal as Fault}
use Rattle.query_answer.specs.Answers.{Rows, many, large}
use Rattle.schema_types.specs.declared.Column.{Column}
use Rattle.session_proto.specs.Causes.{cause}
use Rattle.session_proto.specs.Refusals as refusals
use Rattle.session_proto.specs.Refusals.{Refusal}
use Rattle.session_proto.specs.Replies.{ReplyData}
use Rattle.session_proto.specs.declared.refusals.BindFault.TheVariants as bindings
use Rattle.session_proto.specs.declared.refusals.Refusal.{Refusal as Told}
use Rattle.session_proto.specs.declared.refusals.Refusal.TheVariants.{Bind}
use Rattle.snapshots.specs.States.{schemas_of}
use Rattle.snapshots.specs.declared.snapshot.Snapshot.{Snapshot}
use Rattle.snapshots.specs.declared.tables.Table.{Table}
use Rattle.version_store.specs.Answers.{shown}
use Rattle.version_store.specs.Histories.{History, replay}
use Rattle.version_store.specs.Laws.{HaveRows}
use Rattle.version_store.specs.declared.changes.Change.{Change}
use Rattle.version_store.specs.declared.store.VaultFault.TheVariants as vault
use Rattle.paql_engine.specs.Laws.{RefusedAlike}
use Rattle.paql_engine.specs.Performed.{change_of, query_of, is_exact}
use Rattle.paql_engine.specs.Preparing.{IsReady, IsPrepared, RefusesToPrepare, at_version, at_query, Tells, IsRefusedAs, IsToldBy, TellsForm}
use Rattle.paql_engine.specs.Queries.{RefusesQuery, binding, form, faults_of, IsBoundTo, rows_asked}
use Rattle.paql_engine.specs.Refused.{binding_cause}
use Rattle.paql_engine.specs.Showing.{IsToldAs, Looks}
use Rattle.paql_engine.specs.Steps.{tables_of, Queue, Makes, Refuses, alone, whole, at_begin, at_commit, at_rollback, in_commit, in_version, in_query}
use Rattle.paql_engine.specs.declared.preparing.PrepareFault.{PrepareFault}
use Rattle.paql_engine.specs.declared.preparing.PrepareFault.TheVariants as faults
use Rattle.paql_engine.proofs.Asked.{are_asked}
use Rattle.paql_engine.proofs.Rows.{exactly, looked, missed}

-- ---- how a refusal is told

tells_as : (why : Refusal → Type 0) (due : Refusal) (fault : PrepareFault) → why due → IsRefusedAs due fault → Tells why fault
tells_as why due (faults.Refused reply) is shown = (due, is, shown)
tells_as why due faults.NotBuilt is shown = absurd shown
tells_as why due (faults.Memory error) is shown = tt

tells_told : (why : Refusal → Type 0) (due : Refusal) (told : Option Told) (fault : PrepareFault) → why due → IsToldAs due told → IsToldBy told fault → Tells why fault
tells_told why due None fault is untold shown = subst (Tells why) (sym shown) (due, is, untold)
tells_told why due (Some told) fault is same shown = tells_as why due fault is (subst (λ (told_cause : Refusal). IsRefusedAs told_cause fault) same shown)

tells_more : (why other : Refusal → Type 0) (fault : PrepareFault) → ((due : Refusal) → why due → other due) → Tells why fault → Tells other fault
tells_more why other (faults.Refused reply) more is = (is.0, more is.0 is.1, is.2)
tells_more why other faults.NotBuilt more is = (is.0, more is.0 is.1, is.2)
tells_more why other (faults.Memory error) more is = tt

-- ---- names and numbers

pub names_told : (tables : List Table) (query : Query) (all : List (List ℕ × List Column)) (first : Fault) (told : Option Told) (fault : PrepareFault)
    → all ≡ schemas_of tables → IsFirst (query_faults all query) first → IsToldAs (binding_cause None first) told → IsToldBy told fault
    → Tells (RefusesQuery tables query) fault
names_told tables query all first told fault all_is is same shown =
    tells_told (RefusesQuery tables query) (binding_cause None first) told fault
    (binding first (subst (λ (named : List (List ℕ × List Column)). IsFirst (query_faults named query) first) all_is is)) same shown

-- ---- the program

form_told : (tables : List Table) (query : Query) (bound : BoundQuery) (fault : FormFault) (prepared : PrepareFault)
    → faults_of tables query ≡ [] → IsBoundTo tables query bound
    → Translates bound (rows_asked tables query) (Err fault) → TellsForm fault prepared → Tells (RefusesQuery tables query) prepared
form_told tables query bound (forms.LimitCandidates count) prepared good binds is shown =
    let due : Refusal = refusals.limit_candidates (count_of bound (rows_asked tables query)) in
    tells_as (RefusesQuery tables query) due prepared (form bound due good binds (many is.0))
    (subst (λ (n : ℕ). IsRefusedAs (refusals.limit_candidates n) prepared) is.1 shown)
form_told tables query bound (forms.TooLarge conjunct total) prepared good binds is shown =
    let due : Refusal = refusals.too_large conjunct (decimal total) in
    tells_as (RefusesQuery tables query) due prepared (form bound due good binds (large conjunct total is.0 is.1)) shown
form_told tables query bound (forms.Memory error) prepared good binds is shown = subst (Tells (RefusesQuery tables query)) (sym shown) tt

pub formless_told : (tables : List Table) (query : Query) (bound : BoundQuery) (rows : Rows) (fault : FormFault) (prepared : PrepareFault)
    → faults_of tables query ≡ [] → IsBoundTo tables query bound → rows ≡ rows_asked tables query
    → Translates bound rows (Err fault) → TellsForm fault prepared → Tells (RefusesQuery tables query) prepared
formless_told tables query bound rows fault prepared good binds rows_are is shown =
    form_told tables query bound fault prepared good binds (subst (λ (all : Rows). Translates bound all (Err fault)) rows_are is) shown

pub made_ready : (tables : List Table) (query : Query) (bound : BoundQuery) (rows : Rows) (linear : LinearData)
    → HaveRows tables → faults_of tables query ≡ [] → IsBoundTo tables query bound → rows ≡ rows_asked tables query
    → Translates bound rows (Ok linear) → IsReady tables query bound linear
made_ready tables query bound rows linear have good binds rows_are is =
    let made : Translates bound (rows_asked tables query) (Ok linear) = subst (λ (all : Rows). Translates bound all (Ok linear)) rows_are is in
    record {
      good = good;
      binds = binds;
      asked = are_asked tables query bound (rows_asked tables query) have good binds refl;
      has = record { few = made.0; small = made.1 };
      linear = made.2;
    }

-- ---- the version

snapshot_is : (history : History) (version : Option ℕ) (snapshot : Snapshot) → Looks history version (Ok snapshot) → snapshot ≡ shown history (unwrap_or version (length history))
snapshot_is history None snapshot is = is
snapshot_is history (Some asked) snapshot is = is.1

pub prepared_on : (history : History) (query : Query) (snapshot : Snapshot) (bound : BoundQuery) (linear : LinearData)
    → Looks history query.version (Ok snapshot) → IsReady snapshot.tables query bound linear
    → IsPrepared history query (record { bound = bound; snapshot = snapshot; linear = linear })
prepared_on history query snapshot bound linear looks ready =
    let shows = looked history query.version snapshot looks in
    record {
      there = shows.there;
      snapshot = snapshot_is history query.version snapshot looks;
      ready = subst (λ (tables : List Table). IsReady tables query bound linear) shows.tables ready;
    }

pub refused_on : (history : History) (query : Query) (snapshot : Snapshot) (fault : PrepareFault)
    → Looks history query.version (Ok snapshot) → Tells (RefusesQuery snapshot.tables query) fault → Tells (RefusesToPrepare history query) fault
refused_on history query snapshot fault looks is =
    let shows = looked history query.version snapshot looks in
    tells_more (RefusesQuery (tables_of history query) query) (RefusesToPrepare history query) fault (λ due. at_query due shows.there)
    (subst (λ (tables : List Table). Tells (RefusesQuery tables query) fault) shows.tables is)

pub unkept_told : (history : History) (query : Query) (asked low high : ℕ) (fault : PrepareFault)
    → Looks history query.version (Err (vault.Unkept asked low high)) → IsToldBy (Some (Bind None (bindings.Unkept asked high low))) fault
    → Tells (RefusesToPrepare history query) fault
unkept_told history query asked low high fault looks shown =
    let misses = missed history query query.version asked low high refl looks in
    let due : Refusal = refusals.unkept None asked (length history) (replay history).low in
    let same : cause (Bind None (bindings.Unkept asked high low)) ≡ due = ap (λ (h : ℕ). refusals.unkept None asked h low) misses.2 ∙ ap (refusals.unkept None asked (length history)) misses.1 in
    tells_told (RefusesToPrepare history query) due (Some (Bind None (bindings.Unkept asked high low))) fault (at_version asked misses.0 misses.3) same shown

-- ---- as a step refuses it

to_step : (history : History) (queue : Queue) (query : Query) (due : Refusal) → IsTrue (is_exact query.method)
    → RefusesToPrepare history query due → Refuses history queue (statements.Query query) due
to_step history queue query due exact (at_version asked is why) = in_version queue (statements.Query query) query asked (exactly query exact) is why
to_step history queue query due exact (at_query cause there why) = in_query queue (statements.Query query) query cause (exactly query exact) there why

makes_none : (queue : Queue) (t : Statement) (commit : List Change) (shows : ℕ → ℕ → ReplyData) (query : Query) → t ≡ statements.Query query → Makes queue t commit shows → ⊥
makes_none queue t commit shows query is (alone s change e) =
    let none : None ≡ Some change = ap change_of (sym is) ∙ e in cc none
makes_none queue t commit shows query is (whole list) = cc is

same_query : (t : Statement) (query other : Query) → IsTrue (is_exact query.method) → t ≡ statements.Query query → query_of t ≡ Some other → other ≡ query
same_query t query other exact is e =
    ap (λ (o : Option Query). unwrap_or o query) (sym e ∙ ap query_of is ∙ exactly query exact)

from_step : (history : History) (queue : Queue) (t : Statement) (query : Query) (due : Refusal) → IsTrue (is_exact query.method)
    → t ≡ statements.Query query → Refuses history queue t due → RefusesToPrepare history query due
from_step history queue t query due exact is (at_begin list) = absurd (cc is)
from_step history queue t query due exact is at_commit = absurd (cc is)
from_step history queue t query due exact is at_rollback = absurd (cc is)
from_step history queue t query due exact is (in_commit q s commit shows fault makes first) = absurd (makes_none q t commit shows query is makes)
from_step history queue t query due exact is (in_version q s other asked e at why) =
    let same = same_query t query other exact is e in
    at_version asked (sym (ap (λ (one : Query). one.version) same) ∙ at) why
from_step history queue t query due exact is (in_query q s other cause e there why) =
    let same = same_query t query other exact is e in
    subst (λ (one : Query). RefusesToPrepare history one cause) same (at_query cause there why)

pub refused_alike : RefusedAlike
refused_alike history queue query due exact = (to_step history queue query due exact, from_step history queue (statements.Query query) query due exact refl)
