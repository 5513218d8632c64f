-- Private: `src/refused.rt`, `src/asking.rt`, `src/accepted.rt` and `src/session.rt`.
-- Refusals as the code tells them, and what a session's private steps do.
use Rattle.std.specs.Prelude.{◌≡◌, ◌⊎◌, ◌<◌, ℕ, Bool, true, false, IfOk, Result, Ok, Err, List, length, MatchOption, Option, Some, None}
use Rattle.std.specs.Str.{IsUtf8}
use Rattle.std.specs.declared.alloc.AllocError.{AllocError}
use Rattle.paql_ast.specs.declared.queries.Query.{Query}
use Rattle.paql_ast.specs.declared.statements.Statement.{Statement}
use Rattle.paql_ast.specs.declared.statements.Statement.TheVariants as statements
use Rattle.session_proto.specs.Causes.{cause}
use Rattle.session_proto.specs.Input.{Content}
use Rattle.session_proto.specs.Refusals.{Refusal, refusal_of, not_built}
use Rattle.session_proto.specs.declared.refusals.Refusal.{Refusal as Told}
use Rattle.snapshots.specs.declared.snapshot.Snapshot.{Snapshot}
use Rattle.version_store.specs.Answers.{IsMemoryKind, shown}
use Rattle.version_store.specs.Histories.{History, replay}
use Rattle.snapshots.specs.declared.tables.Table.{Table}
use Rattle.version_store.specs.declared.faults.CommitFault.{CommitFault}
use Rattle.version_store.specs.declared.store.VaultFault.{VaultFault}
use Rattle.version_store.specs.declared.store.VaultFault.TheVariants as vault
use Rattle.paql_engine.specs.Queries.{Solves, RefusesQuery}
use Rattle.paql_engine.specs.Refused.{name_in, kind_cause}
use Rattle.paql_engine.specs.Replied.{reply_of}
use Rattle.paql_engine.specs.State.{SessionData}
use Rattle.paql_engine.specs.Steps.{Steps, IsThere}
use Rattle.paql_engine.specs.declared.asking.Found.{Found}
use Rattle.paql_engine.specs.declared.asking.Found.TheVariants as founds
use Rattle.paql_engine.specs.declared.session.Answer.{Answer}

-- this refusal is that of the cause, or there is none since the name of the cause is no text
abbrev pub IsToldAs : Refusal → Option Told → Type 0
IsToldAs due found =
    MatchOption found (¬ IsUtf8 (name_in due)) (λ (told : Told). cause told ≡ due)

-- the same, if memory didn't run out
abbrev pub Shows : Refusal → Result (Option Told) AllocError → Type 0
Shows due result = IfOk result (IsToldAs due)

-- the reply that refuses, or that the statement isn't performed
abbrev pub RefusedSo : Option Told → Answer → Type 0
RefusedSo None answer = reply_of answer ≡ refusal_of not_built
RefusedSo (Some told) answer = reply_of answer ≡ refusal_of (cause told)

-- a refusal is told, or the statement isn't performed since its name is no text
abbrev pub IsToldOf : Refusal → Answer → Type 0
IsToldOf due answer = (reply_of answer ≡ refusal_of due)
    ⊎ ((reply_of answer ≡ refusal_of not_built) × (¬ IsUtf8 (name_in due)))

-- a commit is refused by its fault, which isn't that memory is out
abbrev pub RefusesCommit : CommitFault → Answer → Type 0
RefusesCommit fault answer =
    (¬ IsMemoryKind fault.kind) × IsToldOf (kind_cause fault.change fault.kind) answer

-- ---- queries

-- what is found of a query on the tables of a version
abbrev pub Finds : List Table → ℕ → Query → Found → Type 0
Finds tables version query (founds.Reply reply kept) = Solves tables version query reply kept
Finds tables version query (founds.Refused told) =
    (due : Refusal) × RefusesQuery tables query due × IsToldAs due told

-- why there is no version to ask: it isn't kept, or memory is out
abbrev pub Misses : History → Option ℕ → VaultFault → Type 0
Misses history version (vault.Unkept asked low high) = (version ≡ Some asked)
    × (low ≡ (replay history).low) × (high ≡ length history)
    × ((asked < (replay history).low) ⊎ (length history < asked))
Misses history version (vault.Memory error) = Unit {0}

-- the version that is asked for, or the last
abbrev pub Looks : History → Option ℕ → Result Snapshot VaultFault → Type 0
Looks history None (Ok snapshot) = snapshot ≡ shown history (length history)
Looks history (Some asked) (Ok snapshot) =
    IsThere history (Some asked) × (snapshot ≡ shown history asked)
Looks history version (Err fault) = Misses history version fault

-- ---- a session

-- a statement takes a session to another one, with this answer
abbrev pub StepsTo : SessionData → Statement → SessionData → Answer → Type 0
StepsTo old t new answer =
    (body : Content) → Steps new.history old.state t body (reply_of answer) new.state

-- the statement changes tables, and isn't a LOAD
abbrev pub is_changing : Statement → Bool
is_changing (statements.Create table columns) = true
is_changing (statements.Insert table rows) = true
is_changing (statements.Update table sets filter) = true
is_changing (statements.Delete table filter) = true
is_changing (statements.Partition table columns size radius) = true
is_changing (statements.Vacuum version) = true
is_changing t = false
