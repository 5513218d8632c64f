-- Private: `src/loading.rt`, and `load` and `insert` in `src/session.rt`.
-- What the parts of a LOAD find and do.
use Rattle.std.specs.Prelude.{◌≡◌, ◌<◌, ℕ, IfOk, List, ◌++◌, length, Option, Ok, Some, Result}
use Rattle.std.specs.declared.alloc.AllocError.{AllocError}
use Rattle.csv_load.specs.declared.loading.LoadFault.{LoadFault}
use Rattle.csv_load.specs.declared.loading.LoadFault.TheVariants as faults
use Rattle.session_proto.specs.declared.refusals.Refusal.{Refusal as Told}
use Rattle.paql_ast.specs.declared.statements.Statement.TheVariants as statements
use Rattle.schema_types.specs.declared.Column.{Column}
use Rattle.schema_types.specs.declared.Lit.{Lit}
use Rattle.session_proto.specs.Input.{Content}
use Rattle.session_proto.specs.Refusals.{Refusal}
use Rattle.snapshots.specs.declared.tables.Table.{Table}
use Rattle.version_store.specs.Histories.{above}
use Rattle.version_store.specs.Vaults.{Holding, Accepts, Refused}
use Rattle.version_store.specs.declared.faults.CommitFault.{CommitFault}
use Rattle.version_store.specs.declared.faults.CommitKind.TheVariants.{LimitVersions, LimitCommit}
use Rattle.version_store.specs.declared.limits.TheConstants.{MAX_COMMIT_ROWS, MAX_VERSION}
use Rattle.version_store.specs.declared.store.Committed.{Committed}
use Rattle.paql_engine.specs.Loading.{columns_in, Gives, RefusesBody, insert_of, load_cause}
use Rattle.paql_engine.specs.Replied.{reply_of}
use Rattle.paql_engine.specs.Showing.{IsToldAs, RefusesCommit}
use Rattle.paql_engine.specs.State.{SessionData}
use Rattle.paql_engine.specs.Steps.{Steps}
use Rattle.paql_engine.specs.declared.accepted.Accepted.TheVariants as kinds
use Rattle.paql_engine.specs.declared.loading.Found.{Found}
use Rattle.paql_engine.specs.declared.loading.Found.TheVariants as founds
use Rattle.paql_engine.specs.declared.session.Answer.{Answer}
use Rattle.paql_engine.specs.declared.session.Answer.TheVariants as of

abbrev pub IsMemoryFault : LoadFault → Type 0
IsMemoryFault (faults.Memory error) = Unit {0}
IsMemoryFault fault = ⊥

-- the fault of a body is told, if memory isn't out
abbrev pub TellsFault : List Column → LoadFault → Result (Option Told) AllocError → Type 0
TellsFault columns fault result = IfOk result
    (λ told. (¬ IsMemoryFault fault) × IsToldAs (load_cause columns fault) told)

-- the body gives these rows in the columns of the table
pub record IsGiven (tables : List Table) (name : List ℕ) (body : Content) (rows : List (List Lit))
    : Type 0 where
  pub columns : List Column
  pub there : columns_in tables name ≡ Some columns
  pub gives : Gives columns body (Ok rows)

-- the body gives so many rows, which are more than a commit may insert
pub record AreMany (tables : List Table) (name : List ℕ) (body : Content) (count : ℕ)
    : Type 0 where
  pub rows : List (List Lit)
  pub given : IsGiven tables name body rows
  pub more : MAX_COMMIT_ROWS < length rows
  pub number : count ≡ length rows

-- the faults of a commit of so many rows that fit, after which the version would be this one
abbrev pub many_faults : ℕ → ℕ → List CommitFault
many_faults version count =
    above MAX_VERSION version LimitVersions ++ above MAX_COMMIT_ROWS count LimitCommit

-- what is found of a body for a table of a version
abbrev pub Finds : List Table → List ℕ → Content → Found → Type 0
Finds tables name body (founds.Rows rows) = IsGiven tables name body rows
Finds tables name body (founds.Many count) = AreMany tables name body count
Finds tables name body (founds.Refused told) =
    (due : Refusal) × RefusesBody tables name body due × IsToldAs due told

-- rows are committed, or their commit is refused
pub data Inserts (before after : Holding) (name : List ℕ) (rows : List (List Lit))
    : Answer → Type 0 where
  accepted : (committed : Committed) → Accepts before after (insert_of name rows) committed
      → Inserts before after name rows (of.Accepted kinds.Loaded committed)
  declined : (fault : CommitFault) (answer : Answer)
      → Refused before after (insert_of name rows) fault → RefusesCommit fault answer
      → Inserts before after name rows answer

-- a LOAD of a table with this body takes a session to another one, with this answer
abbrev pub LoadsTo : SessionData → List ℕ → Content → SessionData → Answer → Type 0
LoadsTo old name body new answer = (bytes : ℕ)
    → Steps new.history old.state (statements.Load name bytes) body (reply_of answer) new.state
