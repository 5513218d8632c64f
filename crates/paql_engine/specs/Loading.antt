-- What a LOAD gives: the rows of its body, or why it is refused. It is a commit of its own, never a
-- part of a transaction.
use Rattle.std.specs.Prelude.{◌≡◌, ℕ, List, [], ◌∷◌, Option, Some, None, Result, Ok, Err, slice_get}
use Rattle.schema_types.specs.declared.Column.{Column}
use Rattle.schema_types.specs.declared.Lit.{Lit}
use Rattle.table_schema.specs.Named.{schema_of}
use Rattle.snapshots.specs.States.{schemas_of}
use Rattle.snapshots.specs.declared.tables.Table.{Table}
use Rattle.version_store.specs.Faults.{name_at}
use Rattle.version_store.specs.Histories.{Commit, History, states_of, replay, commit_faults}
use Rattle.version_store.specs.declared.changes.Change.{Change}
use Rattle.version_store.specs.declared.changes.Change.TheVariants as changes
use Rattle.version_store.specs.declared.faults.CommitFault.{CommitFault}
use Rattle.csv_load.specs.Loading.{BodyGives}
use Rattle.csv_load.specs.declared.loading.LoadFault.{LoadFault}
use Rattle.csv_load.specs.declared.loading.LoadFault.TheVariants as faults
use Rattle.session_proto.specs.Input.{Content, absent, held, skipped}
use Rattle.session_proto.specs.Refusals as refusals
use Rattle.session_proto.specs.Refusals.{Refusal}
use Rattle.paql_engine.specs.Refused.{commit_cause}

-- the columns of the table of a name, if there is one
abbrev pub columns_in : List Table → List ℕ → Option (List Column)
columns_in tables name = schema_of name (schemas_of tables)

-- What a body gives in these columns: its rows, or its first fault. A body that was thrown away is
-- too long. Without a body, which no frame of a LOAD is, it is as with an empty one.
abbrev pub Gives : List Column → Content → Result (List (List Lit)) LoadFault → Type 0
Gives columns absent result = BodyGives columns [] result
Gives columns (held bytes) result = BodyGives columns bytes result
Gives columns (skipped count) result = result ≡ Err faults.LimitBytes

-- the fault of a body, as replies tell it
abbrev pub load_cause : List Column → LoadFault → Refusal
load_cause columns faults.LimitBytes = refusals.limit_bytes
load_cause columns faults.Header = refusals.header
load_cause columns (faults.BadRecord number) = refusals.bad_record number
load_cause columns (faults.BadCell number place) =
    refusals.bad_field (name_at columns place) number
load_cause columns (faults.Memory error) = refusals.memory

-- the commit that these rows are
abbrev pub insert_of : List ℕ → List (List Lit) → Commit
insert_of name rows = changes.Insert name rows ∷ []

-- why there are no rows for the table of a name: it isn't there, or else the fault of the body
pub data RefusesBody (tables : List Table) (name : List ℕ) (body : Content) : Refusal → Type 0 where
  no_table : columns_in tables name ≡ None
      → RefusesBody tables name body (refusals.no_table None name)
  in_body : (columns : List Column) (fault : LoadFault)
      → columns_in tables name ≡ Some columns → Gives columns body (Err fault)
      → RefusesBody tables name body (load_cause columns fault)

-- Why a LOAD is refused, by the commits that the session has seen and the open transaction: a
-- transaction is open; or else there are no rows; or else the first fault of the commit of the rows.
pub data RefusesLoad (history : History) (name : List ℕ) (body : Content)
    : Option (List Change) → Refusal → Type 0 where
  in_transaction : (queue : List Change)
      → RefusesLoad history name body (Some queue) refusals.in_transaction
  in_rows : (cause : Refusal) → RefusesBody (replay history).tables name body cause
      → RefusesLoad history name body None cause
  in_insert : (columns : List Column) (rows : List (List Lit)) (fault : CommitFault)
      → columns_in (replay history).tables name ≡ Some columns → Gives columns body (Ok rows)
      → slice_get (commit_faults (states_of history) (insert_of name rows)) 0 ≡ Some fault
      → RefusesLoad history name body None (commit_cause fault)
