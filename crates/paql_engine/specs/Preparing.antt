-- What a query made ready is, and why a query is refused.
use Rattle.std.specs.Prelude.{◌≡◌, ◌⊎◌, ◌<◌, ℕ, List, [], length, Option, None, Some}
use Rattle.std.specs.Prelude.{Result, Ok, Err}
use Rattle.std.specs.Fmt.{decimal}
use Rattle.std.specs.Str.{IsUtf8}
use Rattle.paql_ast.specs.declared.queries.Query.{Query}
use Rattle.bound_query.specs.Asks.{AreAskedOf}
use Rattle.bound_query.specs.declared.queries.BoundQuery.{BoundQuery}
use Rattle.package_program.specs.Linear.{LinearData}
use Rattle.package_program.specs.Translation.{linear_of}
use Rattle.package_program.specs.declared.faults.FormFault.{FormFault}
use Rattle.package_program.specs.declared.faults.FormFault.TheVariants as forms
use Rattle.query_answer.specs.Answers.{HasProgram}
use Rattle.snapshots.specs.declared.tables.Table.{Table}
use Rattle.version_store.specs.Answers.{shown}
use Rattle.version_store.specs.Histories.{History, replay}
use Rattle.session_proto.specs.Causes.{cause}
use Rattle.session_proto.specs.Refusals as refusals
use Rattle.session_proto.specs.Refusals.{Refusal, refusal_of}
use Rattle.session_proto.specs.declared.refusals.Refusal.{Refusal as Told}
use Rattle.paql_engine.specs.Queries.{RefusesQuery, IsBoundTo, faults_of, rows_asked}
use Rattle.paql_engine.specs.Refused.{name_in}
use Rattle.paql_engine.specs.Steps.{IsThere, tables_of, version_of}
use Rattle.paql_engine.specs.declared.preparing.Prepared.{Prepared}
use Rattle.paql_engine.specs.declared.preparing.PrepareFault.{PrepareFault}
use Rattle.paql_engine.specs.declared.preparing.PrepareFault.TheVariants as faults

-- the query has no fault on these tables, it is bound to this, which can be asked of the rows, and
-- this is its program
pub record IsReady (tables : List Table) (query : Query) (bound : BoundQuery)
    (made : LinearData) : Type 0 where
  pub good : faults_of tables query ≡ []
  pub binds : IsBoundTo tables query bound
  pub asked : AreAskedOf bound (rows_asked tables query)
  pub has : HasProgram bound (rows_asked tables query)
  pub linear : made ≡ linear_of bound (rows_asked tables query)

-- the query is ready on the version that it asks for, or on the last, which is there
pub record IsPrepared (history : History) (query : Query) (prepared : Prepared) : Type 0 where
  pub there : IsThere history query.version
  pub snapshot : prepared.snapshot ≡ shown history (version_of history query)
  pub ready : IsReady (tables_of history query) query prepared.bound prepared.linear

-- Why the query is refused: its version isn't kept, or isn't there; or it is there, and the query
-- is refused on its tables. So a step refuses a query whose method is exact.
pub data RefusesToPrepare (history : History) (query : Query) : Refusal → Type 0 where
  at_version : (asked : ℕ) → query.version ≡ Some asked
      → (asked < (replay history).low) ⊎ (length history < asked)
      → RefusesToPrepare history query
      (refusals.unkept None asked (length history) (replay history).low)
  at_query : (due : Refusal) → IsThere history query.version
      → RefusesQuery (tables_of history query) query due → RefusesToPrepare history query due

-- a refusal with such a cause is told, or its name is no text
abbrev pub Tells : (Refusal → Type 0) → PrepareFault → Type 0
Tells why (faults.Refused reply) = (due : Refusal) × why due × (reply ≡ refusal_of due)
Tells why faults.NotBuilt = (due : Refusal) × why due × (¬ IsUtf8 (name_in due))
Tells why (faults.Memory error) = Unit {0}

-- what becomes of the query
abbrev pub Prepares : History → Query → Result Prepared PrepareFault → Type 0
Prepares history query (Ok prepared) = IsPrepared history query prepared
Prepares history query (Err fault) = Tells (RefusesToPrepare history query) fault

-- ---- parts of it

abbrev pub Readies : List Table → Query → Result (BoundQuery × LinearData) PrepareFault → Type 0
Readies tables query (Ok (bound, linear)) = IsReady tables query bound linear
Readies tables query (Err fault) = Tells (RefusesQuery tables query) fault

abbrev pub Programs : List Table → Query → BoundQuery → Result LinearData PrepareFault → Type 0
Programs tables query bound (Ok linear) = IsReady tables query bound linear
Programs tables query bound (Err fault) = Tells (RefusesQuery tables query) fault

-- it is refused for this cause, if memory isn't out
abbrev pub IsRefusedAs : Refusal → PrepareFault → Type 0
IsRefusedAs due (faults.Refused reply) = reply ≡ refusal_of due
IsRefusedAs due faults.NotBuilt = ⊥
IsRefusedAs due (faults.Memory error) = Unit {0}

-- it is refused so, or the refusal can't be told
abbrev pub IsToldBy : Option Told → PrepareFault → Type 0
IsToldBy None fault = fault ≡ faults.NotBuilt
IsToldBy (Some told) fault = IsRefusedAs (cause told) fault

-- why there is no program
abbrev pub TellsForm : FormFault → PrepareFault → Type 0
TellsForm (forms.LimitCandidates count) fault = IsRefusedAs (refusals.limit_candidates count) fault
TellsForm (forms.TooLarge conjunct total) fault =
    IsRefusedAs (refusals.too_large conjunct (decimal total)) fault
TellsForm (forms.Memory error) fault = fault ≡ faults.Memory error
