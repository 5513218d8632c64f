-- The causes of refusals as the code has them.
use Rattle.std.specs.Prelude.{ℕ, List, Option, string_bytes}
use Rattle.session_proto.specs.Refusals as refusals
use Rattle.session_proto.specs.Refusals.{Refusal}
use Rattle.session_proto.specs.declared.refusals.TextFault.{TextFault}
use Rattle.session_proto.specs.declared.refusals.TextFault.TheVariants as texts
use Rattle.session_proto.specs.declared.refusals.SessionFault.{SessionFault}
use Rattle.session_proto.specs.declared.refusals.SessionFault.TheVariants as sessions
use Rattle.session_proto.specs.declared.refusals.BindFault.{BindFault}
use Rattle.session_proto.specs.declared.refusals.BindFault.TheVariants as bindings
use Rattle.session_proto.specs.declared.refusals.QueryFault.{QueryFault}
use Rattle.session_proto.specs.declared.refusals.QueryFault.TheVariants as queries
use Rattle.session_proto.specs.declared.refusals.CellFault.{CellFault}
use Rattle.session_proto.specs.declared.refusals.CellFault.TheVariants as cells
use Rattle.session_proto.specs.declared.refusals.ChangeFault.{ChangeFault}
use Rattle.session_proto.specs.declared.refusals.ChangeFault.TheVariants as changes
use Rattle.session_proto.specs.declared.refusals.CommitLimit.{CommitLimit}
use Rattle.session_proto.specs.declared.refusals.CommitLimit.TheVariants as limits
use Rattle.session_proto.specs.declared.refusals.LoadFault.{LoadFault}
use Rattle.session_proto.specs.declared.refusals.LoadFault.TheVariants as loads
use Rattle.session_proto.specs.declared.refusals.Refusal as declared
use Rattle.session_proto.specs.declared.refusals.Refusal.TheVariants as kinds

abbrev pub text_cause : TextFault → ℕ → Refusal
text_cause texts.Lex at = refusals.lex at
text_cause texts.Syntax at = refusals.syntax at
text_cause texts.Deep at = refusals.deep at

abbrev pub session_cause : SessionFault → Refusal
session_cause sessions.InTransaction = refusals.in_transaction
session_cause sessions.NotInTransaction = refusals.not_in_transaction
session_cause sessions.NoCertificate = refusals.no_certificate
session_cause sessions.NotBuilt = refusals.not_built

abbrev pub bind_cause : Option ℕ → BindFault → Refusal
bind_cause change (bindings.Unkept asked high low) = refusals.unkept change asked high low
bind_cause change (bindings.NoTable name) = refusals.no_table change (string_bytes name)
bind_cause change (bindings.NoColumn name) = refusals.no_column change (string_bytes name)
bind_cause change (bindings.WrongKind name) = refusals.wrong_kind change (string_bytes name)
bind_cause change bindings.TooFine = refusals.too_fine change
bind_cause change bindings.LiteralRange = refusals.literal_range change

abbrev pub query_cause : QueryFault → Refusal
query_cause queries.Factor = refusals.factor
query_cause (queries.LimitBudget given) = refusals.limit_budget given
query_cause (queries.LimitConjuncts given) = refusals.limit_conjuncts given
query_cause (queries.LimitTerms conjunct given) = refusals.limit_terms conjunct given
query_cause queries.Unbounded = refusals.unbounded
query_cause (queries.LimitRepeat given) = refusals.limit_repeat given
query_cause (queries.LimitCandidates given) = refusals.limit_candidates given
query_cause (queries.TooLarge conjunct total) = refusals.too_large conjunct (string_bytes total)
query_cause (queries.NoPartition name) = refusals.no_partition (string_bytes name)

abbrev pub cell_cause : CellFault → ℕ → List ℕ → ℕ → Refusal
cell_cause cells.BadCell change column row = refusals.bad_cell change column row
cell_cause cells.OutOfRange change column row = refusals.out_of_range change column row
cell_cause cells.TextTooLong change column row = refusals.text_too_long change column row

abbrev pub change_cause : ℕ → ChangeFault → Refusal
change_cause change (changes.TableExists name) = refusals.table_exists change (string_bytes name)
change_cause change (changes.DuplicateColumn name) =
    refusals.duplicate_column change (string_bytes name)
change_cause change (changes.BadScale name) = refusals.bad_scale change (string_bytes name)
change_cause change (changes.TooManyColumns given) = refusals.too_many_columns change given
change_cause change (changes.LimitPartition given) = refusals.limit_partition change given
change_cause change (changes.Arity have row want) = refusals.arity change have row want
change_cause change (changes.Cell fault column row) =
    cell_cause fault change (string_bytes column) row

abbrev pub limit_cause : CommitLimit → ℕ → Refusal
limit_cause limits.Tables given = refusals.limit_tables given
limit_cause limits.Rows given = refusals.limit_rows given
limit_cause limits.Inserted given = refusals.limit_commit given
limit_cause limits.Versions given = refusals.limit_versions given

abbrev pub load_cause : LoadFault → Refusal
load_cause loads.LimitBytes = refusals.limit_bytes
load_cause loads.Header = refusals.header
load_cause (loads.BadRecord number) = refusals.bad_record number
load_cause (loads.BadCell column number) = refusals.bad_field (string_bytes column) number

abbrev pub cause : declared.Refusal → Refusal
cause (kinds.Text fault at) = text_cause fault at
cause (kinds.Session fault) = session_cause fault
cause (kinds.Bind change fault) = bind_cause change fault
cause (kinds.Query fault) = query_cause fault
cause (kinds.Change change fault) = change_cause change fault
cause (kinds.Limit limit given) = limit_cause limit given
cause (kinds.Load fault) = load_cause fault
cause kinds.Memory = refusals.memory
