-- Why a change or a query is refused, as replies tell it.
use Rattle.std.specs.Prelude.{ℕ, List, [], Option, Some}
use Rattle.paql_bind.specs.declared.faults.Refusal.{Refusal as Fault}
use Rattle.paql_bind.specs.declared.faults.Refusal.TheVariants as faults
use Rattle.version_store.specs.declared.faults.CommitFault.{CommitFault}
use Rattle.version_store.specs.declared.faults.CommitKind.{CommitKind}
use Rattle.version_store.specs.declared.faults.CommitKind.TheVariants as kinds
use Rattle.version_store.specs.declared.faults.PartitionFault.{PartitionFault}
use Rattle.version_store.specs.declared.faults.PartitionFault.TheVariants.{Columns, Size}
use Rattle.version_store.specs.declared.faults.RowKind.{RowKind}
use Rattle.version_store.specs.declared.faults.RowKind.TheVariants.{Arity, BadCell, OutOfRange, TextTooLong}
use Rattle.version_store.specs.declared.faults.TableFault.{TableFault}
use Rattle.version_store.specs.declared.faults.TableFault.TheVariants.{TooManyColumns, BadScale, TableExists, LimitTables}
use Rattle.session_proto.specs.Refusals as refusals
use Rattle.session_proto.specs.Refusals.{Refusal}

-- a name or a number that can't be bound, in a query or in the change of this number
abbrev pub binding_cause : Option ℕ → Fault → Refusal
binding_cause change (faults.NoTable name) = refusals.no_table change name
binding_cause change (faults.NoColumn name) = refusals.no_column change name
binding_cause change (faults.WrongKind name) = refusals.wrong_kind change name
binding_cause change faults.TooFineLiteral = refusals.too_fine change
binding_cause change faults.LiteralRange = refusals.literal_range change
binding_cause change faults.Factor = refusals.factor
binding_cause change (faults.LimitBudget given) = refusals.limit_budget given
binding_cause change (faults.LimitConjuncts given) = refusals.limit_conjuncts given
binding_cause change (faults.LimitTerms conjunct given) = refusals.limit_terms conjunct given
binding_cause change faults.Unbounded = refusals.unbounded
binding_cause change (faults.LimitRepeat given) = refusals.limit_repeat given

abbrev pub table_cause : ℕ → TableFault → Refusal
table_cause change (TooManyColumns given) = refusals.too_many_columns change given
table_cause change (BadScale name) = refusals.bad_scale change name
table_cause change (TableExists name) = refusals.table_exists change name
table_cause change (LimitTables given) = refusals.limit_tables given

abbrev pub row_cause : ℕ → RowKind → Refusal
row_cause change (Arity have row want) = refusals.arity change have row want
row_cause change (BadCell column row) = refusals.bad_cell change column row
row_cause change (OutOfRange column row) = refusals.out_of_range change column row
row_cause change (TextTooLong column row) = refusals.text_too_long change column row

abbrev pub given_in : PartitionFault → ℕ
given_in (Columns given) = given
given_in (Size given) = given

-- a fault of the change of this number, or of the whole commit
abbrev pub kind_cause : ℕ → CommitKind → Refusal
kind_cause change (kinds.Binding fault) = binding_cause (Some change) fault
kind_cause change (kinds.Table fault) = table_cause change fault
kind_cause change (kinds.DuplicateColumn name) = refusals.duplicate_column change name
kind_cause change (kinds.Row fault) = row_cause change fault
kind_cause change (kinds.Partition fault) = refusals.limit_partition change (given_in fault)
kind_cause change (kinds.Unkept asked low high) = refusals.unkept (Some change) asked high low
kind_cause change (kinds.LimitVersions given) = refusals.limit_versions given
kind_cause change (kinds.LimitCommit given) = refusals.limit_commit given
kind_cause change (kinds.LimitRows given) = refusals.limit_rows given
kind_cause change (kinds.Memory error) = refusals.memory

abbrev pub commit_cause : CommitFault → Refusal
commit_cause fault = kind_cause fault.change fault.kind

-- the name that the refusal of a change shows, if it shows one
abbrev pub name_in : Refusal → List ℕ
name_in (refusals.no_table change name) = name
name_in (refusals.no_column change name) = name
name_in (refusals.wrong_kind change name) = name
name_in (refusals.table_exists change name) = name
name_in (refusals.duplicate_column change name) = name
name_in (refusals.bad_scale change name) = name
name_in (refusals.bad_cell change name row) = name
name_in (refusals.out_of_range change name row) = name
name_in (refusals.text_too_long change name row) = name
name_in (refusals.bad_field name number) = name
name_in cause = []
