-- Why a change is refused: computed lists, of which the first entry is answered. A change is judged
-- on the state that the changes before it leave.
use Rattle.std.specs.Prelude.{ℕ, suc, ◌+◌, nat_lt, nat_le, Bool, false, ◌&&◌, ◌||◌, if◌then◌else◌}
use Rattle.std.specs.Prelude.{is_some, Result, Ok, Err, List, [], ◌∷◌, ◌++◌, map, length, Option}
use Rattle.std.specs.Prelude.{None, Some, slice_get}
use Rattle.std.specs.Str.{bytes_eq}
use Rattle.pq_base.specs.declared.scaled.Scaled.{Scaled}
use Rattle.schema_types.specs.declared.Column.{Column}
use Rattle.schema_types.specs.declared.Lit.{Lit}
use Rattle.table_schema.specs.Cells.{cell_gives}
use Rattle.table_schema.specs.Columns.{schema_faults}
use Rattle.table_schema.specs.Rows.{row_gives}
use Rattle.table_schema.specs.declared.cells.CellFault.{CellFault}
use Rattle.table_schema.specs.declared.cells.CellFault.TheVariants as cell_faults
use Rattle.table_schema.specs.declared.rows.RowFault.{RowFault}
use Rattle.table_schema.specs.declared.rows.RowFault.TheVariants as row_faults
use Rattle.table_schema.specs.declared.schema.SchemaFault.{SchemaFault}
use Rattle.table_schema.specs.declared.schema.SchemaFault.TheVariants as schema
use Rattle.paql_ast.specs.declared.conditions.Pred.{Pred}
use Rattle.paql_bind.specs.Names.{scope, number_faults, is_text_kind, kind_of}
use Rattle.paql_bind.specs.Conditions.{filter_faults}
use Rattle.paql_bind.specs.declared.faults.Refusal.{Refusal}
use Rattle.paql_bind.specs.declared.faults.Refusal.TheVariants.{NoTable, NoColumn, WrongKind}
use Rattle.snapshots.specs.States.{State, table_named}
use Rattle.snapshots.specs.declared.tables.Table.{Table}
use Rattle.version_store.specs.declared.changes.Change.{Change}
use Rattle.version_store.specs.declared.changes.Change.TheVariants as changes
use Rattle.version_store.specs.declared.faults.CommitKind.{CommitKind}
use Rattle.version_store.specs.declared.faults.CommitKind.TheVariants.{Binding, Table as TableKind}
use Rattle.version_store.specs.declared.faults.CommitKind.TheVariants.{DuplicateColumn, Row}
use Rattle.version_store.specs.declared.faults.CommitKind.TheVariants.{Partition, Unkept, Memory}
use Rattle.version_store.specs.declared.faults.TableFault.TheVariants.{TooManyColumns, BadScale}
use Rattle.version_store.specs.declared.faults.TableFault.TheVariants.{TableExists, LimitTables}
use Rattle.version_store.specs.declared.faults.RowKind.TheVariants.{Arity, BadCell, OutOfRange}
use Rattle.version_store.specs.declared.faults.RowKind.TheVariants.{TextTooLong}
use Rattle.version_store.specs.declared.faults.PartitionFault.TheVariants.{Columns, Size}
use Rattle.version_store.specs.declared.limits.TheConstants.{MAX_TABLES, MAX_PARTITION_COLUMNS}
use Rattle.version_store.specs.declared.limits.TheConstants.{MAX_PARTITION_SIZE}

abbrev pub bound_faults : List Refusal → List CommitKind
bound_faults faults = map Binding faults

-- the name of the column at a place
abbrev pub name_of : Option Column → List ℕ
name_of None = []
name_of (Some column) = column.name

abbrev pub name_at : List Column → ℕ → List ℕ
name_at columns place = name_of (slice_get columns place)

-- ---- CREATE

abbrev pub made_fault : List Column → SchemaFault → CommitKind
made_fault columns (schema.TooManyColumns count) = TableKind (TooManyColumns count)
made_fault columns (schema.BadScale place) = TableKind (BadScale (name_at columns place))
made_fault columns (schema.DuplicateColumn place) = DuplicateColumn (name_at columns place)

abbrev pub exists_faults : List Table → List ℕ → List CommitKind
exists_faults tables name =
    if is_some (table_named name tables) then TableKind (TableExists name) ∷ [] else []

abbrev pub tables_faults : List Table → List CommitKind
tables_faults tables = if nat_le MAX_TABLES (length tables)
    then TableKind (LimitTables (length tables + 1)) ∷ [] else []

abbrev pub create_faults : State → List ℕ → List Column → List CommitKind
create_faults state name columns = map (made_fault columns) (schema_faults columns)
    ++ (exists_faults state.tables name ++ tables_faults state.tables)

-- ---- INSERT

abbrev pub row_kind : List Column → ℕ → RowFault → CommitKind
row_kind columns row (row_faults.Arity have want) = Row (Arity have row want)
row_kind columns row (row_faults.BadCell place) = Row (BadCell (name_at columns place) row)
row_kind columns row (row_faults.OutOfRange place) = Row (OutOfRange (name_at columns place) row)
row_kind columns row (row_faults.TextTooLong place) =
    Row (TextTooLong (name_at columns place) row)
row_kind columns row (row_faults.Memory error) = Memory error

abbrev pub of_row : {A : Type 0} → List Column → ℕ → Result A RowFault → List CommitKind
of_row columns row (Ok cells) = []
of_row columns row (Err fault) = row_kind columns row fault ∷ []

-- the rows in order, each with its number
abbrev pub insert_faults : List Column → ℕ → List (List Lit) → List CommitKind
insert_faults columns row [] = []
insert_faults columns row (lits ∷ rows) =
    of_row columns row (row_gives columns lits) ++ insert_faults columns (suc row) rows

-- ---- UPDATE

abbrev pub set_kind : List ℕ → CellFault → CommitKind
set_kind name cell_faults.BadCell = Row (BadCell name 0)
set_kind name cell_faults.OutOfRange = Row (OutOfRange name 0)
set_kind name cell_faults.TextTooLong = Row (TextTooLong name 0)

abbrev pub of_cell : {A : Type 0} → List ℕ → Result A CellFault → List CommitKind
of_cell name (Ok cell) = []
of_cell name (Err fault) = set_kind name fault ∷ []

-- a value in the column that was found
abbrev pub value_faults : List ℕ → Option Column → Lit → List CommitKind
value_faults name None lit = Binding (NoColumn name) ∷ []
value_faults name (Some column) lit = of_cell name (cell_gives column.kind lit)

abbrev pub column_named : List ℕ → List Column → Option Column
column_named name [] = None
column_named name (column ∷ columns) =
    if bytes_eq column.name name then Some column else column_named name columns

abbrev pub no_column : List Column → List ℕ → List CommitKind
no_column columns name =
    if is_some (column_named name columns) then [] else Binding (NoColumn name) ∷ []

abbrev pub is_among : List ℕ → List (List ℕ) → Bool
is_among name [] = false
is_among name (other ∷ others) = bytes_eq other name || is_among name others

abbrev pub twice : List (List ℕ) → List ℕ → List CommitKind
twice before name = if is_among name before then DuplicateColumn name ∷ [] else []

-- SET by SET: no such column, a column of a SET before, the value
abbrev pub set_faults : List Column → List (List ℕ) → List (List ℕ × Lit) → List CommitKind
set_faults columns before [] = []
set_faults columns before (set ∷ sets) = no_column columns set.0
    ++ (twice before set.0
    ++ (value_faults set.0 (column_named set.0 columns) set.1
    ++ set_faults columns (before ++ set.0 ∷ []) sets))

abbrev pub condition_faults : Table → Option Pred → List CommitKind
condition_faults table filter = bound_faults (filter_faults (scope table.columns table.name) filter)

-- ---- PARTITION

abbrev pub text_faults : List ℕ → Option Column → List CommitKind
text_faults name column =
    if is_text_kind (kind_of column) then Binding (WrongKind name) ∷ [] else []

-- column by column: no such column, a text, a column before it
abbrev pub group_faults : List Column → List (List ℕ) → List (List ℕ) → List CommitKind
group_faults columns before [] = []
group_faults columns before (name ∷ names) = no_column columns name
    ++ (text_faults name (column_named name columns)
    ++ (twice before name
    ++ group_faults columns (before ++ name ∷ []) names))

abbrev pub width_faults : ℕ → List CommitKind
width_faults count =
    if nat_lt MAX_PARTITION_COLUMNS count then Partition (Columns count) ∷ [] else []

abbrev pub size_faults : ℕ → List CommitKind
size_faults size =
    if nat_le 1 size && nat_le size MAX_PARTITION_SIZE then [] else Partition (Size size) ∷ []

abbrev pub partition_faults : List Column → List (List ℕ) → ℕ → Scaled → List CommitKind
partition_faults columns names size radius = group_faults columns [] names
    ++ (width_faults (length names)
    ++ (size_faults size ++ bound_faults (number_faults radius)))

-- ---- VACUUM

-- the version is kept: from low to the version before the commit
abbrev pub vacuum_faults : ℕ → ℕ → ℕ → List CommitKind
vacuum_faults low high asked =
    if nat_le low asked && nat_le asked high then [] else Unkept asked low high ∷ []

-- ---- any change

-- the faults of a change of a table that is there
abbrev pub on_table : List ℕ → Option Table → (Table → List CommitKind) → List CommitKind
on_table name None faults = Binding (NoTable name) ∷ []
on_table name (Some table) faults = faults table

abbrev pub on_named : State → List ℕ → (Table → List CommitKind) → List CommitKind
on_named state name faults = on_table name (table_named name state.tables) faults

-- the faults of a change of a commit after the version `high`
abbrev pub change_faults : ℕ → State → Change → List CommitKind
change_faults high state (changes.Create table columns) = create_faults state table columns
change_faults high state (changes.Insert table rows) =
    on_named state table (λ (found : Table). insert_faults found.columns 1 rows)
change_faults high state (changes.Update table sets filter) = on_named state table
    (λ (found : Table). set_faults found.columns [] sets ++ condition_faults found filter)
change_faults high state (changes.Delete table filter) =
    on_named state table (λ (found : Table). condition_faults found filter)
change_faults high state (changes.Partition table columns size radius) = on_named state table
    (λ (found : Table). partition_faults found.columns columns size radius)
change_faults high state (changes.Vacuum version) = vacuum_faults state.low high version
