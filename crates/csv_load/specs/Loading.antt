-- What a body of CSV gives as rows of a table. Its records are those of the crate `csv` with its
-- defaults, after one byte order mark.
use Rattle.std.specs.Prelude.{◌≡◌, ℕ, ◌+◌, ◌<◌, ◌≤◌, List, [], ◌∷◌, length, map, Result, Ok, Err}
use Rattle.csv.specs.Reading.{default_config, records, strip_bom}
use Rattle.csv.specs.Records.{AllText}
use Rattle.schema_types.specs.declared.Column.{Column}
use Rattle.schema_types.specs.declared.Lit.{Lit}
use Rattle.csv_load.specs.Fields.{FieldsGive, with_first}
use Rattle.csv_load.specs.declared.loading.TheConstants.{MAX_LOAD_BYTES}
use Rattle.csv_load.specs.declared.loading.LoadFault.{LoadFault}
use Rattle.csv_load.specs.declared.loading.LoadFault.TheVariants.{LimitBytes, Header, BadRecord}
use Rattle.csv_load.specs.declared.loading.LoadFault.TheVariants.{BadCell, Memory}
use Rattle.csv_load.specs.declared.loading.Loaded.{Loaded}
use Rattle.csv_load.specs.declared.loading.Loaded.TheVariants.{Rows, Many}

-- the records of a body, each a list of fields
abbrev pub records_of : List ℕ → List (List (List ℕ))
records_of body = records default_config (strip_bom body)

abbrev pub names_of : List Column → List (List ℕ)
names_of columns = map (λ (column : Column). column.name) columns

-- a record has as many fields as there are columns, and all of them are UTF-8
pub record IsWhole (count : ℕ) (fields : List (List ℕ)) : Type 0 where
  pub each : length fields ≡ count
  pub texts : AllText fields

-- what the record of a number gives as a row
pub data RecordGives (columns : List Column) (number : ℕ) (fields : List (List ℕ))
    : Result (List Lit) LoadFault → Type 0 where
  bad_record : ¬ IsWhole (length columns) fields
      → RecordGives columns number fields (Err (BadRecord number))
  bad_cell : (place : ℕ) → IsWhole (length columns) fields → FieldsGive 0 columns fields (Err place)
      → RecordGives columns number fields (Err (BadCell number place))
  good_record : (lits : List Lit) → IsWhole (length columns) fields
      → FieldsGive 0 columns fields (Ok lits) → RecordGives columns number fields (Ok lits)

-- what records give as rows, of which the first has this number; the first refusal decides
pub data RecordsGive (columns : List Column)
    : ℕ → List (List (List ℕ)) → Result (List (List Lit)) LoadFault → Type 0 where
  no_more_records : (number : ℕ) → RecordsGive columns number [] (Ok [])
  refused_record : (number : ℕ) (fields : List (List ℕ)) (rest : List (List (List ℕ)))
      (fault : LoadFault) → RecordGives columns number fields (Err fault)
      → RecordsGive columns number (fields ∷ rest) (Err fault)
  before_records : (number : ℕ) (fields : List (List ℕ)) (rest : List (List (List ℕ)))
      (lits : List Lit) (result : Result (List (List Lit)) LoadFault)
      → RecordGives columns number fields (Ok lits)
      → RecordsGive columns (number + 1) rest result
      → RecordsGive columns number (fields ∷ rest) (with_first lits result)

-- the first record lists the names of the columns, in their order, and the others are rows
pub data TableGives (columns : List Column) (all : List (List (List ℕ)))
    : Result (List (List Lit)) LoadFault → Type 0 where
  bad_header : ((rest : List (List (List ℕ))) → ¬ (all ≡ names_of columns ∷ rest))
      → TableGives columns all (Err Header)
  good_header : (rest : List (List (List ℕ))) (result : Result (List (List Lit)) LoadFault)
      → all ≡ names_of columns ∷ rest → RecordsGive columns 1 rest result
      → TableGives columns all result

-- what a body gives
pub data BodyGives (columns : List Column) (body : List ℕ)
    : Result (List (List Lit)) LoadFault → Type 0 where
  too_long : MAX_LOAD_BYTES < length body → BodyGives columns body (Err LimitBytes)
  short_enough : (result : Result (List (List Lit)) LoadFault) → length body ≤ MAX_LOAD_BYTES
      → TableGives columns (records_of body) result → BodyGives columns body result

-- the answer is one that is given, or memory is out
abbrev pub OrMemory : {A : Type 0} → (Result A LoadFault → Type 0) → Result A LoadFault → Type 0
OrMemory Gives (Ok given) = Gives (Ok given)
OrMemory Gives (Err (Memory error)) = Unit {0}
OrMemory Gives (Err fault) = Gives (Err fault)

-- rows are kept if they aren't more than so many, and else counted
abbrev pub IsLoaded : ℕ → List (List Lit) → Loaded → Type 0
IsLoaded most rows (Rows kept) = (length rows ≤ most) × (kept ≡ rows)
IsLoaded most rows (Many count) = (most < length rows) × (count ≡ length rows)

-- what is loaded where so much is given
abbrev pub GivesLoaded : ℕ → (Result (List (List Lit)) LoadFault → Type 0)
    → Result Loaded LoadFault → Type 0
GivesLoaded most Gives (Ok loaded) =
    (rows : List (List Lit)) × Gives (Ok rows) × IsLoaded most rows loaded
GivesLoaded most Gives (Err fault) = Gives (Err fault)
