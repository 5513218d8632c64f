-- Private: the reader in `src/records.rt`.
-- A reader of `csv` as the list of the records that it has still to give.
use Rattle.std.specs.Prelude.{◌≡◌, ℕ, ◌<◌, false, List, [], ◌∷◌, length, Option, Some}
use Rattle.std.specs.Borrow.{Bor}
use Rattle.csv.specs.Machine.{ends_at_end}
use Rattle.csv.specs.Reading.{Ready, default_config, expected_len, is_flexible, reader_config}
use Rattle.csv.specs.Reading.{reader_state, reader_trim, records_from, source_of}
use Rattle.csv.specs.declared.error.ErrorKind.{ErrorKind}
use Rattle.csv.specs.declared.error.ErrorKind.TheVariants as kinds
use Rattle.csv.specs.declared.reader.Reader.{Reader}
use Rattle.csv.specs.declared.reader.Trim.TheVariants as trims
use Rattle.csv_load.specs.Loading.{IsWhole}
use Rattle.csv_load.specs.declared.records.Next.{Next}
use Rattle.csv_load.specs.declared.records.Next.TheVariants.{Fields, End, Bad, Memory}

-- the bytes that a reader has still to read, and the records that they are
pub record HasLeft (reader : Reader (Bor (List ℕ))) (rest : List (List (List ℕ))) : Type 0 where
  pub fuel : ℕ
  pub bytes : List ℕ
  pub source : source_of (λ (s : Bor (List ℕ)). Some s.now) reader ≡ Some bytes
  pub enough : length bytes < fuel
  pub between : ends_at_end (reader_state reader) ≡ false
  pub records : rest ≡ records_from default_config fuel (reader_state reader) bytes

-- a reader that isn't within a record, asks for so many fields, and has these records left
pub record IsBetween (reader : Reader (Bor (List ℕ))) (wanted : Option ℕ)
    (rest : List (List (List ℕ))) : Type 0 where
  pub untrimmed : reader_trim reader ≡ trims.None
  pub strict : is_flexible reader ≡ false
  pub ready : Ready reader
  pub config : reader_config reader ≡ default_config
  pub expects : expected_len reader ≡ wanted
  pub left : HasLeft reader rest

-- the next record was given, and these are left
pub record Takes (count : ℕ) (rest : List (List (List ℕ))) (fields : List (List ℕ))
    (reader : Reader (Bor (List ℕ))) : Type 0 where
  pub later : List (List (List ℕ))
  pub next : rest ≡ fields ∷ later
  pub between : IsBetween reader (Some count) later

-- what an error tells of the next record
abbrev pub next_after : ErrorKind → Next
next_after (kinds.UnequalLengths start expected len) = Bad
next_after (kinds.Utf8 start error) = Bad
next_after kind = Memory

-- what comes of reading the first record, as bytes
abbrev pub GivesFirst : List (List (List ℕ)) → List (List ℕ) → Reader (Bor (List ℕ)) → Next
    → Type 0
GivesFirst rest fields reader Fields = Takes (length fields) rest fields reader
GivesFirst rest fields reader End = rest ≡ []
GivesFirst rest fields reader Bad = ⊥
GivesFirst rest fields reader Memory = Unit {0}

-- the next record isn't whole
pub record IsTorn (count : ℕ) (rest : List (List (List ℕ))) : Type 0 where
  pub fields : List (List ℕ)
  pub later : List (List (List ℕ))
  pub next : rest ≡ fields ∷ later
  pub torn : ¬ IsWhole count fields

-- what comes of reading a later record, as texts
abbrev pub GivesNext : ℕ → List (List (List ℕ)) → List (List ℕ) → Reader (Bor (List ℕ)) → Next
    → Type 0
GivesNext count rest fields reader Fields = Takes count rest fields reader × IsWhole count fields
GivesNext count rest fields reader End = rest ≡ []
GivesNext count rest fields reader Bad = IsTorn count rest
GivesNext count rest fields reader Memory = Unit {0}
