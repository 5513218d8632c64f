-- What a source or a sink shows at a moment, and what it did between two moments.
use Rattle.std.specs.Prelude.{◌≡◌, ℕ, List, ◌++◌, Option}
use Rattle.std.specs.Io.KnownBytes.{Consumes, Appends, IsAtEnd}
use Rattle.pq_base.specs.Outside.{Rose}

-- A source shows the bytes that are left, a sink those that were written, each if it tells them.
-- Both show how often they failed.
pub record Shown : Type 0 where
  pub bytes : Option (List ℕ)
  pub faults : ℕ

-- What something shows at a moment. A clause of a generic function says
-- `shown S.left S.faults source.old` of a source and `shown K.written K.faults sink.old` of a sink.
abbrev pub shown : {T : Type 0} → (T → Option (List ℕ)) → (T → ℕ) → T → Shown
shown bytes faults it = record { bytes = bytes it; faults = faults it }

-- The source gave these bytes.
abbrev pub GivesBytes : Shown → Shown → List ℕ → Type 0
GivesBytes old new bytes = Consumes old.bytes new.bytes bytes

-- Nothing is left to read.
abbrev pub HasEnded : Shown → Type 0
HasEnded source = IsAtEnd source.bytes

-- The sink took these bytes.
abbrev pub TakesBytes : Shown → Shown → List ℕ → Type 0
TakesBytes old new bytes = Appends old.bytes new.bytes bytes

-- The sink took a prefix of these bytes.
abbrev pub TakesPrefix : Shown → Shown → List ℕ → Type 0
TakesPrefix old new bytes =
    (taken rest : List ℕ) × (bytes ≡ taken ++ rest) × TakesBytes old new taken

-- It failed in between.
abbrev pub HasFailed : Shown → Shown → Type 0
HasFailed old new = Rose old.faults new.faults

-- It didn't fail in between.
abbrev pub HasNoFault : Shown → Shown → Type 0
HasNoFault old new = new.faults ≡ old.faults
