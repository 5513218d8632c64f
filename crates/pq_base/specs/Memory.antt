-- Private: the sources and sinks over memory, which are for tests.
-- Sources and sinks over memory, as contracts see them, and what a call of each does.
use Rattle.std.specs.Prelude.{◌≡◌, ℕ, ◌+◌, ◌-◌, ◌^◌, ◌<◌, ◌↔◌, ◌⊎◌, Bool, false, IsTrue, min, List, ◌++◌, length, take, drop, Contains}
use Rattle.pq_base.specs.declared.outside.Pull.{Pull}
use Rattle.pq_base.specs.declared.outside.Pull.TheVariants as pulls
use Rattle.pq_base.specs.declared.outside.Push.{Push}
use Rattle.pq_base.specs.declared.outside.Push.TheVariants as pushes

-- one more, up to the end of its type
abbrev pub counted : ℕ → ℕ
counted n = min (n + 1) (2 ^ 64 - 1)

-- a source that fails at chosen calls
pub record SourceState : Type 0 where
  pub left : List ℕ  -- the bytes that are left
  pub piece : ℕ  -- a call gives so many of them at most
  pub fail : List ℕ  -- the calls that fail, by their numbers from 1
  pub calls : ℕ  -- how many calls there were
  pub faults : ℕ  -- how many of them failed

-- a call that fails counts itself and its fault, and any other gives as many bytes as piece, room
-- and rest allow
abbrev pub GivesFromMemory : SourceState → SourceState → Pull → ℕ → Type 0
GivesFromMemory old new (pulls.Got n) room = (n ≡ min (min old.piece room) (length old.left))
    × (new ≡ record old { left = drop n old.left; calls = counted old.calls })
GivesFromMemory old new pulls.Failed room =
    new ≡ record old { calls = counted old.calls; faults = counted old.faults }

pub record IsSourceCall (old new : SourceState) (result : Pull) (room : ℕ) : Type 0 where
  pub fails : (result ≡ pulls.Failed) ↔ Contains old.fail (counted old.calls)
  pub gives : GivesFromMemory old new result room

-- a sink that fails at chosen calls, and when it finds no memory
pub record SinkState : Type 0 where
  pub written : List ℕ  -- the bytes that were written
  pub fail : List ℕ  -- the calls that fail, by their numbers from 1
  pub calls : ℕ  -- how many calls there were
  pub faults : ℕ  -- how many of them failed
  pub starved : Bool  -- whether the last call found no memory

-- a call takes the whole piece, or counts itself and its fault
abbrev pub TakesIntoMemory : SinkState → SinkState → Push → List ℕ → Type 0
TakesIntoMemory old new (pushes.Took n) piece = (n ≡ length piece)
    × (new ≡ record old {
      written = old.written ++ piece;
      calls = counted old.calls;
      starved = false;
    })
TakesIntoMemory old new pushes.Failed piece = new
    ≡ record old { calls = counted old.calls; faults = counted old.faults; starved = new.starved }

-- the next call is one of those that fail
abbrev pub IsChosen : SinkState → Type 0
IsChosen sink = Contains sink.fail (counted sink.calls)

-- A call fails if it was chosen or found no memory, and never else. A chosen one asks for no memory.
pub record IsSinkCall (old new : SinkState) (result : Push) (piece : List ℕ) : Type 0 where
  pub fails : (result ≡ pushes.Failed) ↔ (IsChosen old ⊎ IsTrue new.starved)
  pub asks : IsTrue new.starved → ¬ IsChosen old
  pub takes : TakesIntoMemory old new result piece

-- a sink of fixed room: what was written, how many bytes it still takes, and how often it failed
pub record RoomState : Type 0 where
  pub written : List ℕ
  pub room : ℕ
  pub faults : ℕ

-- a call takes what there is room for, and fails if there is none for any byte of a piece
abbrev pub TakesIntoRoom : RoomState → RoomState → Push → List ℕ → Type 0
TakesIntoRoom old new (pushes.Took n) piece = (n ≡ min (length piece) old.room)
    × (new ≡ record old { written = old.written ++ take n piece; room = old.room - n })
TakesIntoRoom old new pushes.Failed piece = (0 < length piece) × (old.room ≡ 0)
    × (new ≡ record old { faults = counted old.faults })
