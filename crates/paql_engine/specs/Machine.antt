-- Private: the contracts of the machine in `src/machine.rt`: its wishes and its calls.
-- What each call of a session machine does.
use Rattle.std.specs.Prelude.{◌≡◌, ◌≢◌, ℕ, ◌-◌, ◌<◌, min, IfOk, Result, List, [], ◌++◌, drop}
use Rattle.std.specs.declared.alloc.AllocError.{AllocError}
use Rattle.version_store.specs.Vaults.{Holding}
use Rattle.paql_engine.specs.Conversation.{Conversation, MachineData, OwnMachine, IsServing, over}
use Rattle.paql_engine.specs.Conversation.{framing, parsing, reading, ended}
use Rattle.paql_engine.specs.State.{SessionState}
use Rattle.paql_engine.specs.Texts.{IsText}
use Rattle.paql_engine.specs.declared.ending.TheConstants.{MAX_BYTES, MAX_READ}
use Rattle.paql_engine.specs.declared.machine.Wish.{Wish}
use Rattle.paql_engine.specs.declared.machine.Wish.TheVariants.{Parse, Write, Read, End}
use Rattle.paql_engine.specs.declared.text.Text.{Text}

-- Whatever was taken and written before, it is so afterwards.
abbrev pub Continues : MachineData → MachineData → Type 0
Continues old new = (first : SessionState) (bytes written : List ℕ)
    → IsServing first bytes written old → IsServing first bytes written new

-- and with these more bytes taken
abbrev pub Feeds : MachineData → List ℕ → MachineData → Type 0
Feeds old piece new = (first : SessionState) (bytes written : List ℕ)
    → IsServing first bytes written old → IsServing first (bytes ++ piece) written new

-- and with these more bytes written
abbrev pub Writes : MachineData → List ℕ → MachineData → Type 0
Writes old piece new = (first : SessionState) (bytes written : List ℕ)
    → IsServing first bytes written old → IsServing first bytes (written ++ piece) new

-- the same of a machine that doesn't touch its vault, whatever that holds
abbrev pub ContinuesOver : OwnMachine → OwnMachine → Type 0
ContinuesOver old new = (vault : Holding) → Continues (over vault old) (over vault new)

abbrev pub FeedsOver : OwnMachine → List ℕ → OwnMachine → Type 0
FeedsOver old piece new = (vault : Holding) → Feeds (over vault old) piece (over vault new)

abbrev pub WritesOver : OwnMachine → List ℕ → OwnMachine → Type 0
WritesOver old piece new = (vault : Holding) → Writes (over vault old) piece (over vault new)

-- the machine has this text to parse
abbrev pub HasText : Conversation → List ℕ → Type 0
HasText talk words = talk.stage ≡ parsing words

-- so many bytes may be read next
abbrev pub room_of : Conversation → ℕ
room_of talk = min MAX_READ (MAX_BYTES - talk.taken)

-- the same conversation after so many of the bytes owed were written
abbrev pub without_owed : Conversation → ℕ → Conversation
without_owed talk count = record {
  input = talk.input;
  waiting = talk.waiting;
  owed = drop count talk.owed;
  taken = talk.taken;
  stage = talk.stage;
}

-- What a machine wishes, and how its conversation is then. It wishes to read only if nothing is
-- owed and no whole frame is left.
abbrev pub Wishes : Wish → Conversation → Type 0
Wishes Parse talk = (words : List ℕ) × HasText talk words
Wishes Write talk = (talk.stage ≡ framing) × (talk.owed ≢ [])
Wishes (Read room) talk =
    (talk.stage ≡ reading) × (talk.owed ≡ []) × (room ≡ room_of talk) × (0 < room)
Wishes (End end) talk = talk.stage ≡ ended end

-- what was read is the text that the machine has to parse
abbrev pub IsParsed : Conversation → Result Text AllocError → Type 0
IsParsed talk parsed = (words : List ℕ) × HasText talk words × IfOk parsed (IsText words)
