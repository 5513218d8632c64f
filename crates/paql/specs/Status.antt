-- What the top call does, by its words, and its statuses.
use Rattle.std.specs.Prelude.{◌≡◌, ℕ, List, [], ◌∷◌, length, String, codes, string_bytes}
use Rattle.std.specs.declared.alloc.Global.{Global}
use Rattle.pq_base.specs.Shown.{Shown}
use Rattle.version_store.specs.Histories.{History}
use Rattle.version_store.specs.Vaults.{Holding}
use Rattle.paql_engine.specs.declared.ending.SessionEnd.{SessionEnd}
use Rattle.paql_engine.specs.declared.ending.SessionEnd.TheVariants as ends
use Rattle.session_server.specs.Checks.{ChecksWith, HasCheckCause, HasQuery, IsToldOrFault}
use Rattle.session_server.specs.Ends.{EndsWith, HasCause, IsWholeScript, IsDoneOrFault}
use Rattle.session_server.specs.declared.checking.CheckEnd.{CheckEnd}
use Rattle.session_server.specs.declared.checking.CheckEnd.TheVariants as check_ends

-- the words are this one
abbrev pub IsOneWord : List ℕ → List (String Global) → Type 0
IsOneWord wanted (word ∷ []) = string_bytes word ≡ wanted
IsOneWord wanted words = ⊥

abbrev pub IsRun : List (String Global) → Type 0
IsRun words = IsOneWord (codes "run") words

abbrev pub IsCheck : List (String Global) → Type 0
IsCheck words = IsOneWord (codes "check") words

-- each end of a session has a status of its own; 2 is that of wrong words
abbrev pub code_of : SessionEnd → ℕ
code_of ends.Done = 0
code_of ends.Truncated = 1
code_of ends.ReadFault = 3
code_of ends.WriteFault = 4
code_of ends.Memory = 5
code_of ends.TooLong = 6
code_of ends.SessionLimit = 7

-- and so has each end of a check, the same for the same end
abbrev pub check_code : CheckEnd → ℕ
check_code check_ends.Valid = 0
check_code check_ends.Truncated = 1
check_code check_ends.ReadFault = 3
check_code check_ends.WriteFault = 4
check_code check_ends.Memory = 5
check_code check_ends.TooLong = 6
check_code check_ends.SessionLimit = 7
check_code check_ends.Invalid = 8
check_code check_ends.Unjudged = 9

-- a vault that nobody else commits to: all that it holds was committed through it
abbrev pub all_own : History → Holding
all_own history = record { held = history; own = length history; stake = 0 }

-- The source and the sink were read and written by a session that ended so, from no commit on. All
-- commits of its history are its own: they are those of the accepted statements. A whole script
-- is answered to its end, if no fault comes and memory doesn't run out.
pub record Runs (source source_now sink sink_now : Shown) (code : ℕ) : Type 0 where
  pub history : History
  pub end : SessionEnd
  pub is : code ≡ code_of end
  pub ends : EndsWith (all_own []) (all_own history) source source_now sink sink_now end
  pub cause : HasCause source source_now sink sink_now end
  pub complete : IsWholeScript source.bytes → IsDoneOrFault end

-- The source and the sink were read and written by a check that ended so, from no commit on. All
-- commits of its history are its own. A query that comes is told of, if no fault comes and memory
-- doesn't run out.
pub record Checks (source source_now sink sink_now : Shown) (code : ℕ) : Type 0 where
  pub history : History
  pub end : CheckEnd
  pub is : code ≡ check_code end
  pub ends : ChecksWith (all_own []) (all_own history) source source_now sink sink_now end
  pub cause : HasCheckCause source source_now sink sink_now end
  pub complete : HasQuery source.bytes → IsToldOrFault end

-- What is done for the words: a session for the one word run, a check for the one word check, and
-- nothing for any others.
pub data Does (words : List (String Global)) (source source_now sink sink_now : Shown)
    (code : ℕ) : Type 0 where
  runs : IsRun words → Runs source source_now sink sink_now code
      → Does words source source_now sink sink_now code
  checks : IsCheck words → Checks source source_now sink sink_now code
      → Does words source source_now sink sink_now code
  refuses : ¬ IsRun words → ¬ IsCheck words → code ≡ 2
      → Does words source source_now sink sink_now code
