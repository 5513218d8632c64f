-- How a session ends, and what was taken, performed and written then.
use Rattle.std.specs.Prelude.{◌≡◌, ◌⊎◌, ℕ, List, [], ◌∷◌, ◌++◌, length}
use Rattle.session_proto.specs.Replies.{ReplyData}
use Rattle.session_proto.specs.Sessions.{Frame, Begins, AreFrames, EndsClean, IsOverlong}
use Rattle.paql_engine.specs.Texts.{IsLoad}
use Rattle.paql_engine.specs.Transcript.{texts}
use Rattle.paql_engine.specs.declared.ending.SessionEnd.{SessionEnd}
use Rattle.paql_engine.specs.declared.ending.SessionEnd.TheVariants as ends
use Rattle.paql_engine.specs.declared.ending.TheConstants.{MAX_BYTES}

-- The bytes that were taken, the frames of them that were performed, the replies to these, and the
-- bytes of replies that were written.
pub record Account : Type 0 where
  pub bytes : List ℕ
  pub frames : List Frame
  pub replies : List ReplyData
  pub written : List ℕ

-- the frames are all of the bytes, without the rest, and just their replies were written
pub record IsAnswered (account : Account) (rest : List ℕ) : Type 0 where
  pub frames : AreFrames IsLoad account.bytes account.frames rest
  pub written : account.written ≡ texts account.replies

-- the frames are the first of the bytes
abbrev pub IsBegun : Account → Type 0
IsBegun account = (rest : List ℕ) × Begins IsLoad account.bytes account.frames rest

-- a prefix of the replies was written
abbrev pub WritesPrefix : Account → Type 0
WritesPrefix account = (later : List ℕ) × (texts account.replies ≡ account.written ++ later)

-- the replies that were written are all of them, or all but the last
abbrev pub WritesAllBut : Account → Type 0
WritesAllBut account = (account.written ≡ texts account.replies)
    ⊎ ((first : List ReplyData) × (last : ReplyData) × (account.replies ≡ first ++ last ∷ [])
    × (account.written ≡ texts first))

-- What a session came to at each end.
abbrev pub EndsSo : Account → SessionEnd → Type 0
EndsSo account ends.Done =
    (rest : List ℕ) × IsAnswered account rest × (¬ IsOverlong rest) × EndsClean rest
EndsSo account ends.Truncated =
    (rest : List ℕ) × IsAnswered account rest × (¬ IsOverlong rest) × (¬ EndsClean rest)
EndsSo account ends.ReadFault = (rest : List ℕ) × IsAnswered account rest × (¬ IsOverlong rest)
EndsSo account ends.WriteFault = IsBegun account × WritesPrefix account
EndsSo account ends.Memory = IsBegun account × WritesAllBut account
EndsSo account ends.TooLong = (rest : List ℕ) × IsAnswered account rest × IsOverlong rest
EndsSo account ends.SessionLimit = (rest : List ℕ) × IsAnswered account rest × (¬ IsOverlong rest)
    × (length account.bytes ≡ MAX_BYTES)
