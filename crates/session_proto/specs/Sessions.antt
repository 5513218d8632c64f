-- The frames of a session's bytes: its statements with what comes after each, and the rest.
use Rattle.std.specs.Prelude.{◌≡◌, ◌↔◌, ◌⊎◌, IsTrue, ℕ, ◌+◌, ◌≤◌, nat_le, if◌then◌else◌, List, [], ◌∷◌, ◌++◌, length, take, Option, None, Some}
use Rattle.session_proto.specs.Frames.{is_blank, IsOpen, IsStatement, Skips, closed}
use Rattle.session_proto.specs.Input.{Input, Content, absent, held, skipped, HoldsNothingOwed, Given, IsNext, statement, content, need, too_long, fed, awaiting}
use Rattle.session_proto.specs.declared.scan.Place.TheVariants as places
use Rattle.session_proto.specs.declared.framer.Awaited.{Awaited}

-- a statement's text, and what comes after it
pub record Frame : Type 0 where
  pub text : List ℕ
  pub content : Content

-- The statement has no body, and all of the bytes come after it.
pub record TakesNothing (Wanted : ℕ → Type 0) (bytes : List ℕ) (given : Content)
    (rest : List ℕ) : Type 0 where
  pub unwanted : (count : ℕ) → ¬ Wanted count
  pub nothing : given ≡ absent
  pub all : rest ≡ bytes

-- The statement has a body, which is the first of the bytes. A body of more than 16 MiB isn't held.
pub record TakesBody (Wanted : ℕ → Type 0) (bytes : List ℕ) (given : Content)
    (rest : List ℕ) : Type 0 where
  pub count : ℕ
  pub wanted : Wanted count
  pub body : List ℕ
  pub size : length body ≡ count
  pub first : bytes ≡ body ++ rest
  pub gives : given ≡ (if nat_le count 16777216 then held body else skipped count)

-- The body of a statement, or none, and what comes after. `Wanted` says how many bytes the body
-- has.
abbrev pub Takes : (ℕ → Type 0) → List ℕ → Content → List ℕ → Type 0
Takes Wanted bytes given rest =
    TakesNothing Wanted bytes given rest ⊎ TakesBody Wanted bytes given rest

-- The first statement of the bytes, with its body, and what comes after. `Wants` says of a text and
-- a number that the text's statement has a body of so many bytes.
pub record IsFirst (Wants : List ℕ → ℕ → Type 0) (bytes : List ℕ) (frame : Frame)
    (rest : List ℕ) : Type 0 where
  pub behind : List ℕ
  pub is_statement : IsStatement frame.text
  pub first : Skips bytes (closed frame.text ++ behind)
  pub takes : Takes (Wants frame.text) behind frame.content rest

-- these frames come first, and then the rest
abbrev pub Begins : (List ℕ → ℕ → Type 0) → List ℕ → List Frame → List ℕ → Type 0
Begins Wants bytes [] rest = rest ≡ bytes
Begins Wants bytes (frame ∷ frames) rest =
    (behind : List ℕ) × IsFirst Wants bytes frame behind × Begins Wants behind frames rest

-- no further statement is whole in the rest, with its body
abbrev pub NoneWhole : (List ℕ → ℕ → Type 0) → List ℕ → Type 0
NoneWhole Wants rest = (frame : Frame) (behind : List ℕ) → ¬ IsFirst Wants rest frame behind

-- all frames of the bytes, and the rest
pub record AreFrames (Wants : List ℕ → ℕ → Type 0) (bytes : List ℕ) (frames : List Frame)
    (rest : List ℕ) : Type 0 where
  pub begins : Begins Wants bytes frames rest
  pub none : NoneWhole Wants rest

-- ---- how the bytes end

-- After the last frame come only space, comments and blank frames.
abbrev pub EndsClean : List ℕ → Type 0
EndsClean rest = (left : List ℕ) × Skips rest left × IsTrue (is_blank left)

-- After the last frame one begins that is longer than any may be.
pub record IsOverlong (rest : List ℕ) : Type 0 where
  pub left : List ℕ
  pub skips : Skips rest left
  pub long : 1048576 ≤ length left
  pub is_open : IsOpen places.Plain (take 1048576 left)

-- ---- how far a framer is

-- It gave these frames of the bytes that it was fed, and no further statement.
pub record StandsBetween (Wants : List ℕ → ℕ → Type 0) (bytes : List ℕ)
    (frames : List Frame) (input : Input) : Type 0 where
  pub rest : List ℕ
  pub begins : Begins Wants bytes frames rest
  pub skips : Skips rest input.left
  pub awaits : input.awaited ≡ None

-- It gave these frames and then the statement, whose body is to come. Some of the body may be
-- thrown away already.
pub record StandsBehind (Wants : List ℕ → ℕ → Type 0) (bytes : List ℕ)
    (frames : List Frame) (text : List ℕ) (input : Input) : Type 0 where
  pub rest : List ℕ
  pub begins : Begins Wants bytes frames rest
  pub is_statement : IsStatement text
  pub thrown : List ℕ
  pub first : Skips rest (closed text ++ (thrown ++ input.left))
  pub body : Awaited
  pub awaits : input.awaited ≡ Some body
  pub wanted : Wants text body.bytes
  pub owes : length thrown + body.owed ≡ (if nat_le body.bytes 16777216 then 0 else body.bytes)
  pub settled : HoldsNothingOwed input.awaited input.left

abbrev pub Stands : (List ℕ → ℕ → Type 0) → List ℕ → List Frame → Option (List ℕ) → Input → Type 0
Stands Wants bytes frames None input = StandsBetween Wants bytes frames input
Stands Wants bytes frames (Some text) input = StandsBehind Wants bytes frames text input

-- ---- laws

-- A statement has a body of one size alone.
abbrev pub OneWish : (List ℕ → ℕ → Type 0) → Type 0
OneWish Wants = (text : List ℕ) (one other : ℕ) → Wants text one → Wants text other → one ≡ other

-- There is one list of frames, and one rest.
abbrev pub OneFraming : (List ℕ → ℕ → Type 0) → Type 0
OneFraming Wants = OneWish Wants → (bytes : List ℕ) (one other : List Frame) (x y : List ℕ)
    → AreFrames Wants bytes one x → AreFrames Wants bytes other y → (one ≡ other) × (x ≡ y)

-- A new framer is at the beginning.
abbrev pub StandsAtFirst : (List ℕ → ℕ → Type 0) → Type 0
StandsAtFirst Wants = Stands Wants [] [] None (record { left = []; awaited = None })

-- Bytes that come are those after the bytes so far.
abbrev pub StandsFed : (List ℕ → ℕ → Type 0) → Type 0
StandsFed Wants = (bytes piece : List ℕ) (frames : List Frame)
    (before : Option (List ℕ)) (input : Input)
    → Stands Wants bytes frames before input
    → Stands Wants (bytes ++ piece) frames before (fed input piece)

-- A statement that is given and wants no body is the next frame.
abbrev pub StandsAfterStatement : (List ℕ → ℕ → Type 0) → Type 0
StandsAfterStatement Wants = (bytes text : List ℕ) (frames : List Frame)
    (input after : Input)
    → Stands Wants bytes frames None input → IsNext input (statement text) after
    → ((count : ℕ) → ¬ Wants text count)
    → Stands Wants bytes (frames ++ record { text = text; content = absent } ∷ []) None after

-- A statement that is given and wants a body is followed by it.
abbrev pub StandsAwaiting : (List ℕ → ℕ → Type 0) → Type 0
StandsAwaiting Wants = (bytes text : List ℕ) (frames : List Frame)
    (input after : Input) (count : ℕ)
    → Stands Wants bytes frames None input → IsNext input (statement text) after
    → Wants text count
    → Stands Wants bytes frames (Some text) (awaiting after count)

-- With the body the frame is whole.
abbrev pub StandsAfterBody : (List ℕ → ℕ → Type 0) → Type 0
StandsAfterBody Wants = (bytes text : List ℕ) (frames : List Frame)
    (given : Content) (input after : Input)
    → Stands Wants bytes frames (Some text) input → IsNext input (content given) after
    → Stands Wants bytes (frames ++ record { text = text; content = given } ∷ []) None after

-- If more bytes are needed, the frames given are all that there are, and no frame is too long.
abbrev pub NeedsAtEnd : (List ℕ → ℕ → Type 0) → Type 0
NeedsAtEnd Wants = OneWish Wants → (bytes : List ℕ) (frames : List Frame)
    (before : Option (List ℕ)) (input after : Input)
    → Stands Wants bytes frames before input → IsNext input need after
    → Stands Wants bytes frames before after
    × ((rest : List ℕ) × AreFrames Wants bytes frames rest × ¬ IsOverlong rest)

-- If a frame is too long, the frames given are all that there are, however the bytes go on.
abbrev pub TooLongAtEnd : (List ℕ → ℕ → Type 0) → Type 0
TooLongAtEnd Wants = (bytes more : List ℕ) (frames : List Frame)
    (input after : Input)
    → Stands Wants bytes frames None input → IsNext input too_long after
    → (rest : List ℕ) × AreFrames Wants (bytes ++ more) frames (rest ++ more)
    × IsOverlong (rest ++ more)

-- A frame that is too long is so however the bytes go on.
abbrev pub OverlongStays : Type 0
OverlongStays = (rest more : List ℕ) → IsOverlong rest → IsOverlong (rest ++ more)

-- If more bytes are needed, a framer is clean exactly if the bytes end so.
abbrev pub CleanAtEnd : (List ℕ → ℕ → Type 0) → Type 0
CleanAtEnd Wants = (bytes : List ℕ) (frames : List Frame)
    (before : Option (List ℕ)) (input after : Input) (rest : List ℕ)
    → Stands Wants bytes frames before input → IsNext input need after
    → AreFrames Wants bytes frames rest
    → ((after.awaited ≡ None) × IsTrue (is_blank after.left)) ↔ EndsClean rest

-- What a call gives and leaves follows from the bytes left and the body awaited.
abbrev pub OneNext : Type 0
OneNext = (input : Input) (one other : Given) (x y : Input)
    → IsNext input one x → IsNext input other y → (one ≡ other) × (x ≡ y)
