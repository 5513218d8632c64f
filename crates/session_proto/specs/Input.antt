-- What a framer holds, and what each call gives and leaves.
use Rattle.std.specs.Prelude.{◌≡◌, ℕ, ◌-◌, ◌<◌, ◌≤◌, ◌⊎◌, min, nat_le, if◌then◌else◌, List, [], ◌++◌, length, take, drop, Option, None, Some}
use Rattle.session_proto.specs.Frames.{IsOpen, IsStatement, Skips, closed}
use Rattle.session_proto.specs.declared.scan.Place.TheVariants as places
use Rattle.session_proto.specs.declared.framer.Awaited.{Awaited}
use Rattle.session_proto.specs.declared.framer.Body.{Body}
use Rattle.session_proto.specs.declared.framer.Body.TheVariants as bodies
use Rattle.session_proto.specs.declared.framer.Framed.{Framed}
use Rattle.session_proto.specs.declared.framer.Framed.TheVariants as framed

-- the bytes that were fed and neither given nor thrown away, and the body that is to be given next
pub record Input : Type 0 where
  pub left : List ℕ
  pub awaited : Option Awaited

-- how many of the bytes that come next are thrown away
abbrev pub owed : Option Awaited → ℕ
owed None = 0
owed (Some body) = body.owed

abbrev pub paid : Option Awaited → ℕ → Option Awaited
paid None count = None
paid (Some body) count = Some (record { bytes = body.bytes; owed = body.owed - count })

-- what is owed isn't held
abbrev pub HoldsNothingOwed : Option Awaited → List ℕ → Type 0
HoldsNothingOwed awaited left = 0 < owed awaited → left ≡ []

-- what is owed of the bytes left is thrown away
abbrev pub settled : Option Awaited → List ℕ → Input
settled awaited left = let count = min (owed awaited) (length left) in
    record { left = drop count left; awaited = paid awaited count }

-- ---- the calls

-- more bytes come
abbrev pub fed : Input → List ℕ → Input
fed input piece = settled input.awaited (input.left ++ piece)

-- a body of more than 16 MiB isn't held
abbrev pub asked : ℕ → Awaited
asked bytes = record { bytes = bytes; owed = if nat_le bytes 16777216 then 0 else bytes }

-- a body of so many bytes is asked for
abbrev pub awaiting : Input → ℕ → Input
awaiting input bytes = settled (Some (asked bytes)) input.left

-- what comes after a statement
pub data Content : Type 0 where
  absent : Content
  held : List ℕ → Content
  skipped : ℕ → Content

-- what a call gives
pub data Given : Type 0 where
  statement : List ℕ → Given
  content : Content → Given
  need : Given
  too_long : Given

abbrev pub content_of : Body → Content
content_of bodies.None = absent
content_of (bodies.Bytes bytes) = held bytes.items
content_of (bodies.Skipped count) = skipped count

abbrev pub given_of : Framed → Given
given_of (framed.Statement text) = statement text.items
given_of (framed.Body body) = content (content_of body)
given_of framed.Need = need
given_of framed.TooLong = too_long

-- the first frame with a token
pub record GivesStatement (old : Input) (text : List ℕ) (new : Input) : Type 0 where
  pub before : old.awaited ≡ None
  pub behind : new.awaited ≡ None
  pub is_statement : IsStatement text
  pub first : Skips old.left (closed text ++ new.left)

-- the body that was asked for is the first of the bytes left, or all of it was thrown away
abbrev pub IsContent : Awaited → List ℕ → Content → List ℕ → Type 0
IsContent body old absent new = ⊥
IsContent body old (held bytes) new =
    (body.bytes ≤ 16777216) × (length bytes ≡ body.bytes) × (old ≡ bytes ++ new)
IsContent body old (skipped count) new =
    (16777216 < body.bytes) × (body.owed ≡ 0) × (count ≡ body.bytes) × (new ≡ old)

pub record GivesContent (old : Input) (given : Content) (new : Input) : Type 0 where
  pub body : Awaited
  pub before : old.awaited ≡ Some body
  pub behind : new.awaited ≡ None
  pub is_content : IsContent body old.left given new.left

-- some of the body is still to come
abbrev pub IsPartial : Awaited → List ℕ → Type 0
IsPartial body left = ((16777216 < body.bytes) × (0 < body.owed))
    ⊎ ((body.bytes ≤ 16777216) × (length left < body.bytes))

-- no whole frame is there, and no whole body
abbrev pub Needs : Option Awaited → Input → Input → Type 0
Needs None old new = (new.awaited ≡ None) × Skips old.left new.left
    × IsOpen places.Plain new.left × (length new.left < 1048576)
Needs (Some body) old new = (new ≡ old) × IsPartial body old.left

-- no body is awaited, and no frame ends within the first bytes of which a frame may consist
pub record IsTooLong (old new : Input) : Type 0 where
  pub before : old.awaited ≡ None
  pub behind : new.awaited ≡ None
  pub skips : Skips old.left new.left
  pub long : 1048576 ≤ length new.left
  pub is_open : IsOpen places.Plain (take 1048576 new.left)

abbrev pub IsNext : Input → Given → Input → Type 0
IsNext old (statement text) new = GivesStatement old text new
IsNext old (content given) new = GivesContent old given new
IsNext old need new = Needs old.awaited old new
IsNext old too_long new = IsTooLong old new
