-- How bytes are cut into frames. A frame ends with the first `;` outside a text and outside a
-- comment.
use Rattle.std.specs.Prelude.{◌≡◌, ℕ, ◌<◌, Bool, true, false, not, ◌||◌, ◌&&◌, ◌==◌, if◌then◌else◌, IsTrue, IsFalse, List, [], ◌∷◌, ◌++◌, length}
use Rattle.std.specs.List.{AllByRecursion, flat_map}
use Rattle.pq_base.specs.Gaps.{is_space}
use Rattle.session_proto.specs.declared.scan.Place.{Place}
use Rattle.session_proto.specs.declared.scan.Place.TheVariants as places

-- Outside a text and a comment, a `'` begins a text, and a `-` leads to this place.
abbrev pub opens : ℕ → Place → Place
opens byte dash = if byte == 39 then places.Text else (if byte == 45 then dash else places.Plain)

-- The place of the next byte. A text ends at the next `'`. A comment goes from `--` to the next
-- line feed.
abbrev pub after : Place → ℕ → Place
after places.Plain byte = opens byte places.Dash
after places.Dash byte = opens byte places.Comment
after places.Text byte = if byte == 39 then places.Plain else places.Text
after places.Comment byte = if byte == 10 then places.Plain else places.Comment

-- outside a text and outside a comment
abbrev pub is_code : Place → Bool
is_code places.Plain = true
is_code places.Dash = true
is_code places.Text = false
is_code places.Comment = false

-- the byte is a `;` that ends the frame
abbrev pub ends : Place → ℕ → Bool
ends place byte = is_code place && byte == 59

-- the byte tells of a token: it is neither space nor part of a comment
abbrev pub shows : Place → ℕ → Bool
shows places.Plain byte = not (is_space byte) && not (byte == 45)
shows places.Dash byte = not (byte == 45)
shows places.Text byte = true
shows places.Comment byte = false

-- ---- bytes one after the other

-- the place of the byte after these
abbrev pub place_behind : Place → List ℕ → Place
place_behind place [] = place
place_behind place (byte ∷ bytes) = place_behind (after place byte) bytes

-- no byte ends the frame
abbrev pub IsOpen : Place → List ℕ → Type 0
IsOpen place [] = Unit {0}
IsOpen place (byte ∷ bytes) = IsFalse (ends place byte) × IsOpen (after place byte) bytes

-- some byte tells of a token
abbrev pub shows_token : Place → List ℕ → Bool
shows_token place [] = false
shows_token place (byte ∷ bytes) = shows place byte || shows_token (after place byte) bytes

-- after a `-` that is no comment's
abbrev pub is_dash : Place → Bool
is_dash places.Plain = false
is_dash places.Dash = true
is_dash places.Text = false
is_dash places.Comment = false

-- only space and comments
abbrev pub is_blank : List ℕ → Bool
is_blank text =
    not (shows_token places.Plain text) && not (is_dash (place_behind places.Plain text))

-- ---- frames

-- The text of a frame: the `;` after it is its first end, and with it the frame is no longer than
-- allowed.
pub record IsFrame (text : List ℕ) : Type 0 where
  pub open_before : IsOpen places.Plain text
  pub ends_behind : IsTrue (is_code (place_behind places.Plain text))
  pub short : length text < 1048576

-- a frame's text and its `;`
abbrev pub closed : List ℕ → List ℕ
closed text = text ++ 59 ∷ []

-- a frame without a token
abbrev pub IsBlankFrame : List ℕ → Type 0
IsBlankFrame text = IsFrame text × IsTrue (is_blank text)

-- a frame with a token
abbrev pub IsStatement : List ℕ → Type 0
IsStatement text = IsFrame text × IsFalse (is_blank text)

-- frames without a token come before the rest
abbrev pub Skips : List ℕ → List ℕ → Type 0
Skips bytes rest = (texts : List (List ℕ)) × AllByRecursion IsBlankFrame texts
    × (bytes ≡ flat_map closed texts ++ rest)
