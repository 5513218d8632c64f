-- Private: the scan of a framer over its bytes.
-- What the state of a scan says of the bytes that it read.
use Rattle.std.specs.Prelude.{◌≡◌, ℕ, ◌+◌, ◌≤◌, Bool, not, ◌||◌, ◌&&◌, IsTrue, List, length, take, drop, Some, slice_get}
use Rattle.session_proto.specs.Frames.{after, shows, is_code, place_behind, IsOpen, shows_token, is_dash}
use Rattle.session_proto.specs.declared.scan.Place.TheVariants as places
use Rattle.session_proto.specs.declared.scan.Scan.{Scan}
use Rattle.session_proto.specs.declared.scan.Cursor.{Cursor}

-- one more byte is read
abbrev pub scan_behind : Scan → ℕ → Scan
scan_behind scan byte = record {
  place = after scan.place byte;
  token = scan.token || shows scan.place byte;
  passed = scan.passed + 1;
}

-- only space and comments were read
abbrev pub is_blank_scan : Scan → Bool
is_blank_scan scan = not scan.token && not (is_dash scan.place)

-- the scan is that of these bytes
pub record IsRead (scan : Scan) (front : List ℕ) : Type 0 where
  pub place : scan.place ≡ place_behind places.Plain front
  pub token : scan.token ≡ shows_token places.Plain front

-- the scan is that of the first bytes left, and no frame ends in them
pub record IsScan (scan : Scan) (left : List ℕ) : Type 0 where
  pub within : scan.passed ≤ length left
  pub few : scan.passed ≤ 1048576
  pub read : IsRead scan (take scan.passed left)
  pub is_open : IsOpen places.Plain (take scan.passed left)

-- the next byte ends the frame
pub record StandsAtEnd (scan : Scan) (left : List ℕ) : Type 0 where
  pub next : slice_get left scan.passed ≡ Some 59
  pub code : IsTrue (is_code scan.place)
  pub short : scan.passed + 1 ≤ 1048576

-- a frame begins there among the bytes held, and its scan is right
pub record IsAt (cursor : Cursor) (held : List ℕ) : Type 0 where
  pub within : cursor.start ≤ length held
  pub scan : IsScan cursor.scan (drop cursor.start held)
