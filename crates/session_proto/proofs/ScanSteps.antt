-- Lemmas on scans that go on by one byte.
use Rattle.std.proofs.Common.{◌≡◌, ℕ, ◌+◌, ◌<◌, ◌≤◌, Bool, true, false, not, ◌||◌, ◌&&◌, List, [], ◌∷◌, ◌++◌, length, get_or, take, IsFalse, refl, sym, ap, ◌∙◌, subst, length-append, arith}
use Rattle.std.proofs.lemmas.List.{take_more, take_all, take-append-le}
use Rattle.session_proto.specs.Frames.{after, shows, ends, place_behind, IsOpen, shows_token, is_dash, is_blank}
use Rattle.session_proto.specs.Scans.{scan_behind, is_blank_scan, IsRead, IsScan}
use Rattle.session_proto.specs.declared.scan.Place.{Place}
use Rattle.session_proto.specs.declared.scan.Place.TheVariants as places
use Rattle.session_proto.specs.declared.scan.Scan.{Scan}

place_behind-snoc : (place : Place) (front : List ℕ) (byte : ℕ) → place_behind place (front ++ byte ∷ []) ≡ after (place_behind place front) byte
place_behind-snoc place [] byte = refl
place_behind-snoc place (first ∷ front) byte = place_behind-snoc (after place first) front byte

IsOpen-snoc : (place : Place) (front : List ℕ) (byte : ℕ) → IsOpen place front → IsFalse (ends (place_behind place front) byte) → IsOpen place (front ++ byte ∷ [])
IsOpen-snoc place [] byte is_open goes_on = (goes_on, tt)
IsOpen-snoc place (first ∷ front) byte is_open goes_on =
    (is_open.0, IsOpen-snoc (after place first) front byte is_open.1 goes_on)

or-false : (b : Bool) → (b || false) ≡ b
or-false true = refl
or-false false = refl

shows_token-snoc : (place : Place) (front : List ℕ) (byte : ℕ) → shows_token place (front ++ byte ∷ []) ≡ (shows_token place front || shows (place_behind place front) byte)
shows_token-snoc place [] byte = or-false (shows place byte)
shows_token-snoc place (first ∷ front) byte =
    let next = after place first in
    elim (shows place first) as (λ (b : Bool). (b || shows_token next (front ++ byte ∷ [])) ≡ ((b || shows_token next front) || shows (place_behind next front) byte)) [
      | true ↦ refl
      | false ↦ shows_token-snoc next front byte
    ]

-- a scan with one byte more
IsRead-snoc : (scan : Scan) (front : List ℕ) (byte : ℕ) → IsRead scan front → IsRead (scan_behind scan byte) (front ++ byte ∷ [])
IsRead-snoc scan front byte read = record {
  place = ap (λ (p : Place). after p byte) read.place ∙ sym (place_behind-snoc places.Plain front byte);
  token = ap (λ (b : Bool). b || shows scan.place byte) read.token
      ∙ (ap (λ (p : Place). shows_token places.Plain front || shows p byte) read.place
      ∙ sym (shows_token-snoc places.Plain front byte));
}

pub IsRead-more : (scan : Scan) (left : List ℕ) → scan.passed < length left → IsRead scan (take scan.passed left) → IsRead (scan_behind scan (get_or left scan.passed 0)) (take (scan.passed + 1) left)
IsRead-more scan left within read =
    subst (λ (front : List ℕ). IsRead (scan_behind scan (get_or left scan.passed 0)) front) (sym (take_more left scan.passed 0 within)) (IsRead-snoc scan (take scan.passed left) (get_or left scan.passed 0) read)

pub IsScan-more : (scan : Scan) (left : List ℕ) → scan.passed < length left → scan.passed < 1048576 → IsScan scan left → IsFalse (ends scan.place (get_or left scan.passed 0)) → IsScan (scan_behind scan (get_or left scan.passed 0)) left
IsScan-more scan left within few is_scan goes_on = record {
  within = omega (arith, within);
  few = omega (arith, few);
  read = IsRead-more scan left within is_scan.read;
  is_open =
      let byte = get_or left scan.passed 0 in
      let goes : IsFalse (ends (place_behind places.Plain (take scan.passed left)) byte) =
      subst (λ (p : Place). IsFalse (ends p byte)) is_scan.read.place goes_on in
      subst (λ (front : List ℕ). IsOpen places.Plain front) (sym (take_more left scan.passed 0 within)) (IsOpen-snoc places.Plain (take scan.passed left) byte is_scan.is_open goes);
}

-- a scan tells whether what it read is blank
pub is_blank-read : (scan : Scan) (front : List ℕ) → IsRead scan front → is_blank_scan scan ≡ is_blank front
is_blank-read scan front read =
    ap (λ (b : Bool). not b && not (is_dash scan.place)) read.token
    ∙ ap (λ (p : Place). not (shows_token places.Plain front) && not (is_dash p)) read.place

pub is_blank-all : (scan : Scan) (left : List ℕ) → length left ≤ scan.passed → IsRead scan (take scan.passed left) → is_blank_scan scan ≡ is_blank left
is_blank-all scan left all read =
    is_blank-read scan left (subst (λ (front : List ℕ). IsRead scan front) (take_all scan.passed left all) read)

-- bytes that come after don't change a scan
pub IsScan-append : (scan : Scan) (left more : List ℕ) → IsScan scan left → IsScan scan (left ++ more)
IsScan-append scan left more is_scan =
    let same : take scan.passed left ≡ take scan.passed (left ++ more) = sym (take-append-le scan.passed left more is_scan.within) in
    record {
      within = omega (arith, length-append left more, is_scan.within);
      few = is_scan.few;
      read = subst (λ (front : List ℕ). IsRead scan front) same is_scan.read;
      is_open = subst (λ (front : List ℕ). IsOpen places.Plain front) same is_scan.is_open;
    }
