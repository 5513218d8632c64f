-- Lemmas on what a call of a framer gives.
use Rattle.std.proofs.Common.{◌≡◌, ℕ, ◌+◌, ◌-◌, ◌<◌, ◌≤◌, min, Option, None, List, ◌++◌, length, take, drop, IsFalse, sym, ap, ◌∙◌, subst, arith}
use Rattle.std.proofs.lemmas.List.{drop-drop, take-append-drop, length-drop, length-take-le, take_rest}
use Rattle.std.proofs.lemmas.Option.{slice_get_within}
use Rattle.session_proto.specs.Frames.{IsOpen, IsStatement, Skips, closed, is_blank}
use Rattle.session_proto.specs.Input.{owed}
use Rattle.session_proto.specs.declared.framer.Awaited.{Awaited}
use Rattle.session_proto.specs.Scans.{is_blank_scan, IsScan, IsAt, StandsAtEnd}
use Rattle.session_proto.specs.declared.scan.Place.TheVariants as places
use Rattle.session_proto.specs.declared.scan.Cursor.{Cursor}
use Rattle.session_proto.proofs.ScanSteps.{is_blank-read}
use Rattle.session_proto.proofs.FrameSteps.{frame_here, split_here}

-- where no body is awaited nothing is owed
pub owes_nothing : (awaited : Option Awaited) → awaited ≡ None → 0 < owed awaited → ⊥
owes_nothing awaited none owes =
    let some : 0 < owed None = subst (λ (a : Option Awaited). 0 < owed a) none owes in
    omega (arith, some)

-- a body that is whole among the bytes held
pub content_here : (held now bytes : List ℕ) (start size next : ℕ) → now ≡ held → next ≡ start + size → size ≤ length (take (length now - start) (drop start now)) → bytes ≡ take size (take (length now - start) (drop start now)) → (length bytes ≡ size) × (drop start held ≡ bytes ++ drop next held)
content_here held now bytes start size next same e fits b =
    let left = drop start held in
    let whole : take (length now - start) (drop start now) ≡ left = take_rest now start ∙ ap (λ (w : List ℕ). drop start w) same in
    let fits' : size ≤ length left = subst (λ (w : List ℕ). size ≤ length w) whole fits in
    let front : bytes ≡ take size left = b ∙ ap (λ (w : List ℕ). take size w) whole in
    let back : drop size left ≡ drop next held = drop-drop size start held ∙ ap (λ (n : ℕ). drop n held) (sym e) in (
      ap (λ (w : List ℕ). length w) front ∙ length-take-le size left fits',
      sym (take-append-drop size left) ∙ (ap (λ (w : List ℕ). w ++ drop size left) (sym front) ∙ ap (λ (w : List ℕ). bytes ++ w) back),
    )

pub record IsGiven (held text : List ℕ) (from next : ℕ) : Type 0 where
  pub is_statement : IsStatement text
  pub first : Skips (drop from held) (closed text ++ drop next held)
  pub within : next ≤ length held

-- a statement that is whole at the cursor
pub statement_here : (held now later text : List ℕ) (from next : ℕ) (cursor : Cursor) → now ≡ held → later ≡ held → IsAt cursor now → StandsAtEnd cursor.scan (drop cursor.start now) → IsFalse (is_blank_scan cursor.scan) → Skips (drop from now) (drop cursor.start now) → next ≡ cursor.start + cursor.scan.passed + 1 → text ≡ take (cursor.start + cursor.scan.passed - cursor.start) (drop cursor.start later) → IsGiven held text from next
statement_here held now later text from next cursor same same' at at_end token skips e b =
    let left = drop cursor.start held in
    let scan = cursor.scan in
    let is_scan : IsScan scan left = subst (λ (w : List ℕ). IsScan scan (drop cursor.start w)) same at.scan in
    let at_end' : StandsAtEnd scan left = subst (λ (w : List ℕ). StandsAtEnd scan (drop cursor.start w)) same at_end in
    let within : cursor.start ≤ length held = subst (λ (w : List ℕ). cursor.start ≤ length w) same at.within in
    let skips' : Skips (drop from held) left = subst (λ (w : List ℕ). Skips (drop from w) (drop cursor.start w)) same skips in
    let few : cursor.start + scan.passed - cursor.start ≡ scan.passed = omega arith in
    let front : text ≡ take scan.passed left =
    b ∙ (ap (λ (n : ℕ). take n (drop cursor.start later)) few ∙ ap (λ (w : List ℕ). take scan.passed (drop cursor.start w)) same') in
    let back : drop (scan.passed + 1) left ≡ drop next held =
    drop-drop (scan.passed + 1) cursor.start held ∙ ap (λ (n : ℕ). drop n held) (omega (arith, e)) in
    let split : left ≡ closed text ++ drop next held =
    split_here scan left at_end' ∙ (ap (λ (w : List ℕ). closed w ++ drop (scan.passed + 1) left) (sym front) ∙ ap (λ (w : List ℕ). closed text ++ w) back) in
    let shows : IsFalse (is_blank (take scan.passed left)) =
    sym (is_blank-read scan (take scan.passed left) is_scan.read) ∙ token in
    record {
      is_statement = subst (λ (w : List ℕ). IsStatement w) (sym front) (frame_here scan left is_scan at_end', shows);
      first = subst (λ (w : List ℕ). Skips (drop from held) w) split skips';
      within = omega (arith, slice_get_within left scan.passed 59 at_end'.next, length-drop cursor.start held, e, within);
    }

pub record IsLong (held : List ℕ) (from start : ℕ) : Type 0 where
  pub skips : Skips (drop from held) (drop start held)
  pub long : 1048576 ≤ length (drop start held)
  pub is_open : IsOpen places.Plain (take 1048576 (drop start held))

-- a frame that is too long
pub too_long_here : (held now : List ℕ) (from : ℕ) (cursor : Cursor) → now ≡ held → IsAt cursor now → Skips (drop from now) (drop cursor.start now) → cursor.scan.passed ≡ min (length (drop cursor.start now)) 1048576 → cursor.scan.passed ≡ 1048576 → IsLong held from cursor.start
too_long_here held now from cursor same at skips stops all = record {
  skips = subst (λ (w : List ℕ). Skips (drop from w) (drop cursor.start w)) same skips;
  long = subst (λ (w : List ℕ). 1048576 ≤ length (drop cursor.start w)) same (omega (arith, stops, all));
  is_open = subst (λ (w : List ℕ). IsOpen places.Plain (take 1048576 (drop cursor.start w))) same
      (subst (λ (n : ℕ). IsOpen places.Plain (take n (drop cursor.start now))) all at.scan.is_open);
}
