-- Lemmas on frames, and on those without a token that are skipped.
use Rattle.std.proofs.Common.{◌≡◌, ℕ, ◌+◌, ◌-◌, ◌≤◌, List, [], ◌∷◌, ◌++◌, length, take, drop, IsTrue, refl, sym, ap, ◌∙◌, subst, append_assoc, arith}
use Rattle.std.specs.List.{AllByRecursion, flat_map}
use Rattle.std.proofs.lemmas.Grind.{flat_map-append}
use Rattle.std.proofs.lemmas.List.{append-nil, drop_more, drop-drop, take-append-drop, length-drop, length-take-le, take_rest}
use Rattle.std.proofs.lemmas.Option.{get_or_from_slice_get, slice_get_within}
use Rattle.session_proto.specs.Frames.{is_code, is_blank, closed, IsFrame, IsBlankFrame, Skips}
use Rattle.session_proto.specs.Scans.{is_blank_scan, IsScan, StandsAtEnd}
use Rattle.session_proto.specs.declared.scan.Place.{Place}
use Rattle.session_proto.specs.declared.scan.Scan.{Scan}
use Rattle.session_proto.proofs.ScanSteps.{is_blank-read}

-- ---- frames that are skipped

pub AllByRecursion-append : {X : Type 0} (P : X → Type 0) (xs ys : List X) → AllByRecursion P xs → AllByRecursion P ys → AllByRecursion P (xs ++ ys)
AllByRecursion-append P [] ys all more = more
AllByRecursion-append P (x ∷ xs) ys all more = (all.0, AllByRecursion-append P xs ys all.1 more)

pub skips_none : (bytes : List ℕ) → Skips bytes bytes
skips_none bytes = ([], tt, refl)

pub skips_more : (bytes middle rest : List ℕ) → Skips bytes middle → Skips middle rest → Skips bytes rest
skips_more bytes middle rest first second = (
  first.0 ++ second.0,
  AllByRecursion-append IsBlankFrame first.0 second.0 first.1 second.1,
  first.2 ∙ (ap (λ (w : List ℕ). flat_map closed first.0 ++ w) second.2
      ∙ (sym (append_assoc (flat_map closed first.0) (flat_map closed second.0) rest)
      ∙ ap (λ (w : List ℕ). w ++ rest) (sym (flat_map-append closed first.0 second.0)))),
)

pub skips_one : (text rest : List ℕ) → IsBlankFrame text → Skips (closed text ++ rest) rest
skips_one text rest blank =
    (text ∷ [], (blank, tt), ap (λ (w : List ℕ). w ++ rest) (sym (append-nil (closed text))))

-- what comes after stays after
pub skips_append : (bytes rest more : List ℕ) → Skips bytes rest → Skips (bytes ++ more) (rest ++ more)
skips_append bytes rest more skips =
    (skips.0, skips.1, ap (λ (w : List ℕ). w ++ more) skips.2 ∙ append_assoc (flat_map closed skips.0) rest more)

-- ---- a frame that was found

pub frame_here : (scan : Scan) (left : List ℕ) → IsScan scan left → StandsAtEnd scan left → IsFrame (take scan.passed left)
frame_here scan left is_scan at_end = record {
  open_before = is_scan.is_open;
  ends_behind = subst (λ (p : Place). IsTrue (is_code p)) is_scan.read.place at_end.code;
  short = omega (arith, length-take-le scan.passed left is_scan.within, at_end.short);
}

pub split_here : (scan : Scan) (left : List ℕ) → StandsAtEnd scan left → left ≡ closed (take scan.passed left) ++ drop (scan.passed + 1) left
split_here scan left at_end =
    let within = slice_get_within left scan.passed 59 at_end.next in
    let next : drop scan.passed left ≡ 59 ∷ drop (scan.passed + 1) left =
    drop_more left scan.passed 0 within
    ∙ ap (λ (b : ℕ). b ∷ drop (scan.passed + 1) left) (get_or_from_slice_get left scan.passed 59 0 at_end.next) in
    sym (take-append-drop scan.passed left)
    ∙ (ap (λ (w : List ℕ). take scan.passed left ++ w) next
    ∙ sym (append_assoc (take scan.passed left) (59 ∷ []) (drop (scan.passed + 1) left)))

-- a frame that was found and is blank is skipped
pub skips_here : (scan : Scan) (left : List ℕ) → IsScan scan left → StandsAtEnd scan left → IsTrue (is_blank_scan scan) → Skips left (drop (scan.passed + 1) left)
skips_here scan left is_scan at_end blank =
    let text = take scan.passed left in
    let rest = drop (scan.passed + 1) left in
    let is_blank : IsTrue (is_blank text) = sym (is_blank-read scan text is_scan.read) ∙ blank in
    subst (λ (w : List ℕ). Skips w rest) (sym (split_here scan left at_end)) (skips_one text rest (frame_here scan left is_scan at_end, is_blank))

-- the same where the bytes left are those of a list from a place on
pub skips_on : (held : List ℕ) (from start next : ℕ) (scan : Scan) → start ≤ length held → next ≡ start + scan.passed + 1 → Skips (drop from held) (drop start held) → IsScan scan (take (length held - start) (drop start held)) → StandsAtEnd scan (take (length held - start) (drop start held)) → IsTrue (is_blank_scan scan) → (next ≤ length held) × Skips (drop from held) (drop next held)
skips_on held from start next scan within e before is_scan at_end blank =
    let left = drop start held in
    let whole : take (length held - start) left ≡ left = take_rest held start in
    let is_scan' : IsScan scan left = subst (λ (w : List ℕ). IsScan scan w) whole is_scan in
    let at_end' : StandsAtEnd scan left = subst (λ (w : List ℕ). StandsAtEnd scan w) whole at_end in
    let here = skips_here scan left is_scan' at_end' blank in
    let inside = slice_get_within left scan.passed 59 at_end'.next in
    let same : drop (scan.passed + 1) left ≡ drop next held =
    drop-drop (scan.passed + 1) start held ∙ ap (λ (n : ℕ). drop n held) (omega (arith, e)) in (
      omega (arith, inside, length-drop start held, e, within),
      skips_more (drop from held) left (drop next held) before (subst (λ (w : List ℕ). Skips left w) same here),
    )
