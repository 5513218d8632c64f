-- When a framer is clean.
use Rattle.std.proofs.Common.{◌≡◌, ℕ, Bool, true, false, not, ◌&&◌, ◌||◌, Option, None, Some, List, [], ◌∷◌, ◌++◌, length, IsTrue, IsFalse, inl, inr, refl, sym, ap, ◌∙◌, subst}
use Rattle.std.specs.Prelude.{nat_le, if◌then◌else◌}
use Rattle.std.proofs.lemmas.Bool.{cases_eq, ne_eqb}
use Rattle.session_proto.specs.Frames.{after, shows, ends, place_behind, IsOpen, shows_token, is_dash, is_blank, Skips, closed}
use Rattle.session_proto.specs.Input.{Input, Content, absent, held, skipped, Needs}
use Rattle.session_proto.specs.Sessions.{Frame, TakesBody, Takes, IsFirst, Begins, EndsClean, CleanAtEnd}
use Rattle.session_proto.specs.declared.framer.Awaited.{Awaited}
use Rattle.session_proto.specs.declared.scan.Place.{Place}
use Rattle.session_proto.specs.declared.scan.Place.TheVariants as places
use Rattle.session_proto.proofs.FrameSteps.{skips_more}
use Rattle.session_proto.proofs.Framing.{no_frame_open, statement_once, no_statement, rest_once}
use Rattle.session_proto.proofs.SessionSteps.{parts_once}

-- ---- no frame ends in what is blank

-- a byte that tells of no token ends no frame
goes_on : (place : Place) (byte : ℕ) → shows place byte ≡ false → IsFalse (ends place byte)
goes_on places.Text byte silent = refl
goes_on places.Comment byte silent = refl
goes_on places.Plain byte silent = elim (cases_eq byte 59) [
  | inl end ↦
      let no : shows places.Plain 59 ≡ false = subst (λ (n : ℕ). shows places.Plain n ≡ false) end silent in
      let clash : true ≡ false = no in
      cc
  | inr other ↦ ne_eqb byte 59 other
]
goes_on places.Dash byte silent = elim (cases_eq byte 59) [
  | inl end ↦
      let no : shows places.Dash 59 ≡ false = subst (λ (n : ℕ). shows places.Dash n ≡ false) end silent in
      let clash : true ≡ false = no in
      cc
  | inr other ↦ ne_eqb byte 59 other
]

neither : (one other : Bool) → (one || other) ≡ false → (one ≡ false) × (other ≡ false)
neither true other silent = cc
neither false other silent = (refl, silent)

silent_open : (place : Place) (bytes : List ℕ) → shows_token place bytes ≡ false → IsOpen place bytes
silent_open place [] silent = tt
silent_open place (byte ∷ bytes) silent =
    let parts = neither (shows place byte) (shows_token (after place byte) bytes) silent in
    (goes_on place byte parts.0, silent_open (after place byte) bytes parts.1)

both_not : (one other : Bool) → (not one && not other) ≡ true → one ≡ false
both_not true other both = cc
both_not false other both = refl

blank_open : (bytes : List ℕ) → IsTrue (is_blank bytes) → IsOpen places.Plain bytes
blank_open bytes blank =
    silent_open places.Plain bytes (both_not (shows_token places.Plain bytes) (is_dash (place_behind places.Plain bytes)) blank)

-- ---- the rest after the same frames is one

-- how many bytes the body has
size_of : Content → ℕ
size_of absent = 0
size_of (held bytes) = length bytes
size_of (skipped count) = count

given_size : (whole : Bool) (body : List ℕ) (count : ℕ) → length body ≡ count → size_of (if whole then held body else skipped count) ≡ count
unfolding size_of
given_size true body count size = size
given_size false body count size = refl

takes_size : (Wanted : ℕ → Type 0) (bytes : List ℕ) (given : Content) (rest : List ℕ) (takes : TakesBody Wanted bytes given rest) → size_of given ≡ length takes.body
takes_size Wanted bytes given rest takes =
    ap (λ (c : Content). size_of c) takes.gives ∙ (given_size (nat_le takes.count 16777216) takes.body takes.count takes.size ∙ sym takes.size)

takes_same : (Wanted : ℕ → Type 0) (bytes : List ℕ) (given : Content) (x y : List ℕ) → Takes Wanted bytes given x → Takes Wanted bytes given y → x ≡ y
takes_same Wanted bytes given x y (inl one) (inl other) = one.all ∙ sym other.all
takes_same Wanted bytes given x y (inl one) (inr other) = absurd (one.unwanted other.count other.wanted)
takes_same Wanted bytes given x y (inr one) (inl other) = absurd (other.unwanted one.count one.wanted)
takes_same Wanted bytes given x y (inr one) (inr other) =
    let size : length one.body ≡ length other.body = sym (takes_size Wanted bytes given x one) ∙ takes_size Wanted bytes given y other in
    let same = parts_once one.body other.body x y size (sym one.first ∙ other.first) in
    same.1

first_same : (Wants : List ℕ → ℕ → Type 0) (bytes : List ℕ) (frame : Frame) (x y : List ℕ) → IsFirst Wants bytes frame x → IsFirst Wants bytes frame y → x ≡ y
first_same Wants bytes frame x y one other =
    let same = statement_once bytes frame.text frame.text one.behind other.behind one.is_statement other.is_statement one.first other.first in
    takes_same (Wants frame.text) one.behind frame.content x y one.takes
    (subst (λ (w : List ℕ). Takes (Wants frame.text) w frame.content y) (sym same.1) other.takes)

begins_once : (Wants : List ℕ → ℕ → Type 0) (bytes : List ℕ) (frames : List Frame) (x y : List ℕ) → Begins Wants bytes frames x → Begins Wants bytes frames y → x ≡ y
begins_once Wants bytes [] x y one other = one ∙ sym other
begins_once Wants bytes (frame ∷ frames) x y one other =
    let same = first_same Wants bytes frame one.0 other.0 one.1 other.1 in
    begins_once Wants one.0 frames x y one.2 (subst (λ (w : List ℕ). Begins Wants w frames y) (sym same) other.2)

none_not_some : {A : Type 0} (o : Option A) (x : A) → o ≡ None → o ≡ Some x → ⊥
none_not_some o x none some = cc

pub clean_at_end : (Wants : List ℕ → ℕ → Type 0) → CleanAtEnd Wants
clean_at_end Wants bytes frames None input after rest stands next are =
    let needs = subst (λ (a : Option Awaited). Needs a input after) stands.awaits next in
    let same : stands.rest ≡ rest = begins_once Wants bytes frames stands.rest rest stands.begins are.begins in
    let skips : Skips rest after.left =
    subst (λ (w : List ℕ). Skips w after.left) same (skips_more stands.rest input.left after.left stands.skips needs.1) in (
      λ (clean : (after.awaited ≡ None) × IsTrue (is_blank after.left)). (after.left, skips, clean.1),
      λ (clean : EndsClean rest).
          let left : after.left ≡ clean.0 =
          rest_once rest after.left clean.0 skips clean.1 (no_frame_open after.left needs.2) (no_frame_open clean.0 (blank_open clean.0 clean.2)) in
          (needs.0, subst (λ (w : List ℕ). IsTrue (is_blank w)) (sym left) clean.2),
    )
clean_at_end Wants bytes frames (Some text) input after rest stands next are =
    let needs = subst (λ (a : Option Awaited). Needs a input after) stands.awaits next in
    let same : stands.rest ≡ rest = begins_once Wants bytes frames stands.rest rest stands.begins are.begins in (
      λ (clean : (after.awaited ≡ None) × IsTrue (is_blank after.left)).
          absurd (none_not_some after.awaited stands.body clean.0 (ap (λ (i : Input). i.awaited) needs.0 ∙ stands.awaits)),
      λ (clean : EndsClean rest).
          absurd (no_statement rest clean.0 text (stands.thrown ++ input.left) clean.1 (no_frame_open clean.0 (blank_open clean.0 clean.2)) stands.is_statement
          (subst (λ (w : List ℕ). Skips w (closed text ++ (stands.thrown ++ input.left))) same stands.first)),
    )
