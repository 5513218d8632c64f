-- What a session's frames are after each call of a framer.
use Rattle.std.proofs.Common.{◌≡◌, ℕ, ◌+◌, ◌-◌, ◌<◌, ◌≤◌, min, Option, None, Some, List, [], ◌∷◌, ◌++◌, length, take, drop, inl, inr, refl, sym, ap, ◌∙◌, subst, append_assoc, length-append, arith}
use Rattle.std.specs.Prelude.{nat_le, if◌then◌else◌}
use Rattle.std.proofs.lemmas.Bool.{cond-true, cond-false, le-leb, lt-leb}
use Rattle.std.proofs.lemmas.List.{take-append-drop, take-append-le, take_at, drop_at, length-take-le, drop_all, nil_from_length}
use Rattle.session_proto.specs.Frames.{IsOpen, IsStatement, Skips, closed}
use Rattle.session_proto.specs.Input.{Input, Content, absent, held, skipped, settled, asked, HoldsNothingOwed, IsContent, IsPartial, Needs}
use Rattle.session_proto.specs.Sessions.{Frame, Takes, TakesBody, IsFirst, Begins, NoneWhole, IsOverlong, StandsBehind, OneWish, OneFraming, StandsAtFirst, StandsFed, StandsAfterStatement, StandsAwaiting, StandsAfterBody, NeedsAtEnd, TooLongAtEnd, OverlongStays}
use Rattle.session_proto.specs.declared.scan.Place.TheVariants as places
use Rattle.session_proto.specs.declared.framer.Awaited.{Awaited}
use Rattle.session_proto.proofs.FrameSteps.{skips_none, skips_more, skips_append}
use Rattle.session_proto.proofs.Framing.{no_frame_open, no_frame_too_long, statement_once, no_statement, rest_once}

-- ---- one framing

-- two lists whose fronts have one length
pub parts_once : (a b x y : List ℕ) → length a ≡ length b → a ++ x ≡ b ++ y → (a ≡ b) × (x ≡ y)
parts_once a b x y size e = (
  sym (take_at a x (length a) refl) ∙ (ap (λ (w : List ℕ). take (length a) w) e ∙ take_at b y (length a) (sym size)),
  sym (drop_at a x (length a) refl) ∙ (ap (λ (w : List ℕ). drop (length a) w) e ∙ drop_at b y (length a) (sym size)),
)

takes_once : (Wanted : ℕ → Type 0) (bytes : List ℕ) (c d : Content) (x y : List ℕ) → ((one other : ℕ) → Wanted one → Wanted other → one ≡ other) → Takes Wanted bytes c x → Takes Wanted bytes d y → (c ≡ d) × (x ≡ y)
takes_once Wanted bytes c d x y once (inl one) (inl other) = (one.nothing ∙ sym other.nothing, one.all ∙ sym other.all)
takes_once Wanted bytes c d x y once (inl one) (inr other) = absurd (one.unwanted other.count other.wanted)
takes_once Wanted bytes c d x y once (inr one) (inl other) = absurd (other.unwanted one.count one.wanted)
takes_once Wanted bytes c d x y once (inr one) (inr other) =
    let size : one.count ≡ other.count = once one.count other.count one.wanted other.wanted in
    let same = parts_once one.body other.body x y (one.size ∙ (size ∙ sym other.size)) (sym one.first ∙ other.first) in
    let given : Content = if nat_le one.count 16777216 then held other.body else skipped one.count in
    let front : c ≡ given = one.gives ∙ ap (λ (w : List ℕ). if nat_le one.count 16777216 then held w else skipped one.count) same.0 in
    let back : given ≡ d = ap (λ (n : ℕ). if nat_le n 16777216 then held other.body else skipped n) size ∙ sym other.gives in
    (front ∙ back, same.1)

frame_same : (f g : Frame) → f.text ≡ g.text → f.content ≡ g.content → f ≡ g
frame_same f g text given =
    let middle : Frame = record { text = g.text; content = f.content } in
    let one : f ≡ middle = ap (λ (t : List ℕ). record { text = t; content = f.content }) text in
    let two : middle ≡ g = ap (λ (c : Content). record { text = g.text; content = c }) given in
    one ∙ two

first_once : (Wants : List ℕ → ℕ → Type 0) → OneWish Wants → (bytes : List ℕ) (f g : Frame) (x y : List ℕ) → IsFirst Wants bytes f x → IsFirst Wants bytes g y → (f ≡ g) × (x ≡ y)
first_once Wants wish bytes f g x y one other =
    let same = statement_once bytes f.text g.text one.behind other.behind one.is_statement other.is_statement one.first other.first in
    let takes : Takes (Wants f.text) one.behind g.content y =
    subst (λ (w : List ℕ). Takes (Wants f.text) w g.content y) (sym same.1)
    (subst (λ (t : List ℕ). Takes (Wants t) other.behind g.content y) (sym same.0) other.takes) in
    let rest = takes_once (Wants f.text) one.behind f.content g.content x y (wish f.text) one.takes takes in
    (frame_same f g same.0 rest.0, rest.1)

frames_once : (Wants : List ℕ → ℕ → Type 0) → OneWish Wants → (bytes : List ℕ) (fs gs : List Frame) (x y : List ℕ) → Begins Wants bytes fs x → NoneWhole Wants x → Begins Wants bytes gs y → NoneWhole Wants y → (fs ≡ gs) × (x ≡ y)
frames_once Wants wish bytes [] [] x y one no_x other no_y = (refl, one ∙ sym other)
frames_once Wants wish bytes [] (g ∷ gs) x y one no_x other no_y =
    absurd (no_x g other.0 (subst (λ (w : List ℕ). IsFirst Wants w g other.0) (sym one) other.1))
frames_once Wants wish bytes (f ∷ fs) [] x y one no_x other no_y =
    absurd (no_y f one.0 (subst (λ (w : List ℕ). IsFirst Wants w f one.0) (sym other) one.1))
frames_once Wants wish bytes (f ∷ fs) (g ∷ gs) x y one no_x other no_y =
    let same = first_once Wants wish bytes f g one.0 other.0 one.1 other.1 in
    let behind : Begins Wants one.0 gs y = subst (λ (w : List ℕ). Begins Wants w gs y) (sym same.1) other.2 in
    let rest = frames_once Wants wish one.0 fs gs x y one.2 no_x behind no_y in
    (ap (λ (h : Frame). h ∷ fs) same.0 ∙ ap (λ (hs : List Frame). g ∷ hs) rest.0, rest.1)

pub one_framing : (Wants : List ℕ → ℕ → Type 0) → OneFraming Wants
one_framing Wants wish bytes one other x y first second =
    frames_once Wants wish bytes one other x y first.begins first.none second.begins second.none

-- ---- more bytes, and one more frame

takes_append : (Wanted : ℕ → Type 0) (bytes : List ℕ) (given : Content) (rest more : List ℕ) → Takes Wanted bytes given rest → Takes Wanted (bytes ++ more) given (rest ++ more)
takes_append Wanted bytes given rest more (inl takes) = inl (record {
  unwanted = takes.unwanted;
  nothing = takes.nothing;
  all = ap (λ (w : List ℕ). w ++ more) takes.all;
})
takes_append Wanted bytes given rest more (inr takes) = inr (record {
  count = takes.count;
  wanted = takes.wanted;
  body = takes.body;
  size = takes.size;
  first = ap (λ (w : List ℕ). w ++ more) takes.first ∙ append_assoc takes.body rest more;
  gives = takes.gives;
})

statement_append : (bytes text behind more : List ℕ) → Skips bytes (closed text ++ behind) → Skips (bytes ++ more) (closed text ++ (behind ++ more))
statement_append bytes text behind more first =
    subst (λ (w : List ℕ). Skips (bytes ++ more) w) (append_assoc (closed text) behind more) (skips_append bytes (closed text ++ behind) more first)

first_append : (Wants : List ℕ → ℕ → Type 0) (bytes : List ℕ) (frame : Frame) (rest more : List ℕ) → IsFirst Wants bytes frame rest → IsFirst Wants (bytes ++ more) frame (rest ++ more)
first_append Wants bytes frame rest more first = record {
  behind = first.behind ++ more;
  is_statement = first.is_statement;
  first = statement_append bytes frame.text first.behind more first.first;
  takes = takes_append (Wants frame.text) first.behind frame.content rest more first.takes;
}

pub begins_append : (Wants : List ℕ → ℕ → Type 0) (bytes : List ℕ) (frames : List Frame) (rest more : List ℕ) → Begins Wants bytes frames rest → Begins Wants (bytes ++ more) frames (rest ++ more)
begins_append Wants bytes [] rest more begins = ap (λ (w : List ℕ). w ++ more) begins
begins_append Wants bytes (frame ∷ frames) rest more begins =
    (begins.0 ++ more, first_append Wants bytes frame begins.0 more begins.1, begins_append Wants begins.0 frames rest more begins.2)

pub begins_snoc : (Wants : List ℕ → ℕ → Type 0) (bytes : List ℕ) (frames : List Frame) (frame : Frame) (rest behind : List ℕ) → Begins Wants bytes frames rest → IsFirst Wants rest frame behind → Begins Wants bytes (frames ++ frame ∷ []) behind
begins_snoc Wants bytes [] frame rest behind begins first =
    (behind, subst (λ (w : List ℕ). IsFirst Wants w frame behind) begins first, refl)
begins_snoc Wants bytes (one ∷ frames) frame rest behind begins first =
    (begins.0, begins.1, begins_snoc Wants begins.0 frames frame rest behind begins.2 first)

-- ---- bytes that come

settled_none : (awaited : Option Awaited) (left : List ℕ) → awaited ≡ None → settled awaited left ≡ record { left = left; awaited = None }
settled_none awaited left none =
    let zero_taken : min 0 (length left) ≡ 0 = omega arith in
    let at_none : settled None left ≡ record { left = left; awaited = None } =
    ap (λ (n : ℕ). record { left = drop n left; awaited = None }) zero_taken in
    ap (λ (a : Option Awaited). settled a left) none ∙ at_none

-- what is owed of the bytes left is thrown away
stands_settled : (Wants : List ℕ → ℕ → Type 0) (bytes : List ℕ) (frames : List Frame) (text rest thrown left : List ℕ) (body : Awaited) → Begins Wants bytes frames rest → IsStatement text → Skips rest (closed text ++ (thrown ++ left)) → Wants text body.bytes → length thrown + body.owed ≡ (if nat_le body.bytes 16777216 then 0 else body.bytes) → StandsBehind Wants bytes frames text (settled (Some body) left)
stands_settled Wants bytes frames text rest thrown left body begins is_text first wanted owes =
    let count = min body.owed (length left) in
    let few : count ≤ length left = omega arith in
    let paid_all : length (take count left) ≡ count = length-take-le count left few in
    let split : thrown ++ left ≡ (thrown ++ take count left) ++ drop count left =
    ap (λ (w : List ℕ). thrown ++ w) (sym (take-append-drop count left)) ∙ sym (append_assoc thrown (take count left) (drop count left)) in
    record {
      rest = rest;
      begins = begins;
      is_statement = is_text;
      thrown = thrown ++ take count left;
      first = subst (λ (w : List ℕ). Skips rest (closed text ++ w)) split first;
      body = record { bytes = body.bytes; owed = body.owed - count };
      awaits = refl;
      wanted = wanted;
      owes = let sum : length (thrown ++ take count left) + (body.owed - count) ≡ length thrown + body.owed = omega (arith, length-append thrown (take count left), paid_all) in
          sum ∙ owes;
      settled = λ (more : 0 < body.owed - count). drop_all count left (omega (arith, more));
    }

pub stands_at_first : (Wants : List ℕ → ℕ → Type 0) → StandsAtFirst Wants
stands_at_first Wants = record { rest = []; begins = refl; skips = skips_none []; awaits = refl }

pub stands_fed : (Wants : List ℕ → ℕ → Type 0) → StandsFed Wants
stands_fed Wants bytes piece frames None input stands =
    let all = settled_none input.awaited (input.left ++ piece) stands.awaits in
    record {
      rest = stands.rest ++ piece;
      begins = begins_append Wants bytes frames stands.rest piece stands.begins;
      skips = subst (λ (i : Input). Skips (stands.rest ++ piece) i.left) (sym all) (skips_append stands.rest input.left piece stands.skips);
      awaits = ap (λ (i : Input). i.awaited) all;
    }
stands_fed Wants bytes piece frames (Some text) input stands =
    let split : (stands.thrown ++ input.left) ++ piece ≡ stands.thrown ++ (input.left ++ piece) = append_assoc stands.thrown input.left piece in
    let first = statement_append stands.rest text (stands.thrown ++ input.left) piece stands.first in
    let next = stands_settled Wants (bytes ++ piece) frames text (stands.rest ++ piece) stands.thrown (input.left ++ piece) stands.body
    (begins_append Wants bytes frames stands.rest piece stands.begins) stands.is_statement
    (subst (λ (w : List ℕ). Skips (stands.rest ++ piece) (closed text ++ w)) split first) stands.wanted stands.owes in
    subst (λ (a : Option Awaited). StandsBehind Wants (bytes ++ piece) frames text (settled a (input.left ++ piece))) (sym stands.awaits) next

-- ---- what a call gives

pub stands_after_statement : (Wants : List ℕ → ℕ → Type 0) → StandsAfterStatement Wants
stands_after_statement Wants bytes text frames input after stands next unwanted = record {
  rest = after.left;
  begins = begins_snoc Wants bytes frames (record { text = text; content = absent }) stands.rest after.left stands.begins (record {
    behind = after.left;
    is_statement = next.is_statement;
    first = skips_more stands.rest input.left (closed text ++ after.left) stands.skips next.first;
    takes = inl (record { unwanted = unwanted; nothing = refl; all = refl });
  });
  skips = skips_none after.left;
  awaits = next.behind;
}

pub stands_awaiting : (Wants : List ℕ → ℕ → Type 0) → StandsAwaiting Wants
stands_awaiting Wants bytes text frames input after count stands next wanted =
    let owes : length {A = ℕ} [] + (asked count).owed ≡ (asked count).owed = omega arith in
    stands_settled Wants bytes frames text stands.rest [] after.left (asked count) stands.begins next.is_statement
    (skips_more stands.rest input.left (closed text ++ after.left) stands.skips next.first) wanted owes

takes_content : (Wanted : ℕ → Type 0) (body : Awaited) (old new thrown : List ℕ) (given : Content) → Wanted body.bytes → IsContent body old given new → length thrown + body.owed ≡ (if nat_le body.bytes 16777216 then 0 else body.bytes) → TakesBody Wanted (thrown ++ old) given new
takes_content Wanted body old new thrown absent wanted is owes = absurd is
takes_content Wanted body old new thrown (held bytes) wanted is owes =
    let small = le-leb body.bytes 16777216 is.0 in
    let none : length thrown + body.owed ≡ 0 = owes ∙ cond-true (nat_le body.bytes 16777216) 0 body.bytes small in
    let nothing : thrown ≡ [] = nil_from_length thrown (omega (arith, none)) in
    record {
      count = body.bytes;
      wanted = wanted;
      body = bytes;
      size = is.1;
      first = ap (λ (w : List ℕ). w ++ old) nothing ∙ is.2;
      gives = sym (cond-true (nat_le body.bytes 16777216) (held bytes) (skipped body.bytes) small);
    }
takes_content Wanted body old new thrown (skipped count) wanted is owes =
    let large = lt-leb body.bytes 16777216 is.0 in
    let all : length thrown + body.owed ≡ body.bytes = owes ∙ cond-false (nat_le body.bytes 16777216) 0 body.bytes large in
    record {
      count = body.bytes;
      wanted = wanted;
      body = thrown;
      size = omega (arith, all, is.1);
      first = ap (λ (w : List ℕ). thrown ++ w) (sym is.3);
      gives = ap (λ (n : ℕ). skipped n) is.2 ∙ sym (cond-false (nat_le body.bytes 16777216) (held thrown) (skipped body.bytes) large);
    }

pub some_once : {A : Type 0} (x y : A) → Some x ≡ Some y → x ≡ y
some_once x y e = cc

pub stands_after_body : (Wants : List ℕ → ℕ → Type 0) → StandsAfterBody Wants
stands_after_body Wants bytes text frames given input after stands next =
    let same : next.body ≡ stands.body = some_once next.body stands.body (sym next.before ∙ stands.awaits) in
    let is = subst (λ (b : Awaited). IsContent b input.left given after.left) same next.is_content in
    let takes = takes_content (Wants text) stands.body input.left after.left stands.thrown given stands.wanted is stands.owes in
    record {
      rest = after.left;
      begins = begins_snoc Wants bytes frames (record { text = text; content = given }) stands.rest after.left stands.begins (record {
        behind = stands.thrown ++ input.left;
        is_statement = stands.is_statement;
        first = stands.first;
        takes = inr takes;
      });
      skips = skips_none after.left;
      awaits = next.behind;
    }

-- ---- at the end

-- a body of which some is still to come isn't there whole
partial_none : (body : Awaited) (thrown left whole rest : List ℕ) → IsPartial body left → length thrown + body.owed ≡ (if nat_le body.bytes 16777216 then 0 else body.bytes) → (0 < body.owed → left ≡ []) → length whole ≡ body.bytes → thrown ++ left ≡ whole ++ rest → ⊥
partial_none body thrown left whole rest (inl large) owes settled size e =
    let all : length thrown + body.owed ≡ body.bytes = owes ∙ cond-false (nat_le body.bytes 16777216) 0 body.bytes (lt-leb body.bytes 16777216 large.0) in
    let nothing : length left ≡ 0 = ap (λ (w : List ℕ). length w) (settled large.1) in
    let sizes : length thrown + length left ≡ length whole + length rest =
    sym (length-append thrown left) ∙ (ap (λ (w : List ℕ). length w) e ∙ length-append whole rest) in
    omega (arith, all, nothing, sizes, size, large.1)
partial_none body thrown left whole rest (inr small) owes settled size e =
    let none : length thrown + body.owed ≡ 0 = owes ∙ cond-true (nat_le body.bytes 16777216) 0 body.bytes (le-leb body.bytes 16777216 small.0) in
    let sizes : length thrown + length left ≡ length whole + length rest =
    sym (length-append thrown left) ∙ (ap (λ (w : List ℕ). length w) e ∙ length-append whole rest) in
    omega (arith, none, sizes, size, small.1)

-- so a statement whose body is awaited takes nothing
takes_none : (Wants : List ℕ → ℕ → Type 0) → OneWish Wants → (bytes : List ℕ) (frames : List Frame) (text : List ℕ) (input : Input) (given : Content) (rest : List ℕ) (stands : StandsBehind Wants bytes frames text input) → IsPartial stands.body input.left → Takes (Wants text) (stands.thrown ++ input.left) given rest → ⊥
takes_none Wants wish bytes frames text input given rest stands partial (inl takes) = takes.unwanted stands.body.bytes stands.wanted
takes_none Wants wish bytes frames text input given rest stands partial (inr takes) =
    let settled = subst (λ (a : Option Awaited). HoldsNothingOwed a input.left) stands.awaits stands.settled in
    let size : takes.count ≡ stands.body.bytes = wish text takes.count stands.body.bytes takes.wanted stands.wanted in
    partial_none stands.body stands.thrown input.left takes.body rest partial stands.owes settled (takes.size ∙ size) takes.first

-- where few bytes are left no frame is too long
not_overlong : (rest left : List ℕ) → Skips rest left → IsOpen places.Plain left → length left < 1048576 → ¬ IsOverlong rest
not_overlong rest left skips is_open few overlong =
    let same : left ≡ overlong.left = rest_once rest left overlong.left skips overlong.skips (no_frame_open left is_open) (no_frame_too_long overlong.left overlong.long overlong.is_open) in
    omega (arith, few, overlong.long, ap (λ (w : List ℕ). length w) same)

-- nor where a statement is
statement_not_overlong : (rest text behind : List ℕ) → IsStatement text → Skips rest (closed text ++ behind) → ¬ IsOverlong rest
statement_not_overlong rest text behind is_text first overlong =
    no_statement rest overlong.left text behind overlong.skips (no_frame_too_long overlong.left overlong.long overlong.is_open) is_text first

pub needs_at_end : (Wants : List ℕ → ℕ → Type 0) → NeedsAtEnd Wants
needs_at_end Wants wish bytes frames None input after stands next =
    let needs = subst (λ (a : Option Awaited). Needs a input after) stands.awaits next in
    let skips = skips_more stands.rest input.left after.left stands.skips needs.1 in (
      record { rest = stands.rest; begins = stands.begins; skips = skips; awaits = needs.0 },
      (
        stands.rest,
        record {
          begins = stands.begins;
          none = λ (frame : Frame) (behind : List ℕ) (first : IsFirst Wants stands.rest frame behind).
              no_statement stands.rest after.left frame.text first.behind skips (no_frame_open after.left needs.2) first.is_statement first.first;
        },
        not_overlong stands.rest after.left skips needs.2 needs.3,
      ),
    )
needs_at_end Wants wish bytes frames (Some text) input after stands next =
    let needs = subst (λ (a : Option Awaited). Needs a input after) stands.awaits next in (
      subst (λ (i : Input). StandsBehind Wants bytes frames text i) (sym needs.0) stands,
      (
        stands.rest,
        record {
          begins = stands.begins;
          none = λ (frame : Frame) (behind : List ℕ) (first : IsFirst Wants stands.rest frame behind).
              let same = statement_once stands.rest frame.text text first.behind (stands.thrown ++ input.left) first.is_statement stands.is_statement first.first stands.first in
              let takes = subst (λ (t : List ℕ). Takes (Wants t) first.behind frame.content behind) same.0 first.takes in
              let takes' = subst (λ (w : List ℕ). Takes (Wants text) w frame.content behind) same.1 takes in
              takes_none Wants wish bytes frames text input frame.content behind stands needs.1 takes';
        },
        statement_not_overlong stands.rest text (stands.thrown ++ input.left) stands.is_statement stands.first,
      ),
    )

pub overlong_stays : OverlongStays
overlong_stays rest more overlong = record {
  left = overlong.left ++ more;
  skips = skips_append rest overlong.left more overlong.skips;
  long = omega (arith, length-append overlong.left more, overlong.long);
  is_open = subst (λ (w : List ℕ). IsOpen places.Plain w) (sym (take-append-le 1048576 overlong.left more overlong.long)) overlong.is_open;
}

pub too_long_at_end : (Wants : List ℕ → ℕ → Type 0) → TooLongAtEnd Wants
too_long_at_end Wants bytes more frames input after stands next =
    let skips = skips_more stands.rest input.left after.left stands.skips next.skips in
    let overlong : IsOverlong stands.rest = record { left = after.left; skips = skips; long = next.long; is_open = next.is_open } in (
      stands.rest,
      record {
        begins = begins_append Wants bytes frames stands.rest more stands.begins;
        none = λ (frame : Frame) (behind : List ℕ) (first : IsFirst Wants (stands.rest ++ more) frame behind).
            statement_not_overlong (stands.rest ++ more) frame.text first.behind first.is_statement first.first (overlong_stays stands.rest more overlong);
      },
      overlong_stays stands.rest more overlong,
    )
