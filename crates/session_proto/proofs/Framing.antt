-- Frames are at one place alone.
use Rattle.std.proofs.Common.{◌≡◌, ℕ, ◌+◌, ◌-◌, ◌≤◌, true, false, List, [], ◌∷◌, ◌++◌, length, take, IsTrue, IsFalse, refl, sym, ap, ◌∙◌, subst, append_assoc, length-append, arith}
use Rattle.std.specs.List.{AllByRecursion, flat_map}
use Rattle.std.proofs.lemmas.List.{append-nil, append_cancel_left, take-append-le}
use Rattle.std.proofs.Math.Seq.{take-append-add}
use Rattle.session_proto.specs.Frames.{after, ends, is_code, place_behind, IsOpen, is_blank, closed, IsFrame, IsBlankFrame, IsStatement, Skips}
use Rattle.session_proto.specs.declared.scan.Place.{Place}
use Rattle.session_proto.specs.declared.scan.Place.TheVariants as places

-- a `;` outside a text and a comment ends a frame
ends_at : (place : Place) (byte : ℕ) → IsTrue (is_code place) → byte ≡ 59 → IsFalse (ends place byte) → ⊥
ends_at place byte code e goes_on =
    let at_end : IsFalse (ends place 59) = subst (λ (b : ℕ). IsFalse (ends place b)) e goes_on in
    let no : true ≡ false = rw code at at_end in
    cc no

-- two texts before a `;` that ends both are one
text_once : (place : Place) (t u x y : List ℕ) → IsOpen place t → IsOpen place u → IsTrue (is_code (place_behind place t)) → IsTrue (is_code (place_behind place u)) → t ++ 59 ∷ x ≡ u ++ 59 ∷ y → t ≡ u
text_once place [] [] x y open_t open_u code_t code_u e = refl
text_once place [] (b ∷ u) x y open_t open_u code_t code_u e =
    let first : b ≡ 59 = cc in
    absurd (ends_at place b code_t first open_u.0)
text_once place (a ∷ t) [] x y open_t open_u code_t code_u e =
    let first : a ≡ 59 = cc in
    absurd (ends_at place a code_u first open_t.0)
text_once place (a ∷ t) (b ∷ u) x y open_t open_u code_t code_u e =
    let first : a ≡ b = cc in
    let behind : t ++ 59 ∷ x ≡ u ++ 59 ∷ y = cc in
    let open_u' : IsOpen (after place a) u = subst (λ (n : ℕ). IsOpen (after place n) u) (sym first) open_u.1 in
    let code_u' : IsTrue (is_code (place_behind (after place a) u)) = subst (λ (n : ℕ). IsTrue (is_code (place_behind (after place n) u))) (sym first) code_u in
    let rest = text_once (after place a) t u x y open_t.1 open_u' code_t code_u' behind in
    cc (first, rest)

-- bytes in which no frame ends begin with none
none_open : (place : Place) (bytes t x : List ℕ) → IsOpen place bytes → IsTrue (is_code (place_behind place t)) → bytes ≡ t ++ 59 ∷ x → ⊥
none_open place [] [] x is_open code e = cc
none_open place [] (b ∷ t) x is_open code e = cc
none_open place (a ∷ bytes) [] x is_open code e =
    let first : a ≡ 59 = cc in
    ends_at place a code first is_open.0
none_open place (a ∷ bytes) (b ∷ t) x is_open code e =
    let first : b ≡ a = cc in
    let behind : bytes ≡ t ++ 59 ∷ x = cc in
    none_open (after place a) bytes t x is_open.1 (subst (λ (n : ℕ). IsTrue (is_code (place_behind (after place n) t))) first code) behind

closed-append : (text rest : List ℕ) → closed text ++ rest ≡ text ++ 59 ∷ rest
closed-append text rest = append_assoc text (59 ∷ []) rest

-- a frame at the start is one
pub frame_once : (t u x y : List ℕ) → IsFrame t → IsFrame u → closed t ++ x ≡ closed u ++ y → (t ≡ u) × (x ≡ y)
frame_once t u x y is_t is_u e =
    let whole : t ++ 59 ∷ x ≡ u ++ 59 ∷ y = sym (closed-append t x) ∙ (e ∙ closed-append u y) in
    let same = text_once places.Plain t u x y is_t.open_before is_u.open_before is_t.ends_behind is_u.ends_behind whole in
    (same, append_cancel_left (closed u) x y (ap (λ (w : List ℕ). closed w ++ x) (sym same) ∙ e))

-- no frame is at the start
abbrev pub NoFrame : List ℕ → Type 0
NoFrame bytes = (text rest : List ℕ) → IsFrame text → bytes ≡ closed text ++ rest → ⊥

pub no_frame_open : (bytes : List ℕ) → IsOpen places.Plain bytes → NoFrame bytes
no_frame_open bytes is_open text rest frame e =
    none_open places.Plain bytes text rest is_open frame.ends_behind (e ∙ closed-append text rest)

pub no_frame_long : (bytes more : List ℕ) → 1048576 ≤ length bytes → IsOpen places.Plain (take 1048576 bytes) → NoFrame (bytes ++ more)
no_frame_long bytes more long is_open text rest frame e =
    let size : length (closed text) ≡ length text + 1 = length-append text (59 ∷ []) in
    let fits : length (closed text) ≤ 1048576 = omega (arith, size, frame.short) in
    let room = 1048576 - length (closed text) in
    let sum : 1048576 ≡ length (closed text) + room = omega (arith, fits) in
    let front : take 1048576 bytes ≡ closed text ++ take room rest =
    sym (take-append-le 1048576 bytes more long)
    ∙ (ap (λ (w : List ℕ). take 1048576 w) e
    ∙ (ap (λ (n : ℕ). take n (closed text ++ rest)) sum
    ∙ take-append-add (closed text) rest room)) in
    no_frame_open (take 1048576 bytes) is_open text (take room rest) frame front

pub no_frame_too_long : (bytes : List ℕ) → 1048576 ≤ length bytes → IsOpen places.Plain (take 1048576 bytes) → NoFrame bytes
no_frame_too_long bytes long is_open =
    subst (λ (w : List ℕ). NoFrame w) (append-nil bytes) (no_frame_long bytes [] long is_open)

-- blank frames before what begins with a statement, or with no frame, are the same
blank_and_not : (text : List ℕ) → IsTrue (is_blank text) → IsFalse (is_blank text) → ⊥
blank_and_not text blank token =
    let no : true ≡ false = sym blank ∙ token in
    cc no

blanks_once : (ts us : List (List ℕ)) (t u x y : List ℕ) → AllByRecursion IsBlankFrame ts → AllByRecursion IsBlankFrame us → IsStatement t → IsStatement u → flat_map closed ts ++ (closed t ++ x) ≡ flat_map closed us ++ (closed u ++ y) → (t ≡ u) × (x ≡ y)
blanks_once [] [] t u x y all_t all_u is_t is_u e = frame_once t u x y is_t.0 is_u.0 e
blanks_once [] (b ∷ us) t u x y all_t all_u is_t is_u e =
    let same = frame_once t b x (flat_map closed us ++ (closed u ++ y)) is_t.0 all_u.0.0 (e ∙ append_assoc (closed b) (flat_map closed us) (closed u ++ y)) in
    absurd (blank_and_not b all_u.0.1 (subst (λ (w : List ℕ). IsFalse (is_blank w)) same.0 is_t.1))
blanks_once (a ∷ ts) [] t u x y all_t all_u is_t is_u e =
    let same = frame_once u a y (flat_map closed ts ++ (closed t ++ x)) is_u.0 all_t.0.0 (sym e ∙ append_assoc (closed a) (flat_map closed ts) (closed t ++ x)) in
    absurd (blank_and_not a all_t.0.1 (subst (λ (w : List ℕ). IsFalse (is_blank w)) same.0 is_u.1))
blanks_once (a ∷ ts) (b ∷ us) t u x y all_t all_u is_t is_u e =
    let p = flat_map closed ts ++ (closed t ++ x) in
    let q = flat_map closed us ++ (closed u ++ y) in
    let same = frame_once a b p q all_t.0.0 all_u.0.0 (sym (append_assoc (closed a) (flat_map closed ts) (closed t ++ x)) ∙ (e ∙ append_assoc (closed b) (flat_map closed us) (closed u ++ y))) in
    blanks_once ts us t u x y all_t.1 all_u.1 is_t is_u same.1

-- the first statement is one
pub statement_once : (bytes t u x y : List ℕ) → IsStatement t → IsStatement u → Skips bytes (closed t ++ x) → Skips bytes (closed u ++ y) → (t ≡ u) × (x ≡ y)
statement_once bytes t u x y is_t is_u one other =
    blanks_once one.0 other.0 t u x y one.1 other.1 is_t is_u (sym one.2 ∙ other.2)

blanks_before_none : (ts us : List (List ℕ)) (left u y : List ℕ) → AllByRecursion IsBlankFrame ts → NoFrame left → AllByRecursion IsBlankFrame us → IsStatement u → flat_map closed ts ++ left ≡ flat_map closed us ++ (closed u ++ y) → ⊥
blanks_before_none [] [] left u y all_t none all_u is_u e = none u y is_u.0 e
blanks_before_none [] (b ∷ us) left u y all_t none all_u is_u e =
    none b (flat_map closed us ++ (closed u ++ y)) all_u.0.0 (e ∙ append_assoc (closed b) (flat_map closed us) (closed u ++ y))
blanks_before_none (a ∷ ts) [] left u y all_t none all_u is_u e =
    let same = frame_once u a y (flat_map closed ts ++ left) is_u.0 all_t.0.0 (sym e ∙ append_assoc (closed a) (flat_map closed ts) left) in
    blank_and_not a all_t.0.1 (subst (λ (w : List ℕ). IsFalse (is_blank w)) same.0 is_u.1)
blanks_before_none (a ∷ ts) (b ∷ us) left u y all_t none all_u is_u e =
    let p = flat_map closed ts ++ left in
    let q = flat_map closed us ++ (closed u ++ y) in
    let same = frame_once a b p q all_t.0.0 all_u.0.0 (sym (append_assoc (closed a) (flat_map closed ts) left) ∙ (e ∙ append_assoc (closed b) (flat_map closed us) (closed u ++ y))) in
    blanks_before_none ts us left u y all_t.1 none all_u.1 is_u same.1

-- after skipped frames there is no statement if there is no frame
pub no_statement : (bytes left text rest : List ℕ) → Skips bytes left → NoFrame left → IsStatement text → Skips bytes (closed text ++ rest) → ⊥
no_statement bytes left text rest one none is_text other =
    blanks_before_none one.0 other.0 left text rest one.1 none other.1 is_text (sym one.2 ∙ other.2)

blanks_before_rests : (ts us : List (List ℕ)) (x y : List ℕ) → AllByRecursion IsBlankFrame ts → AllByRecursion IsBlankFrame us → NoFrame x → NoFrame y → flat_map closed ts ++ x ≡ flat_map closed us ++ y → x ≡ y
blanks_before_rests [] [] x y all_t all_u no_x no_y e = e
blanks_before_rests [] (b ∷ us) x y all_t all_u no_x no_y e =
    absurd (no_x b (flat_map closed us ++ y) all_u.0.0 (e ∙ append_assoc (closed b) (flat_map closed us) y))
blanks_before_rests (a ∷ ts) [] x y all_t all_u no_x no_y e =
    absurd (no_y a (flat_map closed ts ++ x) all_t.0.0 (sym e ∙ append_assoc (closed a) (flat_map closed ts) x))
blanks_before_rests (a ∷ ts) (b ∷ us) x y all_t all_u no_x no_y e =
    let p = flat_map closed ts ++ x in
    let q = flat_map closed us ++ y in
    let same = frame_once a b p q all_t.0.0 all_u.0.0 (sym (append_assoc (closed a) (flat_map closed ts) x) ∙ (e ∙ append_assoc (closed b) (flat_map closed us) y)) in
    blanks_before_rests ts us x y all_t.1 all_u.1 no_x no_y same.1

-- what comes after all frames that are skipped is one
pub rest_once : (bytes x y : List ℕ) → Skips bytes x → Skips bytes y → NoFrame x → NoFrame y → x ≡ y
rest_once bytes x y one other no_x no_y =
    blanks_before_rests one.0 other.0 x y one.1 other.1 no_x no_y (sym one.2 ∙ other.2)
