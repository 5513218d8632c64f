-- No line feed is in a reply's line.
use Rattle.std.proofs.Common.{◌≡◌, ◌≢◌, ℕ, ◌+◌, ◌/◌, ◌%◌, ◌^◌, ◌<◌, ◌≤◌, nat_lt, cond, Bool, true, false, List, [], ◌∷◌, ◌++◌, decimal, inl, inr, refl, sym, subst, arith}
use Rattle.std.specs.Char.{digit_char}
use Rattle.std.specs.List.{AllByRecursion}
use Rattle.std.proofs.lemmas.Bool.{cases_eq}
use Rattle.std.proofs.lemmas.Fmt.{decimal_by_steps}
use Rattle.json.specs.Print.{escape_letter, escape_byte, escape, quoted}
use Rattle.serde_json.specs.Data as json
use Rattle.serde_json.specs.Written.{comma_if, compact_text, items_text, members_text}
use Rattle.session_proto.specs.Replies.{FieldData, num, text, pairs, flag, pair_data, pairs_data, field_data, members_data, FitsPair, FitsField, FitsMember}
use Rattle.session_proto.proofs.FrameSteps.{AllByRecursion-append}

abbrev pub IsOther : ℕ → Type 0
IsOther byte = byte ≢ 10

-- no byte is a line feed
abbrev pub NoFeed : List ℕ → Type 0
NoFeed bytes = AllByRecursion IsOther bytes

no_feed_append : (xs ys : List ℕ) → NoFeed xs → NoFeed ys → NoFeed (xs ++ ys)
no_feed_append xs ys one other = AllByRecursion-append IsOther xs ys one other

cond_other : (b : Bool) (x y : ℕ) → IsOther x → IsOther y → IsOther (cond b x y)
cond_other true x y one other = one
cond_other false x y one other = other

cond_no_feed : (b : Bool) (xs ys : List ℕ) → NoFeed xs → NoFeed ys → NoFeed (cond b xs ys)
cond_no_feed true xs ys one other = one
cond_no_feed false xs ys one other = other

digit_other : (d : ℕ) → IsOther (digit_char d)
digit_other d = cond_other (nat_lt d 10) (48 + d) (87 + d) (omega arith) (omega arith)

no_feed_decimal : (n : ℕ) → n < 2 ^ 64 → NoFeed (decimal n)
no_feed_decimal n fits =
    decimal_by_steps (λ (k : ℕ) (digits : List ℕ). NoFeed digits)
    (λ (k : ℕ) (few : k < 10). (omega arith, tt))
    (λ (k : ℕ) (digits : List ℕ) (many : 10 ≤ k) (before : NoFeed digits). no_feed_append digits ((48 + k % 10) ∷ []) before (omega arith, tt))
    n fits

letter_other : (x : ℕ) → IsOther x → IsOther (escape_letter x)
letter_other x other =
    cond_other _ x _ other (cond_other _ 98 _ (omega arith) (cond_other _ 102 _ (omega arith) (cond_other _ 110 _ (omega arith) (cond_other _ 114 _ (omega arith) (cond_other _ 116 0 (omega arith) (omega arith))))))

no_feed_escape_byte : (x : ℕ) → NoFeed (escape_byte x)
unfolding escape_byte
no_feed_escape_byte x = elim (cases_eq x 10) [
  | inl feed ↦
      let escaped : NoFeed (92 ∷ (110 ∷ [])) = (omega arith, (omega arith, tt)) in
      subst (λ (n : ℕ). NoFeed (escape_byte n)) (sym feed) escaped
  | inr other ↦
      cond_no_feed (nat_lt 0 (escape_letter x)) (92 ∷ (escape_letter x ∷ [])) _ (omega arith, (letter_other x other, tt))
      (cond_no_feed (nat_lt x 32) (92 ∷ (117 ∷ (48 ∷ (48 ∷ (digit_char (x / 16) ∷ (digit_char (x % 16) ∷ [])))))) (x ∷ [])
      (omega arith, (omega arith, (omega arith, (omega arith, (digit_other (x / 16), (digit_other (x % 16), tt)))))) (other, tt))
]

no_feed_escape : (s : List ℕ) → NoFeed (escape s)
no_feed_escape [] = tt
no_feed_escape (x ∷ s) = no_feed_append (escape_byte x) (escape s) (no_feed_escape_byte x) (no_feed_escape s)

no_feed_quoted : (s : List ℕ) → NoFeed (quoted s)
no_feed_quoted s = (omega arith, no_feed_append (escape s) (34 ∷ []) (no_feed_escape s) (omega arith, tt))

no_feed_comma : (later : Bool) → NoFeed (comma_if later)
no_feed_comma true = (omega arith, tt)
no_feed_comma false = tt

no_feed_pair : (pair : ℕ × ℕ) → FitsPair pair → NoFeed (compact_text (pair_data pair))
no_feed_pair pair fits = (
  omega arith,
  no_feed_append (decimal pair.0) (44 ∷ (decimal pair.1 ++ 93 ∷ [])) (no_feed_decimal pair.0 fits.0)
      (omega arith, no_feed_append (decimal pair.1) (93 ∷ []) (no_feed_decimal pair.1 fits.1) (omega arith, tt)),
)

no_feed_pairs : (later : Bool) (list : List (ℕ × ℕ)) → AllByRecursion FitsPair list → NoFeed (items_text later (pairs_data list))
no_feed_pairs later [] fits = (omega arith, tt)
no_feed_pairs later (pair ∷ list) fits =
    no_feed_append (comma_if later) (compact_text (pair_data pair) ++ items_text true (pairs_data list)) (no_feed_comma later)
    (no_feed_append (compact_text (pair_data pair)) (items_text true (pairs_data list)) (no_feed_pair pair fits.0) (no_feed_pairs true list fits.1))

no_feed_flag : (truth : Bool) → NoFeed (compact_text (json.boolean truth))
no_feed_flag true = (omega arith, (omega arith, (omega arith, (omega arith, tt))))
no_feed_flag false = (omega arith, (omega arith, (omega arith, (omega arith, (omega arith, tt)))))

no_feed_field : (value : FieldData) → FitsField value → NoFeed (compact_text (field_data value))
no_feed_field (num number) fits = no_feed_decimal number fits
no_feed_field (text words) fits = no_feed_quoted words
no_feed_field (pairs list) fits = (omega arith, no_feed_pairs false list fits)
no_feed_field (flag truth) fits = no_feed_flag truth

no_feed_members : (later : Bool) (fields : List (List ℕ × FieldData)) → AllByRecursion FitsMember fields → NoFeed (members_text later (members_data fields))
no_feed_members later [] fits = (omega arith, tt)
no_feed_members later (first ∷ fields) fits =
    no_feed_append (comma_if later) (quoted first.0 ++ 58 ∷ (compact_text (field_data first.1) ++ members_text true (members_data fields))) (no_feed_comma later)
    (no_feed_append (quoted first.0) (58 ∷ (compact_text (field_data first.1) ++ members_text true (members_data fields))) (no_feed_quoted first.0)
    (omega arith, no_feed_append (compact_text (field_data first.1)) (members_text true (members_data fields)) (no_feed_field first.1 fits.0) (no_feed_members true fields fits.1)))

pub no_feed_object : (fields : List (List ℕ × FieldData)) → AllByRecursion FitsMember fields → NoFeed (compact_text (json.object (members_data fields)))
no_feed_object fields fits = (omega arith, no_feed_members false fields fits)

-- two lines are one where the bytes are
pub line_once : (a b x y : List ℕ) → NoFeed a → NoFeed b → a ++ 10 ∷ x ≡ b ++ 10 ∷ y → (a ≡ b) × (x ≡ y)
line_once [] [] x y no_a no_b e = (refl, cc)
line_once [] (q ∷ b) x y no_a no_b e =
    let first : q ≡ 10 = cc in
    absurd (no_b.0 first)
line_once (p ∷ a) [] x y no_a no_b e =
    let first : p ≡ 10 = cc in
    absurd (no_a.0 first)
line_once (p ∷ a) (q ∷ b) x y no_a no_b e =
    let first : p ≡ q = cc in
    let rest : a ++ 10 ∷ x ≡ b ++ 10 ∷ y = cc in
    let same = line_once a b x y no_a.1 no_b.1 rest in
    (cc (first, same.0), same.1)
