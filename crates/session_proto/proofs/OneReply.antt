-- Different replies have different bytes.
use Rattle.std.proofs.Common.{◌≡◌, ℕ, ◌≤◌, Some, List, [], ◌∷◌, decimal, refl, sym, ap, ◌∙◌, arith}
use Rattle.std.specs.List.{AllByRecursion}
use Rattle.std.proofs.lemmas.Fmt.{decimal_injective}
use Rattle.json.specs.Json as tree
use Rattle.json.specs.Json.{document, max_depth}
use Rattle.json.specs.Tree.{depth, items_depth, members_depth, HasNumbers, ItemsHaveNumbers, MembersHaveNumbers}
use Rattle.json.proofs.Printed.Decimals.{IsNumber-decimal}
use Rattle.json.proofs.Printed.Trees.{document-print}
use Rattle.serde_json.specs.Data as json
use Rattle.serde_json.specs.Written.{outline, items_outline, members_outline, compact_text}
use Rattle.serde_json.proofs.Texts.{print-outline}
use Rattle.session_proto.specs.Replies.{FieldData, num, text, pairs, flag, ReplyData, pairs_data, field_data, members_data, FitsPair, FitsField, FitsMember, OneReply}
use Rattle.session_proto.proofs.Feeds.{no_feed_object, line_once}

-- ---- the text is read back as the value

pairs_numbers : (list : List (ℕ × ℕ)) → AllByRecursion FitsPair list → ItemsHaveNumbers (items_outline (pairs_data list))
pairs_numbers [] fits = tt
pairs_numbers (pair ∷ list) fits =
    ((IsNumber-decimal pair.0 fits.0.0, (IsNumber-decimal pair.1 fits.0.1, tt)), pairs_numbers list fits.1)

field_numbers : (value : FieldData) → FitsField value → HasNumbers (outline (field_data value))
field_numbers (num number) fits = IsNumber-decimal number fits
field_numbers (text words) fits = tt
field_numbers (pairs list) fits = pairs_numbers list fits
field_numbers (flag truth) fits = tt

members_numbers : (fields : List (List ℕ × FieldData)) → AllByRecursion FitsMember fields → MembersHaveNumbers (members_outline (members_data fields))
members_numbers [] fits = tt
members_numbers (first ∷ fields) fits = (field_numbers first.1 fits.0, members_numbers fields fits.1)

pairs_shallow : (list : List (ℕ × ℕ)) → items_depth (items_outline (pairs_data list)) ≤ 1
pairs_shallow [] = omega arith
pairs_shallow (pair ∷ list) = omega (arith, pairs_shallow list)

field_shallow : (value : FieldData) → depth (outline (field_data value)) ≤ 2
field_shallow (num number) = omega arith
field_shallow (text words) = omega arith
field_shallow (pairs list) = omega (arith, pairs_shallow list)
field_shallow (flag truth) = omega arith

members_shallow : (fields : List (List ℕ × FieldData)) → members_depth (members_outline (members_data fields)) ≤ 2
members_shallow [] = omega arith
members_shallow (first ∷ fields) = omega (arith, field_shallow first.1, members_shallow fields)

read_back : (fields : List (List ℕ × FieldData)) → AllByRecursion FitsMember fields → document (compact_text (json.object (members_data fields))) ≡ Some (outline (json.object (members_data fields)))
read_back fields fits =
    let data_of = json.object (members_data fields) in
    let shallow : depth (outline data_of) ≤ max_depth = omega (arith, members_shallow fields) in
    ap document (sym (print-outline data_of)) ∙ document-print (outline data_of) (members_numbers fields fits) shallow

-- ---- one value is of one reply

pair_same : (p q : ℕ × ℕ) → p.0 ≡ q.0 → p.1 ≡ q.1 → p ≡ q
pair_same p q id count =
    let middle : ℕ × ℕ = (q.0, p.1) in
    let one : p ≡ middle = ap (λ (n : ℕ). (n, p.1)) id in
    let two : middle ≡ q = ap (λ (n : ℕ). (q.0, n)) count in
    one ∙ two

pairs_once : (one other : List (ℕ × ℕ)) → AllByRecursion FitsPair one → AllByRecursion FitsPair other → items_outline (pairs_data one) ≡ items_outline (pairs_data other) → one ≡ other
pairs_once [] [] fits fits' e = refl
pairs_once [] (q ∷ other) fits fits' e = cc
pairs_once (p ∷ one) [] fits fits' e = cc
pairs_once (p ∷ one) (q ∷ other) fits fits' e =
    let ids : decimal p.0 ≡ decimal q.0 = cc in
    let counts : decimal p.1 ≡ decimal q.1 = cc in
    let rest : items_outline (pairs_data one) ≡ items_outline (pairs_data other) = cc in
    let first = pair_same p q (decimal_injective p.0 q.0 fits.0.0 fits'.0.0 ids) (decimal_injective p.1 q.1 fits.0.1 fits'.0.1 counts) in
    let later = pairs_once one other fits.1 fits'.1 rest in
    ap (λ (r : ℕ × ℕ). r ∷ one) first ∙ ap (λ (rs : List (ℕ × ℕ)). q ∷ rs) later

field_once : (one other : FieldData) → FitsField one → FitsField other → outline (field_data one) ≡ outline (field_data other) → one ≡ other
field_once (num m) (num n) fits fits' e =
    let digits : decimal m ≡ decimal n = cc in
    ap (λ (k : ℕ). num k) (decimal_injective m n fits fits' digits)
field_once (num m) (text words) fits fits' e = cc
field_once (num m) (pairs list) fits fits' e = cc
field_once (num m) (flag truth) fits fits' e = cc
field_once (text words) (num n) fits fits' e = cc
field_once (text words) (text others) fits fits' e = cc
field_once (text words) (pairs list) fits fits' e = cc
field_once (text words) (flag truth) fits fits' e = cc
field_once (pairs list) (num n) fits fits' e = cc
field_once (pairs list) (text words) fits fits' e = cc
field_once (pairs list) (pairs others) fits fits' e =
    let items : items_outline (pairs_data list) ≡ items_outline (pairs_data others) = cc in
    ap (λ (l : List (ℕ × ℕ)). pairs l) (pairs_once list others fits fits' items)
field_once (pairs list) (flag truth) fits fits' e = cc
field_once (flag truth) (num n) fits fits' e = cc
field_once (flag truth) (text words) fits fits' e = cc
field_once (flag truth) (pairs list) fits fits' e = cc
field_once (flag truth) (flag other) fits fits' e = cc

members_once : (one other : List (List ℕ × FieldData)) → AllByRecursion FitsMember one → AllByRecursion FitsMember other → members_outline (members_data one) ≡ members_outline (members_data other) → one ≡ other
members_once [] [] fits fits' e = refl
members_once [] (b ∷ other) fits fits' e = cc
members_once (a ∷ one) [] fits fits' e = cc
members_once (a ∷ one) (b ∷ other) fits fits' e =
    let keys : a.0 ≡ b.0 = cc in
    let values : outline (field_data a.1) ≡ outline (field_data b.1) = cc in
    let rest : members_outline (members_data one) ≡ members_outline (members_data other) = cc in
    let first : a ≡ b = ap (λ (k : List ℕ). (k, a.1)) keys ∙ ap (λ (v : FieldData). (b.0, v)) (field_once a.1 b.1 fits.0 fits'.0 values) in
    ap (λ (m : List ℕ × FieldData). m ∷ one) first ∙ ap (λ (ms : List (List ℕ × FieldData)). b ∷ ms) (members_once one other fits.1 fits'.1 rest)

object_once : (one other : tree.Members) → Some (tree.object one) ≡ Some (tree.object other) → one ≡ other
object_once one other e = cc

reply_same : (one other : ReplyData) → one.members ≡ other.members → one.tail ≡ other.tail → one ≡ other
reply_same one other members tails =
    let middle : ReplyData = record { members = other.members; tail = one.tail } in
    let first : one ≡ middle = ap (λ (ms : List (List ℕ × FieldData)). record { members = ms; tail = one.tail }) members in
    let second : middle ≡ other = ap (λ (w : List ℕ). record { members = other.members; tail = w }) tails in
    first ∙ second

pub one_reply : OneReply
one_reply one other fits fits' e =
    let lines = line_once (compact_text (json.object (members_data one.members))) (compact_text (json.object (members_data other.members))) one.tail other.tail (no_feed_object one.members fits) (no_feed_object other.members fits') e in
    let read = sym (read_back one.members fits) ∙ (ap document lines.0 ∙ read_back other.members fits') in
    reply_same one other (members_once one.members other.members fits fits' (object_once _ _ read)) lines.1
