-- Lemmas on replies as JSON.
use Rattle.std.proofs.Common.{◌≡◌, ℕ, Bool, false, ◌||◌, List, [], ◌∷◌, map, Ordering, refl, ap, ◌∙◌}
use Rattle.std.specs.Ordering.{match_ordering}
use Rattle.serde_json.specs.Data as json
use Rattle.serde_json.specs.View.{items_of}
use Rattle.serde_json.specs.Written.{has_float, items_have_float, members_have_float}
use Rattle.session_proto.specs.Replies.{FieldData, num, text, pairs, flag, Ascends, pair_data, field_data, members_data}

-- a least key goes to the start
pub put_front : (key : List ℕ) (value : FieldData) (fields : List (List ℕ × FieldData)) → Ascends ((key, value) ∷ fields) → json.put key (field_data value) (members_data fields) ≡ members_data ((key, value) ∷ fields)
put_front key value [] ascends = refl
put_front key value (next ∷ fields) ascends =
    ap (λ (o : Ordering). match_ordering o
    (json.member key (field_data value) (members_data (next ∷ fields)))
    (json.member next.0 (field_data value) (members_data fields))
    (json.member next.0 (field_data next.1) (json.put key (field_data value) (members_data fields)))) ascends.0

-- no float is in a reply
no_float_pairs : (list : List (ℕ × ℕ)) → items_have_float (items_of (map pair_data list)) ≡ false
no_float_pairs [] = refl
no_float_pairs (pair ∷ list) = no_float_pairs list

no_float_field : (value : FieldData) → has_float (field_data value) ≡ false
no_float_field (num number) = refl
no_float_field (text words) = refl
no_float_field (pairs list) = no_float_pairs list
no_float_field (flag truth) = refl

pub no_float : (fields : List (List ℕ × FieldData)) → members_have_float (members_data fields) ≡ false
no_float [] = refl
no_float (first ∷ fields) =
    ap (λ (b : Bool). b || members_have_float (members_data fields)) (no_float_field first.1) ∙ no_float fields
