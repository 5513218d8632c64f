-- Lemmas on fields at their places.
use Rattle.std.proofs.Common.{◌≡◌, ℕ, ◌+◌, ◌<◌, ◌≤◌, true, false, List, [], ◌∷◌, ◌++◌, length, get_or, set, take, drop, map, Some, slice_get, Ordering, Less, Equal, Greater, nat_cmp, string_bytes, refl, sym, ap, ◌∙◌, subst, append_assoc, add-one, arith}
use Rattle.std.specs.List.{insert}
use Rattle.std.specs.Cmp.Lexicographic.{slice_cmp}
use Rattle.std.specs.Ordering.{match_ordering, ordering_reverse}
use Rattle.std.proofs.lemmas.Cmp.{nat_list_cmp_total}
use Rattle.std.proofs.lemmas.List.{take_more, drop_more, get_or-map, length-map, set_split, map-set, map-append, take-map, drop-map}
use Rattle.std.proofs.lemmas.Option.{get_or_from_slice_get, slice_get-get_or}
use Rattle.session_proto.specs.Replies.{FieldData, field_of, member_of, Ascends, put, IsPlaceOf}
use Rattle.session_proto.specs.declared.replies.Member.{Member}

abbrev pub Fields : Type 0
Fields = List (List ℕ × FieldData)

-- ---- the place of a key

-- what is there from a place on, by the field there
fields_at : (members : List Member) (i : ℕ) (item : Member) → i < length members → item ≡ get_or members i item → drop i (map member_of members) ≡ member_of item ∷ drop (i + 1) (map member_of members)
fields_at members i item within is =
    let fields = map member_of members in
    let inside : i < length fields = omega (arith, length-map members member_of, within) in
    drop_more fields i (member_of item) inside
    ∙ ap (λ (m : List ℕ × FieldData). m ∷ drop (i + 1) fields) (get_or-map member_of members i item (member_of item) within ∙ ap member_of (sym is))

fields_before : (members : List Member) (i : ℕ) (item : Member) → i < length members → item ≡ get_or members i item → take (i + 1) (map member_of members) ≡ take i (map member_of members) ++ member_of item ∷ []
fields_before members i item within is =
    let fields = map member_of members in
    let inside : i < length fields = omega (arith, length-map members member_of, within) in
    take_more fields i (member_of item) inside
    ∙ ap (λ (m : List ℕ × FieldData). take i fields ++ m ∷ []) (get_or-map member_of members i item (member_of item) within ∙ ap member_of (sym is))

abbrev pub PutsFrom : List ℕ → Fields → ℕ → Type 0
PutsFrom key fields i = (value : FieldData) → put key value fields ≡ take i fields ++ put key value (drop i fields)

-- after a lesser key
pub put_greater : (key : List ℕ) (members : List Member) (i : ℕ) (item : Member) → i < length members → item ≡ get_or members i item → slice_cmp nat_cmp key (string_bytes item.key) ≡ Greater → PutsFrom key (map member_of members) i → PutsFrom key (map member_of members) (i + 1)
put_greater key members i item within is greater before value =
    let fields = map member_of members in
    let rest = drop (i + 1) fields in
    let here : put key value (member_of item ∷ rest) ≡ member_of item ∷ put key value rest =
    ap (λ (o : Ordering). match_ordering o ((key, value) ∷ (member_of item ∷ rest)) (((member_of item).0, value) ∷ rest) (member_of item ∷ put key value rest)) greater in
    before value
    ∙ (ap (λ (w : Fields). take i fields ++ put key value w) (fields_at members i item within is)
    ∙ (ap (λ (w : Fields). take i fields ++ w) here
    ∙ (sym (append_assoc (take i fields) (member_of item ∷ []) (put key value rest))
    ∙ ap (λ (w : Fields). w ++ put key value rest) (sym (fields_before members i item within is)))))

-- before a greater key
pub put_less : (key : List ℕ) (members : List Member) (i : ℕ) (item : Member) → i < length members → item ≡ get_or members i item → slice_cmp nat_cmp key (string_bytes item.key) ≡ Less → PutsFrom key (map member_of members) i → IsPlaceOf key (map member_of members) i false
put_less key members i item within is less before =
    let fields = map member_of members in
    let rest = drop (i + 1) fields in
    let inside : i ≤ length fields = omega (arith, length-map members member_of, within) in (
      inside,
      λ (value : FieldData).
          let here : put key value (member_of item ∷ rest) ≡ (key, value) ∷ (member_of item ∷ rest) =
          ap (λ (o : Ordering). match_ordering o ((key, value) ∷ (member_of item ∷ rest)) (((member_of item).0, value) ∷ rest) (member_of item ∷ put key value rest)) less in
          before value
          ∙ (ap (λ (w : Fields). take i fields ++ put key value w) (fields_at members i item within is)
          ∙ (ap (λ (w : Fields). take i fields ++ w) here
          ∙ ap (λ (w : Fields). take i fields ++ (key, value) ∷ w) (sym (fields_at members i item within is)))),
    )

-- at the same key
pub put_equal : (key : List ℕ) (members : List Member) (i : ℕ) (item : Member) → i < length members → item ≡ get_or members i item → slice_cmp nat_cmp key (string_bytes item.key) ≡ Equal → PutsFrom key (map member_of members) i → IsPlaceOf key (map member_of members) i true
put_equal key members i item within is equal before =
    let fields = map member_of members in
    let rest = drop (i + 1) fields in
    let inside : i < length fields = omega (arith, length-map members member_of, within) in (
      inside,
      λ (name : List ℕ) (kept value : FieldData) (found : slice_get fields i ≡ Some (name, kept)).
          let here : put key value (member_of item ∷ rest) ≡ ((member_of item).0, value) ∷ rest =
          ap (λ (o : Ordering). match_ordering o ((key, value) ∷ (member_of item ∷ rest)) (((member_of item).0, value) ∷ rest) (member_of item ∷ put key value rest)) equal in
          let same : (name, kept) ≡ member_of item =
          sym (get_or_from_slice_get fields i (name, kept) (member_of item) found) ∙ (get_or-map member_of members i item (member_of item) within ∙ ap member_of (sym is)) in
          let names : (member_of item).0 ≡ name = ap (λ (m : List ℕ × FieldData). m.0) (sym same) in
          let split : set fields i (name, value) ≡ take i fields ++ (name, value) ∷ rest =
          set_split fields i (name, value) inside ∙ ap (λ (n : ℕ). take i fields ++ (name, value) ∷ drop n fields) (sym (add-one i)) in
          before value
          ∙ (ap (λ (w : Fields). take i fields ++ put key value w) (fields_at members i item within is)
          ∙ (ap (λ (w : Fields). take i fields ++ w) here
          ∙ (ap (λ (n : List ℕ). take i fields ++ (n, value) ∷ rest) names ∙ sym split))),
    )

-- ---- the field put there

pub put_same : (key : List ℕ) (members now : List Member) (at : ℕ) (item : Member) (value : FieldData) (changed : Member) → now ≡ members → item ≡ get_or members at item → changed.key ≡ item.key → field_of changed.value ≡ value → IsPlaceOf key (map member_of now) at true → map member_of (set members at changed) ≡ put key value (map member_of members)
put_same key members now at item value changed same is names values place =
    let fields = map member_of members in
    let place' : IsPlaceOf key fields at true = subst (λ (w : List Member). IsPlaceOf key (map member_of w) at true) same place in
    let within : at < length members = omega (arith, length-map members member_of, place'.0) in
    let found : slice_get fields at ≡ Some (member_of item) =
    slice_get-get_or fields at (member_of item) place'.0
    ∙ ap (λ (m : List ℕ × FieldData). Some m) (get_or-map member_of members at item (member_of item) within ∙ ap member_of (sym is)) in
    let is_changed : member_of changed ≡ (string_bytes item.key, value) =
    ap (λ (k : List ℕ). (k, field_of changed.value)) (ap string_bytes names) ∙ ap (λ (v : FieldData). (string_bytes item.key, v)) values in
    map-set member_of members at changed
    ∙ (ap (λ (m : List ℕ × FieldData). set fields at m) is_changed
    ∙ sym (place'.1 (string_bytes item.key) (field_of item.value) value found))

pub put_new : (key : List ℕ) (members now : List Member) (at : ℕ) (made : Member) (value : FieldData) → now ≡ members → string_bytes made.key ≡ key → field_of made.value ≡ value → IsPlaceOf key (map member_of now) at false → map member_of (insert members at made) ≡ put key value (map member_of members)
put_new key members now at made value same names values place =
    let fields = map member_of members in
    let place' : IsPlaceOf key fields at false = subst (λ (w : List Member). IsPlaceOf key (map member_of w) at false) same place in
    let is_made : member_of made ≡ (key, value) =
    ap (λ (k : List ℕ). (k, field_of made.value)) names ∙ ap (λ (v : FieldData). (key, v)) values in
    map-append member_of (take at members) (made ∷ drop at members)
    ∙ (ap (λ (w : Fields). w ++ member_of made ∷ map member_of (drop at members)) (sym (take-map member_of at members))
    ∙ (ap (λ (w : Fields). take at fields ++ member_of made ∷ w) (sym (drop-map member_of at members))
    ∙ (ap (λ (m : List ℕ × FieldData). take at fields ++ m ∷ drop at fields) is_made
    ∙ sym (place'.1 value))))

-- ---- keys ascend

reversed : (a b : List ℕ) → slice_cmp nat_cmp a b ≡ Greater → slice_cmp nat_cmp b a ≡ Less
reversed a b greater = nat_list_cmp_total.antisymm b a ∙ ap ordering_reverse greater

Ascends-value : (name : List ℕ) (one other : FieldData) (fields : Fields) → Ascends ((name, one) ∷ fields) → Ascends ((name, other) ∷ fields)
Ascends-value name one other [] ascends = tt
Ascends-value name one other (next ∷ fields) ascends = ascends

put_behind_first : (first next : List ℕ × FieldData) (key : List ℕ) (value : FieldData) (fields : Fields) (o : Ordering) → slice_cmp nat_cmp key next.0 ≡ o → slice_cmp nat_cmp first.0 key ≡ Less → Ascends (first ∷ (next ∷ fields)) → (slice_cmp nat_cmp next.0 key ≡ Less → Ascends (next ∷ put key value fields))
    → Ascends (first ∷ match_ordering o ((key, value) ∷ (next ∷ fields)) ((next.0, value) ∷ fields) (next ∷ put key value fields))
put_behind_first first next key value fields Less is less ascends later = (less, (is, ascends.1))
put_behind_first first next key value fields Equal is less ascends later = (ascends.0, Ascends-value next.0 next.1 value fields ascends.1)
put_behind_first first next key value fields Greater is less ascends later = (ascends.0, later (reversed key next.0 is))

put_behind : (first : List ℕ × FieldData) (key : List ℕ) (value : FieldData) (fields : Fields) → slice_cmp nat_cmp first.0 key ≡ Less → Ascends (first ∷ fields) → Ascends (first ∷ put key value fields)
put_behind first key value [] less ascends = (less, tt)
put_behind first key value (next ∷ fields) less ascends =
    put_behind_first first next key value fields (slice_cmp nat_cmp key next.0) refl less ascends
    (λ (later : slice_cmp nat_cmp next.0 key ≡ Less). put_behind next key value fields later ascends.1)

put_at_first : (first : List ℕ × FieldData) (key : List ℕ) (value : FieldData) (fields : Fields) (o : Ordering) → slice_cmp nat_cmp key first.0 ≡ o → Ascends (first ∷ fields)
    → Ascends (match_ordering o ((key, value) ∷ (first ∷ fields)) ((first.0, value) ∷ fields) (first ∷ put key value fields))
put_at_first first key value fields Less is ascends = (is, ascends)
put_at_first first key value fields Equal is ascends = Ascends-value first.0 first.1 value fields ascends
put_at_first first key value fields Greater is ascends = put_behind first key value fields (reversed key first.0 is) ascends

pub Ascends-put : (key : List ℕ) (value : FieldData) (fields : Fields) → Ascends fields → Ascends (put key value fields)
Ascends-put key value [] ascends = tt
Ascends-put key value (first ∷ fields) ascends =
    put_at_first first key value fields (slice_cmp nat_cmp key first.0) refl ascends

pub Ascends-rest : (first : List ℕ × FieldData) (fields : Fields) → Ascends (first ∷ fields) → Ascends fields
Ascends-rest first [] ascends = tt
Ascends-rest first (next ∷ fields) ascends = ascends.1
