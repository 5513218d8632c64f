-- Replies: fields whose keys ascend, and the line of JSON that they are.
use Rattle.std.specs.Prelude.{◌≡◌, ℕ, ◌^◌, ◌<◌, ◌≤◌, Bool, true, false, List, [], ◌∷◌, ◌++◌, length, map, insert, slice_get, slice_set, Some, string_bytes}
use Rattle.std.specs.List.{AllByRecursion}
use Rattle.std.specs.Cmp.Lexicographic.{slice_cmp}
use Rattle.std.specs.Ordering.{nat_cmp, match_ordering}
use Rattle.std.specs.declared.cmp.Ordering.TheVariants.{Less}
use Rattle.serde_json.specs.Data as json
use Rattle.serde_json.specs.View.{items_of}
use Rattle.serde_json.specs.Written.{compact_text}
use Rattle.session_proto.specs.declared.replies.Field.{Field}
use Rattle.session_proto.specs.declared.replies.Field.TheVariants as fields
use Rattle.session_proto.specs.declared.replies.Member.{Member}

-- what a key has
pub data FieldData : Type 0 where
  num : ℕ → FieldData
  text : List ℕ → FieldData
  pairs : List (ℕ × ℕ) → FieldData
  flag : Bool → FieldData

-- a key with its value
abbrev pub MemberData : Type 0
MemberData = List ℕ × FieldData

-- keys with their values, and the bytes after the line
pub record ReplyData : Type 0 where
  pub members : List MemberData
  pub tail : List ℕ

abbrev pub field_of : Field → FieldData
field_of (fields.Num number) = num number
field_of (fields.Text words) = text (string_bytes words)
field_of (fields.Pairs list) = pairs list
field_of (fields.Flag truth) = flag truth

abbrev pub member_of : Member → MemberData
member_of member = (string_bytes member.key, field_of member.value)

-- the keys ascend by their bytes
abbrev pub Ascends : List MemberData → Type 0
Ascends [] = Unit {0}
Ascends (first ∷ []) = Unit {0}
Ascends (first ∷ (second ∷ members)) =
    (slice_cmp nat_cmp first.0 second.0 ≡ Less) × Ascends (second ∷ members)

-- the field at its place, in place of one with the same key
abbrev pub put : List ℕ → FieldData → List MemberData → List MemberData
put key value [] = (key, value) ∷ []
put key value (member ∷ members) = match_ordering (slice_cmp nat_cmp key member.0)
    ((key, value) ∷ (member ∷ members))
    ((member.0, value) ∷ members)
    (member ∷ put key value members)

-- A field with this key goes there: in place of the one that has it, or before the first with a
-- greater key.
abbrev pub IsPlaceOf : List ℕ → List MemberData → ℕ → Bool → Type 0
IsPlaceOf key members at true = (at < length members)
    × ((name : List ℕ) (kept value : FieldData) → slice_get members at ≡ Some (name, kept)
    → put key value members ≡ slice_set members at (name, value))
IsPlaceOf key members at false = (at ≤ length members)
    × ((value : FieldData) → put key value members ≡ insert members at (key, value))

-- ---- as JSON

abbrev pub pair_data : ℕ × ℕ → json.Data
pair_data pair = json.array (json.item (json.number (json.unsigned pair.0))
    (json.item (json.number (json.unsigned pair.1)) json.no_items))

abbrev pub pairs_data : List (ℕ × ℕ) → json.Items
pairs_data list = items_of (map pair_data list)

abbrev pub field_data : FieldData → json.Data
field_data (num number) = json.number (json.unsigned number)
field_data (text words) = json.string words
field_data (pairs list) = json.array (pairs_data list)
field_data (flag truth) = json.boolean truth

abbrev pub members_data : List MemberData → json.Members
members_data [] = json.no_members
members_data (first ∷ members) = json.member first.0 (field_data first.1) (members_data members)

-- a compact JSON object, a line feed, and the bytes after it
abbrev pub reply_text : ReplyData → List ℕ
reply_text reply = compact_text (json.object (members_data reply.members)) ++ 10 ∷ reply.tail

-- ---- a law

-- The numbers fit their types.
abbrev pub FitsPair : ℕ × ℕ → Type 0
FitsPair pair = (pair.0 < 2 ^ 64) × (pair.1 < 2 ^ 64)

abbrev pub FitsField : FieldData → Type 0
FitsField (num number) = number < 2 ^ 64
FitsField (text words) = Unit {0}
FitsField (pairs list) = AllByRecursion FitsPair list
FitsField (flag truth) = Unit {0}

abbrev pub FitsMember : MemberData → Type 0
FitsMember member = FitsField member.1

-- Different replies have different bytes.
abbrev pub OneReply : Type 0
OneReply = (one other : ReplyData)
    → AllByRecursion FitsMember one.members → AllByRecursion FitsMember other.members
    → reply_text one ≡ reply_text other → one ≡ other
