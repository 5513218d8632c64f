-- A search of a word in a table that rises by length.
use Rattle.std.proofs.Common.{◌≡◌, ℕ, zero, ◌<◌, ◌≤◌, Bool, true, false, ◌&&◌, List, [], ◌∷◌, length, map, refl, sym, ap, ◌∙◌, arith}
use Rattle.std.proofs.lemmas.Bool.Decides.{nat_tests}
use Rattle.std.proofs.lemmas.List.{length-map}
use Rattle.std.proofs.lemmas.Slice.Eq.{bytes_eq-Decides}
use Rattle.std.specs.Bool.{nat_le}
use Rattle.std.specs.Char.{to_ascii_lowercase}
use Rattle.std.specs.Str.{bytes_eq, str_eq_ignore_ascii_case, str_to_ascii_lowercase}
use Rattle.paql_lexer.specs.Keywords.{kind_in, rises}
use Rattle.paql_lexer.specs.declared.vocabulary.Kind.{Kind}
use Rattle.paql_lexer.specs.declared.vocabulary.Kind.TheVariants as kinds

false_from : (b : Bool) → (b ≡ true → ⊥) → b ≡ false
false_from true no_way = absurd (no_way refl)
false_from false no_way = refl

-- words of different lengths are different
other_length : (one other : List ℕ) → length other < length one → str_eq_ignore_ascii_case one other ≡ false
other_length one other less =
    false_from (str_eq_ignore_ascii_case one other) (λ same.
    let e = (bytes_eq-Decides (str_to_ascii_lowercase one) (str_to_ascii_lowercase other)).0 same in
    let lengths : length one ≡ length other = sym (length-map one to_ascii_lowercase) ∙ (ap length e ∙ length-map other to_ascii_lowercase) in
    absurd (omega (arith, less, lengths)))

-- each of the two holds
and_left : (a b : Bool) → (a && b) ≡ true → a ≡ true
and_left true b e = refl
and_left false b e = e

and_right : (a b : Bool) → (a && b) ≡ true → b ≡ true
and_right true b e = e
and_right false b e = absurd (cc_false e)
  where
    cc_false : false ≡ true → ⊥
    cc_false e = cc

at_least : (n m : ℕ) → nat_le n m ≡ true → n ≤ m
at_least n m e = grind (arith, nat_tests, e)

-- A word that is shorter than all words of the table is a name.
pub longer : (n : ℕ) (table : List (List ℕ × Kind)) (word : List ℕ) → rises n table ≡ true → length word < n → kind_in table word ≡ kinds.Name
longer n [] word r less = refl
longer n (entry ∷ table) word r less =
    let le = at_least n (length entry.0) (and_left _ _ r) in
    rw (other_length entry.0 word (omega (arith, le, less))) (longer (length entry.0) table word (and_right _ _ r) (omega (arith, le, less)))

-- A word that is shorter than the first of the table is a name.
pub stops : (entry : List ℕ × Kind) (table : List (List ℕ × Kind)) (word : List ℕ) → rises 0 (entry ∷ table) ≡ true → length word < length entry.0 → kind_in (entry ∷ table) word ≡ kinds.Name
stops entry table word r less =
    rw (other_length entry.0 word less) (longer (length entry.0) table word (and_right (nat_le 0 (length entry.0)) _ r) less)
