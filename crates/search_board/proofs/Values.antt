-- Values and their words.
use Rattle.std.proofs.Common.{◌≡◌, ℕ, zero, suc, ◌^◌, ◌<◌, max, List, [], ◌∷◌, ◌++◌, refl, arith}
use Rattle.std.proofs.lemmas.Int.{ints}
use Rattle.std.specs.Prelude.{ℤ}
use Rattle.search_board.specs.Values.{IsSmall, word_of, value_of, rank, named, top}

pub rank_named : (word : ℕ) → rank (named word) ≡ word
rank_named zero = refl
rank_named (suc n) = omega (arith, ints)

pub value_word : (value : ℤ) → IsSmall value → value_of (word_of value) ≡ value
value_word value small = omega (arith, ints, small)

pub word_small : (value : ℤ) → IsSmall value → word_of value < 2 ^ 62
word_small value small = omega (arith, ints, small)

pub top_append : (xs ys : List ℤ) → top (xs ++ ys) ≡ max (top xs) (top ys)
top_append [] ys = omega arith
top_append (x ∷ xs) ys = omega (arith, top_append xs ys)

pub top_snoc : (xs : List ℤ) (value : ℤ) → top (xs ++ value ∷ []) ≡ max (top xs) (word_of value)
top_snoc xs value = omega (arith, top_append xs (value ∷ []))
