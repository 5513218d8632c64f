-- Space and comments: what may be between the tokens of a text.
use Rattle.std.specs.Prelude.{◌≡◌, ℕ, ◌⊎◌, Bool, not, ◌||◌, ◌==◌, IsTrue, IsFalse, List, [], ◌∷◌, ◌++◌}
use Rattle.std.specs.List.{concat}

-- Nothing of this kind is at the beginning of the text.
abbrev pub NoneAt : (List ℕ → List ℕ → Type 0) → List ℕ → Type 0
NoneAt Is text = (word rest : List ℕ) → text ≡ word ++ rest → ¬ Is word rest

-- Each byte passes the test.
abbrev pub AllIn : (ℕ → Bool) → List ℕ → Type 0
AllIn test [] = Unit {0}
AllIn test (byte ∷ bytes) = IsTrue (test byte) × AllIn test bytes

-- The first byte, if there is one, doesn't pass the test.
abbrev pub EndsRun : (ℕ → Bool) → List ℕ → Type 0
EndsRun test [] = Unit {0}
EndsRun test (byte ∷ bytes) = IsFalse (test byte)

-- a tab, a line feed, a carriage return, or a space
abbrev pub is_space : ℕ → Bool
is_space byte = byte == 9 || byte == 10 || byte == 13 || byte == 32

-- any byte but a line feed
abbrev pub in_line : ℕ → Bool
in_line byte = not (byte == 10)

-- A space, or a comment: `--` and the rest of its line, without the line feed.
abbrev pub IsPiece : List ℕ → List ℕ → Type 0
IsPiece piece rest = ((byte : ℕ) × IsTrue (is_space byte) × (piece ≡ byte ∷ []))
    ⊎ ((line : List ℕ) × AllIn in_line line × (piece ≡ 45 ∷ (45 ∷ line)) × EndsRun in_line rest)

-- The pieces follow one another, and no further one is at the beginning of the rest.
abbrev pub ArePieces : List (List ℕ) → List ℕ → Type 0
ArePieces [] rest = NoneAt IsPiece rest
ArePieces (piece ∷ pieces) rest = IsPiece piece (concat pieces ++ rest) × ArePieces pieces rest

-- All space and comments before the rest.
abbrev pub IsGap : List ℕ → List ℕ → Type 0
IsGap gap rest = (pieces : List (List ℕ)) × ArePieces pieces rest × (gap ≡ concat pieces)
