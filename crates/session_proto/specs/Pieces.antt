-- Private: the law that says of a frame without places what it consists of.
-- What a frame consists of: texts, comments, and single bytes outside of both.
use Rattle.std.specs.Prelude.{◌≡◌, ◌≢◌, ℕ, ◌⊎◌, ◌↔◌, IsTrue, List, [], ◌∷◌, ◌++◌}
use Rattle.std.specs.List.{AllByRecursion, concat}
use Rattle.session_proto.specs.Frames.{IsOpen, is_code, place_behind}
use Rattle.session_proto.specs.declared.scan.Place.TheVariants as places

-- the byte is nowhere among them
abbrev pub Lacks : ℕ → List ℕ → Type 0
Lacks byte bytes = AllByRecursion (λ (other : ℕ). other ≢ byte) bytes

-- the byte is the first
abbrev pub BeginsWith : ℕ → List ℕ → Type 0
BeginsWith byte [] = ⊥
BeginsWith byte (first ∷ bytes) = first ≡ byte

-- what is between two `'`
abbrev pub IsText : List ℕ → Type 0
IsText piece = (inside : List ℕ) × Lacks 39 inside × (piece ≡ 39 ∷ (inside ++ 39 ∷ []))

-- `--` and the rest of its line
abbrev pub IsComment : List ℕ → Type 0
IsComment piece = (line : List ℕ) × Lacks 10 line × (piece ≡ 45 ∷ (45 ∷ (line ++ 10 ∷ [])))

-- one byte that begins no text and no comment, and is no `;`
abbrev pub IsByte : List ℕ → List ℕ → Type 0
IsByte piece rest = (byte : ℕ) × (byte ≢ 39) × (byte ≢ 59) × (byte ≡ 45 → ¬ BeginsWith 45 rest)
    × (piece ≡ byte ∷ [])

abbrev pub IsPiece : List ℕ → List ℕ → Type 0
IsPiece piece rest = IsText piece ⊎ (IsComment piece ⊎ IsByte piece rest)

-- pieces before the rest
abbrev pub ArePieces : List (List ℕ) → List ℕ → Type 0
ArePieces [] rest = Unit {0}
ArePieces (piece ∷ pieces) rest = IsPiece piece (concat pieces ++ rest) × ArePieces pieces rest

-- the text is pieces before a `;`
abbrev pub IsOfPieces : List ℕ → Type 0
IsOfPieces text = (pieces : List (List ℕ)) × ArePieces pieces (59 ∷ []) × (text ≡ concat pieces)

-- The first `;` outside texts and comments ends a frame: the texts before it are just those that
-- are pieces.
abbrev pub FramesAreOfPieces : Type 0
FramesAreOfPieces = (text : List ℕ)
    → (IsOpen places.Plain text × IsTrue (is_code (place_behind places.Plain text)))
    ↔ IsOfPieces text
