-- The lexical grammar: which bytes are a token, and which are in the gaps between tokens.
-- In each relation the word is followed by the rest, which says whether the word could go on.
use Rattle.std.specs.Prelude.{◌≡◌, ℕ, ◌+◌, ◌<◌, ◌≤◌, ◌⊎◌, Bool, not, ◌||◌, ◌==◌, if◌then◌else◌}
use Rattle.std.specs.Prelude.{IsTrue, IsFalse, List, [], ◌∷◌, ◌++◌, length, Option, Some, None}
use Rattle.std.specs.Prelude.{IsUtf8}
use Rattle.std.specs.Char.{is_ascii_alphabetic, is_ascii_alphanumeric, is_ascii_digit}
use Rattle.std.specs.List.{concat}
use Rattle.std.specs.Str.Parse.{AllDigits}
use Rattle.pq_base.specs.Decimal.{BeginsWithDigit, point_and}
use Rattle.paql_lexer.specs.Keywords.{word_kind}
use Rattle.paql_lexer.specs.declared.cuts.Class.{Class}
use Rattle.paql_lexer.specs.declared.cuts.Class.TheVariants as class
use Rattle.paql_lexer.specs.declared.gaps.Run.{Run}
use Rattle.paql_lexer.specs.declared.gaps.Run.TheVariants as run
use Rattle.paql_lexer.specs.declared.vocabulary.Kind.{Kind}
use Rattle.paql_lexer.specs.declared.vocabulary.Kind.TheVariants as kinds

-- Nothing of this kind is at the start of the text.
abbrev pub NoneAt : (List ℕ → List ℕ → Type 0) → List ℕ → Type 0
NoneAt Is text = (word rest : List ℕ) → text ≡ word ++ rest → ¬ Is word rest

-- Each byte passes the test.
abbrev pub AllIn : (ℕ → Bool) → List ℕ → Type 0
AllIn test [] = Unit {0}
AllIn test (byte ∷ bytes) = IsTrue (test byte) × AllIn test bytes

-- No byte that passes the test comes first.
abbrev pub EndsRun : (ℕ → Bool) → List ℕ → Type 0
EndsRun test [] = Unit {0}
EndsRun test (byte ∷ bytes) = IsFalse (test byte)

-- The byte comes first.
abbrev pub BeginsWith : ℕ → List ℕ → Type 0
BeginsWith first [] = ⊥
BeginsWith first (byte ∷ bytes) = byte ≡ first

-- A word goes on with letters, digits and `_`, a line with all bytes but the line feed.
abbrev pub in_run : Run → ℕ → Bool
in_run run.Word byte = is_ascii_alphanumeric byte || byte == 95
in_run run.Line byte = not (byte == 10)

-- ---- gaps

abbrev pub is_space : ℕ → Bool
is_space byte = byte == 9 || byte == 10 || byte == 13 || byte == 32

-- A space, or a comment: `--` and what is on the line after it.
abbrev pub IsPiece : List ℕ → List ℕ → Type 0
IsPiece piece rest = ((byte : ℕ) × IsTrue (is_space byte) × (piece ≡ byte ∷ []))
    ⊎ ((line : List ℕ) × AllIn (in_run run.Line) line × (piece ≡ 45 ∷ (45 ∷ line))
    × EndsRun (in_run run.Line) rest)

-- The pieces follow one another, and no further one comes after them.
abbrev pub ArePieces : List (List ℕ) → List ℕ → Type 0
ArePieces [] rest = NoneAt IsPiece rest
ArePieces (piece ∷ pieces) rest = IsPiece piece (concat pieces ++ rest) × ArePieces pieces rest

-- All space and comments before the rest.
abbrev pub IsGap : List ℕ → List ℕ → Type 0
IsGap gap rest = (pieces : List (List ℕ)) × ArePieces pieces rest × (gap ≡ concat pieces)

-- ---- tokens

abbrev pub is_letter : ℕ → Bool
is_letter byte = is_ascii_alphabetic byte || byte == 95

abbrev pub BeginsWithLetter : List ℕ → Type 0
BeginsWithLetter [] = ⊥
BeginsWithLetter (byte ∷ bytes) = IsTrue (is_letter byte)

-- A letter or `_`, then letters, digits and `_`, at most 64 bytes.
pub record IsWord (word : List ℕ) : Type 0 where
  pub first : BeginsWithLetter word
  pub all : AllIn (in_run run.Word) word
  pub short : length word ≤ 64

-- A keyword or a name.
pub record IsWordToken (kind : Kind) (word rest : List ℕ) : Type 0 where
  pub is_word : IsWord word
  pub ends : EndsRun (in_run run.Word) rest
  pub meaning : kind ≡ word_kind word

-- A word in double quotes.
pub record IsQuotedName (kind : Kind) (word rest : List ℕ) : Type 0 where
  pub name : List ℕ
  pub is_word : IsWord name
  pub quotes : word ≡ 34 ∷ (name ++ 34 ∷ [])
  pub meaning : kind ≡ kinds.QuotedName

-- A point and a digit come first.
abbrev pub BeginsWithPlace : List ℕ → Type 0
BeginsWithPlace [] = ⊥
BeginsWithPlace (byte ∷ bytes) = (byte ≡ 46) × BeginsWithDigit bytes

-- Digits, and perhaps a point and digits, at most 30 digits, as many as are there.
pub record IsNumber (kind : Kind) (word rest : List ℕ) : Type 0 where
  pub whole : List ℕ
  pub fraction : List ℕ
  pub spelled : word ≡ whole ++ point_and fraction
  pub some : 0 < length whole
  pub digits : AllDigits 10 whole
  pub places : AllDigits 10 fraction
  pub short : length whole + length fraction ≤ 30
  pub ends : ¬ BeginsWithDigit rest
  pub longest : fraction ≡ [] → ¬ BeginsWithPlace rest
  pub meaning : kind ≡ kinds.Number

abbrev pub is_quote : ℕ → Bool
is_quote byte = byte == 39

-- The content of a text as it is written: each quote is doubled.
abbrev pub doubled : List ℕ → List ℕ
doubled [] = []
doubled (byte ∷ bytes) = byte ∷ (if is_quote byte then 39 ∷ doubled bytes else doubled bytes)

-- The byte is a closing quote: one that no quote follows.
abbrev pub Closes : ℕ → List ℕ → Type 0
Closes byte rest = (byte ≡ 39) × EndsRun is_quote rest

-- The byte alone, or with its twin, is a character of so many bytes.
abbrev pub GoesOn : ℕ → List ℕ → ℕ → Type 0
GoesOn byte rest len = (IsFalse (is_quote byte) × (len ≡ 1))
    ⊎ ((byte ≡ 39) × BeginsWith 39 rest × (len ≡ 2))

-- The content and its closing quote come first.
abbrev pub ClosesBehind : List ℕ → List ℕ → Type 0
ClosesBehind body content =
    (rest : List ℕ) × (body ≡ doubled content ++ 39 ∷ rest) × EndsRun is_quote rest

-- UTF-8 in single quotes, with each quote in it doubled.
pub record IsText (kind : Kind) (word rest : List ℕ) : Type 0 where
  pub content : List ℕ
  pub quotes : word ≡ 39 ∷ (doubled content ++ 39 ∷ [])
  pub utf8 : IsUtf8 (doubled content)
  pub ends : EndsRun is_quote rest
  pub meaning : kind ≡ kinds.Text

abbrev pub short_sign : ℕ → Option Kind
short_sign byte =
    if byte == 40 then Some kinds.LeftParen else (if byte == 41 then Some kinds.RightParen
    else (if byte == 44 then Some kinds.Comma else (if byte == 46 then Some kinds.Dot
    else (if byte == 42 then Some kinds.Star else (if byte == 43 then Some kinds.Plus
    else (if byte == 45 then Some kinds.Minus else (if byte == 61 then Some kinds.Equal
    else (if byte == 60 then Some kinds.Less
    else (if byte == 62 then Some kinds.Greater else None)))))))))

abbrev pub long_sign : ℕ → ℕ → Option Kind
long_sign first second =
    if first == 60 then
    (if second == 61 then Some kinds.LessOrEqual
    else (if second == 62 then Some kinds.NotEqual else None))
    else (if second == 61 then
    (if first == 62 then Some kinds.GreaterOrEqual
    else (if first == 33 then Some kinds.NotEqual else None)) else None)

-- The sign of two bytes at the start of a text.
abbrev pub long_sign_at : List ℕ → Option Kind
long_sign_at [] = None
long_sign_at (first ∷ []) = None
long_sign_at (first ∷ (second ∷ bytes)) = long_sign first second

-- The sign that the bytes are.
abbrev pub sign_of : List ℕ → Option Kind
sign_of [] = None
sign_of (first ∷ []) = short_sign first
sign_of (first ∷ (second ∷ [])) = long_sign first second
sign_of (first ∷ (second ∷ (third ∷ bytes))) = None

-- The next byte makes no longer sign.
abbrev pub EndsSign : List ℕ → List ℕ → Type 0
EndsSign word [] = Unit {0}
EndsSign word (byte ∷ bytes) = sign_of (word ++ byte ∷ []) ≡ None

-- A sign, the longest that is there.
pub record IsSign (kind : Kind) (word rest : List ℕ) : Type 0 where
  pub sign : sign_of word ≡ Some kind
  pub longest : EndsSign word rest

-- What the first byte says of a token.
abbrev pub class_of : ℕ → Class
class_of byte =
    if is_letter byte then class.Letter else (if is_ascii_digit byte then class.Digit
    else (if byte == 39 then class.Quote else (if byte == 34 then class.NameQuote else class.Mark)))

abbrev pub IsOfClass : Class → Kind → List ℕ → List ℕ → Type 0
IsOfClass class.Letter kind word rest = IsWordToken kind word rest
IsOfClass class.Digit kind word rest = IsNumber kind word rest
IsOfClass class.Quote kind word rest = IsText kind word rest
IsOfClass class.NameQuote kind word rest = IsQuotedName kind word rest
IsOfClass class.Mark kind word rest = IsSign kind word rest

-- The word is a token of the kind, where the rest comes after it.
abbrev pub Is : Kind → List ℕ → List ℕ → Type 0
Is kind [] rest = ⊥
Is kind (byte ∷ bytes) rest = IsOfClass (class_of byte) kind (byte ∷ bytes) rest

-- Of the tokens of some sort the one at the start of the text, as its kind and its length.
abbrev pub Finds : (Kind → List ℕ → List ℕ → Type 0) → List ℕ → Option (Kind × ℕ) → Type 0
Finds IsSort text None = (kind : Kind) → NoneAt (IsSort kind) text
Finds IsSort text (Some found) = (word rest : List ℕ) × IsSort found.0 word rest
    × (text ≡ word ++ rest) × (length word ≡ found.1)
