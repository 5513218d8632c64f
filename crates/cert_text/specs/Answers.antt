-- What a reader of certificate texts answers.
use Rattle.std.specs.Prelude.{◌≡◌, ◌≢◌, ◌⊎◌, ℕ, ◌+◌, ◌<◌, ◌≤◌, List, [], ◌∷◌, ◌++◌, length, take}
use Rattle.std.specs.Prelude.{Result, Ok, Err}
use Rattle.std.specs.List.{AllByRecursion}
use Rattle.cert_text.specs.declared.value.CertText.{CertText}
use Rattle.cert_text.specs.declared.value.Part.{Part}
use Rattle.cert_text.specs.declared.value.CertFault.{CertFault}
use Rattle.cert_text.specs.declared.value.CertFault.TheVariants.{BadHeader, BadLine, Truncated}
use Rattle.cert_text.specs.declared.value.CertFault.TheVariants.{Trailing, Memory}
use Rattle.cert_text.specs.Certs.{IsCert, cert_text, line_count}
use Rattle.cert_text.specs.declared.kinds.Expect.{Expect}
use Rattle.cert_text.specs.declared.kinds.Kind.{Kind}
use Rattle.cert_text.specs.Lines.{line_of}
use Rattle.cert_text.specs.Rules.{HasNoFeed, BeginsRow, Follows}

-- the text is a certificate's, and some bytes come after it
abbrev pub BeginsWith : List ℕ → CertText → List ℕ → Type 0
BeginsWith text cert rest = IsCert cert × (text ≡ cert_text cert ++ rest)

-- a certificate's text goes on after these bytes
abbrev pub GoesOn : List ℕ → CertText → List ℕ → Type 0
GoesOn bytes cert more = IsCert cert × (cert_text cert ≡ bytes ++ more)

-- a proper prefix of a certificate's text
abbrev pub IsTruncated : List ℕ → Type 0
IsTruncated text = (cert : CertText) × (more : List ℕ) × GoesOn text cert more × (more ≢ [])

-- bytes come after a certificate's text, on this line; lines are counted from `line` on
abbrev pub HasTrailing : List ℕ → ℕ → ℕ → Type 0
HasTrailing text line at = (cert : CertText) × (rest : List ℕ) × BeginsWith text cert rest
    × (rest ≢ []) × (at ≡ line + line_count cert)

-- whole lines, each with its line feed
abbrev pub lines_text : List (List ℕ) → List ℕ
lines_text [] = []
lines_text (line ∷ lines) = line ++ (10 ∷ lines_text lines)

-- one line, which has its line feed, or is the last one and has none
abbrev pub IsLine : List ℕ → List ℕ → Type 0
IsLine line rest = (bytes : List ℕ) × HasNoFeed bytes
    × ((line ≡ bytes ++ 10 ∷ []) ⊎ ((line ≡ bytes) × (rest ≡ [])))

-- The line after so many lines is bad: no certificate's text begins the text; some text goes on
-- after the lines before this one, and none after this one.
pub record IsBadLine (text : List ℕ) (count : ℕ) : Type 0 where
  pub lines : List (List ℕ)
  pub line : List ℕ
  pub rest : List ℕ
  pub split : text ≡ lines_text lines ++ (line ++ rest)
  pub number : length lines ≡ count
  pub fed : AllByRecursion HasNoFeed lines
  pub is_line : IsLine line rest
  pub not_whole : (cert : CertText) (others : List ℕ) → ¬ BeginsWith text cert others
  pub before : (cert : CertText) × (more : List ℕ) × GoesOn (lines_text lines) cert more
  pub none : (cert : CertText) (more : List ℕ) → ¬ GoesOn (lines_text lines ++ line) cert more

-- Why no certificate's text begins a text whose lines are counted from `line` on.
abbrev pub IsFault : List ℕ → ℕ → CertFault → Type 0
IsFault text line BadHeader = IsBadLine text 0
IsFault text line (BadLine at) = (count : ℕ) × (0 < count) × (at ≡ line + count)
    × IsBadLine text count
IsFault text line Truncated = IsTruncated text
IsFault text line (Trailing at) = ⊥
IsFault text line (Memory fault) = Unit {0}

-- what is answered for the certificate at the beginning of a text
abbrev pub IsPart : List ℕ → ℕ → Result Part CertFault → Type 0
IsPart text line (Ok part) = IsCert part.cert × (part.end ≤ length text)
    × (take part.end text ≡ cert_text part.cert) × (part.line ≡ line + line_count part.cert)
IsPart text line (Err fault) = IsFault text line fault

-- what is answered for a text that is to be one certificate
abbrev pub IsRead : List ℕ → Result CertText CertFault → Type 0
IsRead text (Ok cert) = BeginsWith text cert []
IsRead text (Err (Trailing at)) = HasTrailing text 1 at
IsRead text (Err BadHeader) = IsFault text 1 BadHeader
IsRead text (Err (BadLine at)) = IsFault text 1 (BadLine at)
IsRead text (Err Truncated) = IsFault text 1 Truncated
IsRead text (Err (Memory fault)) = Unit {0}

-- what may be answered for the text of this certificate: it, or that there is no memory
abbrev pub IsAnswerOf : CertText → Result CertText CertFault → Type 0
IsAnswerOf cert (Ok other) = other ≡ cert
IsAnswerOf cert (Err BadHeader) = ⊥
IsAnswerOf cert (Err (BadLine at)) = ⊥
IsAnswerOf cert (Err Truncated) = ⊥
IsAnswerOf cert (Err (Trailing at)) = ⊥
IsAnswerOf cert (Err (Memory fault)) = Unit {0}

-- The text of a certificate has no fault.
abbrev pub WholesAreRead : Type 0
WholesAreRead = (cert : CertText) (answer : Result CertText CertFault)
    → IsCert cert → IsRead (cert_text cert) answer → IsAnswerOf cert answer

-- A text is of one certificate at most, and none is a proper prefix of another.
abbrev pub TextsAreApart : Type 0
TextsAreApart = (one other : CertText) (rest : List ℕ)
    → IsCert one → BeginsWith (cert_text one) other rest → (one ≡ other) × (rest ≡ [])

-- no line that may come is the first one of a text, or begins with the whole of it
abbrev pub IsBadNext : Expect → List ℕ → Type 0
IsBadNext expect rest =
    (HasNoFeed rest × (¬ BeginsRow expect rest))
    ⊎ ((now : List ℕ) × (more : List ℕ) × HasNoFeed now × (rest ≡ now ++ (10 ∷ more))
    × ((kind : Kind) (numbers : List ℕ) → Follows expect kind numbers
    → ¬ (now ≡ line_of kind numbers)))

-- the fault of a bad line after so many others
abbrev pub IsBadAt : ℕ → ℕ → CertFault → Type 0
IsBadAt line count BadHeader = count ≡ 0
IsBadAt line count (BadLine at) = (0 < count) × (at ≡ line + count)
IsBadAt line count Truncated = ⊥
IsBadAt line count (Trailing at) = ⊥
IsBadAt line count (Memory fault) = ⊥

-- why there is no next line
abbrev pub IsNextFault : Expect → List ℕ → ℕ → ℕ → CertFault → Type 0
IsNextFault expect rest line count Truncated = BeginsRow expect rest
IsNextFault expect rest line count (Memory fault) = Unit {0}
IsNextFault expect rest line count BadHeader = (count ≡ 0) × IsBadNext expect rest
IsNextFault expect rest line count (BadLine at) =
    (0 < count) × (at ≡ line + count) × IsBadNext expect rest
IsNextFault expect rest line count (Trailing at) = ⊥

-- the next line, and how many bytes it has with its line feed
abbrev pub IsNextRow : Expect → List ℕ → List ℕ → Kind → ℕ → Type 0
IsNextRow expect rest numbers kind size = (more : List ℕ) × Follows expect kind numbers
    × (rest ≡ line_of kind numbers ++ (10 ∷ more)) × (size ≡ length (line_of kind numbers) + 1)

abbrev pub IsNextAnswer : Expect → List ℕ → ℕ → ℕ → List ℕ → Result (Kind × ℕ) CertFault
    → Type 0
IsNextAnswer expect rest line count numbers (Ok both) =
    IsNextRow expect rest numbers both.0 both.1
IsNextAnswer expect rest line count numbers (Err fault) = IsNextFault expect rest line count fault
