-- The line that tells a verdict.
use Rattle.std.specs.Prelude.{ℕ, ℤ, Bool, true, false, List, [], ◌∷◌, ◌++◌, map, codes}
use Rattle.std.specs.Fmt.{decimal, signed_decimal}
use Rattle.cert_checker.specs.declared.answer.Reason.{Reason}
use Rattle.cert_checker.specs.declared.answer.Reason.TheVariants.{NotClosed, BadSplit, OpenLeaf}
use Rattle.cert_checker.specs.declared.answer.Reason.TheVariants.{BadMult}
use Rattle.package_judge.specs.declared.judging.Place.{Place}
use Rattle.package_judge.specs.declared.judging.Place.TheVariants.{Id, Where, Repeat, Conjunct}
use Rattle.answer_check.specs.declared.verdict.BadText.{BadText}
use Rattle.answer_check.specs.declared.verdict.BadText.TheVariants.{Header, Line, Truncated}
use Rattle.answer_check.specs.declared.verdict.BadText.TheVariants.{Trailing}
use Rattle.answer_check.specs.declared.verdict.Verdict.{Verdict}
use Rattle.answer_check.specs.declared.verdict.Verdict.TheVariants.{BadCert, Shape, Package}
use Rattle.answer_check.specs.declared.verdict.Verdict.TheVariants.{Value, Fault, Valid}

abbrev pub bad_words : BadText → List ℕ
bad_words Header = codes "header"
bad_words (Line number) = codes "line " ++ decimal number
bad_words Truncated = codes "truncated"
bad_words (Trailing number) = codes "trailing " ++ decimal number

abbrev pub place_words : Place → List ℕ
place_words (Id id) = codes "id " ++ decimal id
place_words (Where id) = codes "where " ++ decimal id
place_words (Repeat id) = codes "repeat " ++ decimal id
place_words (Conjunct number) = codes "conjunct " ++ decimal number

-- two numbers with a blank between them
abbrev pub two_numbers : ℤ → ℤ → List ℕ
two_numbers one other = signed_decimal one ++ (codes " " ++ signed_decimal other)

-- L for a lower half, R for an upper one
abbrev pub letter : Bool → ℕ
letter false = 76
letter true = 82

abbrev pub reason_words : Reason → List ℕ
reason_words (NotClosed bound target) = codes "notclosed " ++ two_numbers bound target
reason_words BadSplit = codes "badsplit"
reason_words OpenLeaf = codes "open"
reason_words BadMult = codes "badmult"

abbrev pub words : Verdict → List ℕ
words (BadCert bad) = codes "BADCERT " ++ bad_words bad
words Shape = codes "INVALID shape"
words (Package place) = codes "INVALID package " ++ place_words place
words (Value said other) = codes "INVALID value " ++ two_numbers said other
words (Fault path reason) =
    codes "INVALID ." ++ (map letter path ++ (codes " " ++ reason_words reason))
words Valid = codes "VALID"

-- with its line feed
abbrev pub line_of : Verdict → List ℕ
line_of verdict = words verdict ++ 10 ∷ []
