-- The lines of a certificate text: words and numbers. A text is such lines, each with a line feed.
use Rattle.std.specs.Prelude.{◌≡◌, ℕ, List, [], ◌∷◌, ◌++◌, codes, length, All}
use Rattle.cert_text.specs.declared.kinds.Kind.{Kind}
use Rattle.cert_text.specs.declared.kinds.Kind.TheVariants.{Header, Vars, Rows, Optimal}
use Rattle.cert_text.specs.declared.kinds.Kind.TheVariants.{OptimalMinus, Infeasible, Undecided}
use Rattle.cert_text.specs.declared.kinds.Kind.TheVariants.{UndecidedMinus, UndecidedNone, Package}
use Rattle.cert_text.specs.declared.kinds.Kind.TheVariants.{Pair, Close, Split, Open, End}
use Rattle.cert_text.specs.Numbers.{listed}

-- the words of each kind of line; its numbers come after them
abbrev pub word : Kind → List ℕ
word Header = codes "PAQLCERT 1"
word Vars = codes "vars "
word Rows = codes "rows "
word Optimal = codes "claim optimal "
word OptimalMinus = codes "claim optimal -"
word Infeasible = codes "claim infeasible"
word Undecided = codes "claim undecided "
word UndecidedMinus = codes "claim undecided -"
word UndecidedNone = codes "claim undecided none"
word Package = codes "package "
word Pair = []
word Close = codes "C "
word Split = codes "S "
word Open = codes "O"
word End = codes "end"

pub record Row : Type 0 where
  pub kind : Kind
  pub numbers : List ℕ

abbrev pub row : Kind → List ℕ → Row
row kind numbers = record { kind = kind; numbers = numbers }

-- a line without its line feed
abbrev pub line_of : Kind → List ℕ → List ℕ
line_of kind numbers = word kind ++ listed numbers

abbrev pub text_of : List Row → List ℕ
text_of [] = []
text_of (row ∷ rows) = line_of row.kind row.numbers ++ (10 ∷ text_of rows)
