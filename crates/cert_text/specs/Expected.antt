-- What may come after some lines of a certificate text.
use Rattle.std.specs.Prelude.{◌≡◌, ◌⊎◌, ℕ, zero, suc, ◌+◌, ◌-◌, ◌^◌, ◌<◌, ◌≤◌, List, [], ◌∷◌}
use Rattle.std.specs.Prelude.{replicate}
use Rattle.cert_text.specs.declared.numbers.Range.{Range}
use Rattle.cert_text.specs.declared.kinds.Kind.{Kind}
use Rattle.cert_text.specs.declared.kinds.Kind.TheVariants.{Header, Vars, Rows, Optimal}
use Rattle.cert_text.specs.declared.kinds.Kind.TheVariants.{OptimalMinus, Infeasible, Undecided}
use Rattle.cert_text.specs.declared.kinds.Kind.TheVariants.{UndecidedMinus, UndecidedNone, Package}
use Rattle.cert_text.specs.declared.kinds.Kind.TheVariants.{Pair, Close, Split, Open, End}
use Rattle.cert_text.specs.declared.kinds.Expect.{Expect}
use Rattle.cert_text.specs.declared.kinds.Expect.TheVariants.{AtHeader, AtVars, AtRows, AtClaim}
use Rattle.cert_text.specs.declared.kinds.Expect.TheVariants.{AtPackage, AtPairs, AtNodes, AtEnd}
use Rattle.cert_text.specs.declared.kinds.Expect.TheVariants.{Done}

abbrev pub range : ℕ → ℕ → Range
range low high = record { low = low; high = high }

abbrev pub weight_range : Range
weight_range = range 0 (2 ^ 30)

-- how many rows the problem has, if that has been said
abbrev pub rows_in : Expect → ℕ
rows_in (AtClaim rows) = rows
rows_in (AtPackage rows) = rows
rows_in (AtPairs rows low left) = rows
rows_in (AtNodes rows trees) = rows
rows_in expect = 0

-- the next id leaves room for those after it
abbrev pub id_range : Expect → Range
id_range (AtPairs rows low left) = range low (10 ^ 12 - left)
id_range expect = range 0 0

-- the ranges of the numbers of a line
abbrev pub ranges : Expect → Kind → List Range
ranges expect Header = []
ranges expect Vars = range 0 (2 ^ 32 - 1) ∷ []
ranges expect Rows = range 0 64 ∷ []
ranges expect Optimal = range 0 (2 ^ 60) ∷ []
ranges expect OptimalMinus = range 1 (2 ^ 60) ∷ []
ranges expect Infeasible = []
ranges expect Undecided = range 0 (2 ^ 60) ∷ []
ranges expect UndecidedMinus = range 1 (2 ^ 60) ∷ []
ranges expect UndecidedNone = []
ranges expect Package = range 0 (10 ^ 12 + 1) ∷ []
ranges expect Pair = id_range expect ∷ (range 1 (10 ^ 12) ∷ [])
ranges expect Close = weight_range ∷ replicate (rows_in expect) weight_range
ranges expect Split = range 1 (2 ^ 32 - 1) ∷ (range 0 (10 ^ 12) ∷
    (weight_range ∷ replicate (rows_in expect) weight_range))
ranges expect Open = []
ranges expect End = []

-- the kinds of lines that may come
abbrev pub kinds : Expect → List Kind
kinds AtHeader = Header ∷ []
kinds AtVars = Vars ∷ []
kinds AtRows = Rows ∷ []
kinds (AtClaim rows) = Optimal ∷ (OptimalMinus ∷ (Infeasible ∷
    (UndecidedNone ∷ (Undecided ∷ (UndecidedMinus ∷ [])))))
kinds (AtPackage rows) = Package ∷ []
kinds (AtPairs rows low left) = Pair ∷ []
kinds (AtNodes rows trees) = Close ∷ (Split ∷ (Open ∷ []))
kinds AtEnd = End ∷ []
kinds Done = []

abbrev pub IsOneOf : List Kind → Kind → Type 0
IsOneOf [] kind = ⊥
IsOneOf (one ∷ others) kind = (kind ≡ one) ⊎ IsOneOf others kind

-- nodes of trees still to come, after which the end comes
abbrev pub nodes_or_end : ℕ → ℕ → Expect
nodes_or_end rows zero = AtEnd
nodes_or_end rows (suc trees) = AtNodes rows trees

-- pairs still to come, after which the nodes of one tree come
abbrev pub pairs_or_nodes : ℕ → ℕ → ℕ → Expect
pairs_or_nodes rows low zero = AtNodes rows 0
pairs_or_nodes rows low (suc left) = AtPairs rows low left

abbrev pub first : List ℕ → ℕ
first [] = 0
first (number ∷ numbers) = number

-- what may come after one more line
abbrev pub after : Expect → Kind → List ℕ → Expect
after expect Header numbers = AtVars
after expect Vars numbers = AtRows
after expect Rows numbers = AtClaim (first numbers)
after expect Optimal numbers = AtPackage (rows_in expect)
after expect OptimalMinus numbers = AtPackage (rows_in expect)
after expect Infeasible numbers = AtNodes (rows_in expect) 0
after expect Undecided numbers = AtPackage (rows_in expect)
after expect UndecidedMinus numbers = AtPackage (rows_in expect)
after expect UndecidedNone numbers = AtNodes (rows_in expect) 0
after expect Package numbers = pairs_or_nodes (rows_in expect) 0 (first numbers)
after (AtPairs rows low left) Pair numbers = pairs_or_nodes rows (first numbers + 1) left
after (AtNodes rows trees) Close numbers = nodes_or_end rows trees
after (AtNodes rows trees) Split numbers = AtNodes rows (trees + 1)
after (AtNodes rows trees) Open numbers = nodes_or_end rows trees
after expect Pair numbers = Done
after expect Close numbers = Done
after expect Split numbers = Done
after expect Open numbers = Done
after expect End numbers = Done

-- rows are at most 64, and ids leave room for those after them
abbrev pub IsSound : Expect → Type 0
IsSound AtHeader = Unit {0}
IsSound AtVars = Unit {0}
IsSound AtRows = Unit {0}
IsSound (AtClaim rows) = rows ≤ 64
IsSound (AtPackage rows) = rows ≤ 64
IsSound (AtPairs rows low left) = (rows ≤ 64) × (low + left ≤ 10 ^ 12)
IsSound (AtNodes rows trees) = rows ≤ 64
IsSound AtEnd = Unit {0}
IsSound Done = Unit {0}

-- how many trees come after the next one
abbrev pub trees_in : Expect → ℕ
trees_in (AtNodes rows trees) = trees
trees_in expect = 0

-- each range holds some number, and no number of it has more than 19 digits
abbrev pub AreGood : List Range → Type 0
AreGood [] = Unit {0}
AreGood (range ∷ ranges) = (range.low ≤ range.high) × (range.high < 10 ^ 19) × AreGood ranges
