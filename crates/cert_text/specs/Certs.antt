-- What a certificate text says, and its text.
use Rattle.std.specs.Prelude.{◌≡◌, ℕ, suc, ◌+◌, ◌^◌, ◌<◌, ◌≤◌, List, [], ◌∷◌, ◌++◌, map, length}
use Rattle.std.specs.Prelude.{ℤ, pos, negsuc, Option, None, Some}
use Rattle.std.specs.List.{AllByRecursion}
use Rattle.std.specs.Int.RustNames.{unsigned_abs}
use Rattle.lin_bound.specs.declared.mult.Mult.{Mult}
use Rattle.cert_tree.specs.Trees.{IsWhole}
use Rattle.cert_tree.specs.declared.nodes.TreeNode.{TreeNode}
use Rattle.cert_tree.specs.declared.nodes.TreeNode.TheVariants.{Leaf as LeafNode}
use Rattle.cert_tree.specs.declared.nodes.TreeNode.TheVariants.{Split as SplitNode}
use Rattle.cert_tree.specs.declared.nodes.TreeNode.TheVariants.{Open as OpenNode}
use Rattle.cert_text.specs.declared.value.CertText.{CertText}
use Rattle.cert_text.specs.declared.value.Claim.{Claim}
use Rattle.cert_text.specs.declared.value.Claim.TheVariants.{Optimal as OptimalClaim}
use Rattle.cert_text.specs.declared.value.Claim.TheVariants.{Infeasible as InfeasibleClaim}
use Rattle.cert_text.specs.declared.value.Claim.TheVariants.{Undecided as UndecidedClaim}
use Rattle.cert_text.specs.declared.kinds.Kind.{Kind}
use Rattle.cert_text.specs.declared.kinds.Kind.TheVariants.{Header, Vars, Rows, Optimal}
use Rattle.cert_text.specs.declared.kinds.Kind.TheVariants.{OptimalMinus, Infeasible, Undecided}
use Rattle.cert_text.specs.declared.kinds.Kind.TheVariants.{UndecidedMinus, UndecidedNone, Package}
use Rattle.cert_text.specs.declared.kinds.Kind.TheVariants.{Pair, Close, Split, Open, End}
use Rattle.cert_text.specs.Lines.{Row, row, text_of}

-- the certificate of these parts
abbrev pub cert_with : ℕ → ℕ → Claim → List (ℕ × ℕ) → List TreeNode → CertText
cert_with vars rows claim pairs nodes =
    record { vars = vars; rows = rows; claim = claim; pairs = pairs; nodes = nodes }

-- a value is at most 2^60 in size
abbrev pub IsClaim : Claim → Type 0
IsClaim (OptimalClaim value) = unsigned_abs value ≤ 2 ^ 60
IsClaim InfeasibleClaim = Unit {0}
IsClaim (UndecidedClaim None) = Unit {0}
IsClaim (UndecidedClaim (Some value)) = unsigned_abs value ≤ 2 ^ 60

-- ids ascend from a least one and are at most 10^12, and so are counts, from 1 on
abbrev pub RiseFrom : ℕ → List (ℕ × ℕ) → Type 0
RiseFrom low [] = Unit {0}
RiseFrom low (pair ∷ pairs) = (low ≤ pair.0) × (pair.0 ≤ 10 ^ 12) × (1 ≤ pair.1)
    × (pair.1 ≤ 10 ^ 12) × RiseFrom (pair.0 + 1) pairs

-- a claim without a value has no pairs
abbrev pub HasPairs : Claim → List (ℕ × ℕ) → Type 0
HasPairs (OptimalClaim value) pairs = RiseFrom 0 pairs
HasPairs InfeasibleClaim pairs = pairs ≡ []
HasPairs (UndecidedClaim None) pairs = pairs ≡ []
HasPairs (UndecidedClaim (Some value)) pairs = RiseFrom 0 pairs

-- one multiplier a row and one of the cost, each at most 2^30
pub record IsMult (rows : ℕ) (mult : Mult) : Type 0 where
  pub each : length mult.lambda ≡ rows
  pub cost : mult.d ≤ 2 ^ 30
  pub small : AllByRecursion (λ multiplier. multiplier ≤ 2 ^ 30) mult.lambda

-- a variable's number in the text, one more than its place, is below 2^32
abbrev pub IsNode : ℕ → TreeNode → Type 0
IsNode rows (LeafNode mult) = IsMult rows mult
IsNode rows (SplitNode var at mult) =
    (var + 1 < 2 ^ 32) × (at ≤ 10 ^ 12) × IsMult rows mult
IsNode rows OpenNode = Unit {0}

-- what can be written
pub record IsCert (cert : CertText) : Type 0 where
  pub vars : cert.vars < 2 ^ 32
  pub rows : cert.rows ≤ 64
  pub claim : IsClaim cert.claim
  pub pairs : HasPairs cert.claim cert.pairs
  pub nodes : AllByRecursion (IsNode cert.rows) cert.nodes
  pub whole : IsWhole 1 cert.nodes

-- the line of a value, which has a minus if it is below 0
abbrev pub value_row : Kind → Kind → ℤ → Row
value_row plain minus (pos magnitude) = row plain (magnitude ∷ [])
value_row plain minus (negsuc before) = row minus (suc before ∷ [])

abbrev pub claim_row : Claim → Row
claim_row (OptimalClaim value) = value_row Optimal OptimalMinus value
claim_row InfeasibleClaim = row Infeasible []
claim_row (UndecidedClaim None) = row UndecidedNone []
claim_row (UndecidedClaim (Some value)) = value_row Undecided UndecidedMinus value

abbrev pub pair_row : ℕ × ℕ → Row
pair_row pair = row Pair (pair.0 ∷ (pair.1 ∷ []))

-- a claim with a value is followed by a package
abbrev pub package_rows : Claim → List (ℕ × ℕ) → List Row
package_rows (OptimalClaim value) pairs = row Package (length pairs ∷ []) ∷ map pair_row pairs
package_rows InfeasibleClaim pairs = []
package_rows (UndecidedClaim None) pairs = []
package_rows (UndecidedClaim (Some value)) pairs =
    row Package (length pairs ∷ []) ∷ map pair_row pairs

abbrev pub node_row : TreeNode → Row
node_row (LeafNode mult) = row Close (mult.d ∷ mult.lambda)
node_row (SplitNode var at mult) = row Split ((var + 1) ∷ (at ∷ (mult.d ∷ mult.lambda)))
node_row OpenNode = row Open []

-- the lines of a certificate
abbrev pub rows_of : CertText → List Row
rows_of cert =
    row Header [] ∷ (row Vars (cert.vars ∷ []) ∷ (row Rows (cert.rows ∷ []) ∷
    (claim_row cert.claim ∷ (package_rows cert.claim cert.pairs ++
    (map node_row cert.nodes ++ row End [] ∷ [])))))

-- its text, and how many lines that has
abbrev pub cert_text : CertText → List ℕ
cert_text cert = text_of (rows_of cert)

abbrev pub line_count : CertText → ℕ
line_count cert = length (rows_of cert)
