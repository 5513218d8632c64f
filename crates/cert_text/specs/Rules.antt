-- Which lines follow one another, and what has been read by them.
use Rattle.std.specs.Prelude.{◌≡◌, ◌≢◌, ℕ, zero, suc, ◌+◌, ◌-◌, ◌^◌, ◌<◌, ◌≤◌, List, [], ◌∷◌, ◌++◌}
use Rattle.std.specs.Prelude.{map}
use Rattle.std.specs.Prelude.{length, ℤ, pos, neg_ℤ, Option, None, Some, Bool, true, false, drop}
use Rattle.std.specs.Prelude.{slice_index_or}
use Rattle.std.specs.List.{AllByRecursion}
use Rattle.lin_bound.specs.declared.mult.Mult.{Mult}
use Rattle.cert_tree.specs.declared.nodes.TreeNode.{TreeNode}
use Rattle.cert_tree.specs.declared.nodes.TreeNode.TheVariants.{Leaf as LeafNode}
use Rattle.cert_tree.specs.declared.nodes.TreeNode.TheVariants.{Split as SplitNode}
use Rattle.cert_tree.specs.declared.nodes.TreeNode.TheVariants.{Open as OpenNode}
use Rattle.cert_text.specs.declared.value.CertText.{CertText}
use Rattle.cert_text.specs.declared.value.Claim.{Claim}
use Rattle.cert_text.specs.declared.value.Claim.TheVariants.{Optimal as OptimalClaim}
use Rattle.cert_text.specs.declared.value.Claim.TheVariants.{Infeasible as InfeasibleClaim}
use Rattle.cert_text.specs.declared.value.Claim.TheVariants.{Undecided as UndecidedClaim}
use Rattle.cert_text.specs.declared.kinds.Kind.{Kind}
use Rattle.cert_text.specs.declared.kinds.Kind.TheVariants.{Header, Vars, Rows, Optimal}
use Rattle.cert_text.specs.declared.kinds.Kind.TheVariants.{OptimalMinus, Infeasible, Undecided}
use Rattle.cert_text.specs.declared.kinds.Kind.TheVariants.{UndecidedMinus, UndecidedNone, Package}
use Rattle.cert_text.specs.declared.kinds.Kind.TheVariants.{Pair, Close, Split, Open, End}
use Rattle.cert_text.specs.declared.kinds.Expect.{Expect}
use Rattle.cert_text.specs.declared.kinds.Expect.TheVariants.{AtHeader, AtVars, AtRows, AtClaim}
use Rattle.cert_text.specs.declared.kinds.Expect.TheVariants.{AtPackage, AtPairs, AtNodes, AtEnd}
use Rattle.cert_text.specs.declared.kinds.Expect.TheVariants.{Done}
use Rattle.cert_text.specs.Numbers.{AllWithin}
use Rattle.cert_text.specs.Lines.{Row, row, line_of, text_of}
use Rattle.cert_text.specs.Expected.{kinds, ranges, IsOneOf, after, first}
use Rattle.cert_text.specs.Certs.{claim_row, pair_row, node_row}

-- a line may come next
abbrev pub Follows : Expect → Kind → List ℕ → Type 0
Follows expect kind numbers = IsOneOf (kinds expect) kind × AllWithin (ranges expect kind) numbers

-- these lines may come next, and lead there
abbrev pub Leads : Expect → List Row → Expect → Type 0
Leads expect [] other = expect ≡ other
Leads expect (row ∷ rows) other =
    Follows expect row.kind row.numbers × Leads (after expect row.kind row.numbers) rows other

-- a line that may come is written so, or none is
abbrev pub IsRow : Expect → List ℕ → List ℕ → Option Kind → Type 0
IsRow expect line numbers (Some kind) = Follows expect kind numbers × (line ≡ line_of kind numbers)
IsRow expect line numbers None =
    (kind : Kind) (others : List ℕ) → Follows expect kind others → ¬ (line ≡ line_of kind others)

-- some line that may come begins so
abbrev pub BeginsRow : Expect → List ℕ → Type 0
BeginsRow expect text = (kind : Kind) × (numbers : List ℕ) × (more : List ℕ)
    × Follows expect kind numbers × (line_of kind numbers ≡ text ++ more)

abbrev pub BeginsAny : Expect → List ℕ → Bool → Type 0
BeginsAny expect text true = BeginsRow expect text
BeginsAny expect text false = ¬ BeginsRow expect text

-- a text is a line of a kind, or none is written so
abbrev pub RowIs : Expect → Kind → List ℕ → List ℕ → Bool → Type 0
RowIs expect kind line numbers true =
    AllWithin (ranges expect kind) numbers × (line ≡ line_of kind numbers)
RowIs expect kind line numbers false =
    (others : List ℕ) → AllWithin (ranges expect kind) others → ¬ (line ≡ line_of kind others)

-- some line of a kind begins so, or none does
abbrev pub RowBegins : Expect → Kind → List ℕ → Bool → Type 0
RowBegins expect kind text true = (numbers : List ℕ) × (more : List ℕ)
    × AllWithin (ranges expect kind) numbers × (line_of kind numbers ≡ text ++ more)
RowBegins expect kind text false = (numbers more : List ℕ)
    → AllWithin (ranges expect kind) numbers → ¬ (line_of kind numbers ≡ text ++ more)

-- no byte is a line feed
abbrev pub HasNoFeed : List ℕ → Type 0
HasNoFeed [] = Unit {0}
HasNoFeed (byte ∷ bytes) = (byte ≢ 10) × HasNoFeed bytes

-- the first line of a text, if it has a line feed
abbrev pub IsFirstLine : List ℕ → Option (List ℕ) → Type 0
IsFirstLine text (Some line) =
    HasNoFeed line × ((rest : List ℕ) × (text ≡ line ++ (10 ∷ rest)))
IsFirstLine text None = HasNoFeed text

-- the numbers from the second on, and so on
abbrev pub tail : List ℕ → List ℕ
tail [] = []
tail (number ∷ numbers) = numbers

-- the multipliers of a line
abbrev pub mult_of : List ℕ → Mult
mult_of numbers = record { d = first numbers; lambda = tail numbers }

-- the node of a split's line
abbrev pub split_of : List ℕ → TreeNode
split_of numbers =
    SplitNode (first numbers - 1) (first (tail numbers)) (mult_of (tail (tail numbers)))

abbrev pub AreWeights : List ℕ → Type 0
AreWeights numbers = AllByRecursion (λ number. number ≤ 2 ^ 30) numbers

abbrev pub IsSplitLine : List ℕ → Type 0
IsSplitLine numbers = (1 ≤ first numbers) × (first numbers < 2 ^ 32)
    × (first (tail (tail numbers)) ≤ 2 ^ 30) × AreWeights (tail (tail (tail numbers)))

-- the numbers of a line fit what they are kept in
abbrev pub Carries : Kind → List ℕ → Type 0
Carries Vars numbers = first numbers < 2 ^ 32
Carries Rows numbers = first numbers < 2 ^ 32
Carries Optimal numbers = first numbers ≤ 2 ^ 60
Carries OptimalMinus numbers = first numbers ≤ 2 ^ 60
Carries Undecided numbers = first numbers ≤ 2 ^ 60
Carries UndecidedMinus numbers = first numbers ≤ 2 ^ 60
Carries Close numbers = (first numbers ≤ 2 ^ 30) × AreWeights (tail numbers)
Carries Split numbers = IsSplitLine numbers
Carries kind numbers = Unit {0}

-- what is known after one more line
abbrev pub taken : CertText → Kind → List ℕ → CertText
taken cert Header numbers = cert
taken cert Vars numbers = record cert { vars = first numbers }
taken cert Rows numbers = record cert { rows = first numbers }
taken cert Optimal numbers = record cert { claim = OptimalClaim (pos (first numbers)) }
taken cert OptimalMinus numbers =
    record cert { claim = OptimalClaim (neg_ℤ (pos (first numbers))) }
taken cert Infeasible numbers = record cert { claim = InfeasibleClaim }
taken cert Undecided numbers = record cert { claim = UndecidedClaim (Some (pos (first numbers))) }
taken cert UndecidedMinus numbers =
    record cert { claim = UndecidedClaim (Some (neg_ℤ (pos (first numbers)))) }
taken cert UndecidedNone numbers = record cert { claim = UndecidedClaim None }
taken cert Package numbers = cert
taken cert Pair numbers =
    record cert { pairs = cert.pairs ++ (first numbers, first (tail numbers)) ∷ [] }
taken cert Close numbers = record cert { nodes = cert.nodes ++ LeafNode (mult_of numbers) ∷ [] }
taken cert Split numbers = record cert {
  nodes = cert.nodes ++ split_of numbers ∷ [];
}
taken cert Open numbers = record cert { nodes = cert.nodes ++ OpenNode ∷ [] }
taken cert End numbers = cert

-- the lines so far, by what may come and what is known
abbrev pub package_before : Claim → List (ℕ × ℕ) → ℕ → List Row
package_before (OptimalClaim value) pairs left =
    row Package ((length pairs + left) ∷ []) ∷ map pair_row pairs
package_before InfeasibleClaim pairs left = []
package_before (UndecidedClaim None) pairs left = []
package_before (UndecidedClaim (Some value)) pairs left =
    row Package ((length pairs + left) ∷ []) ∷ map pair_row pairs

abbrev pub rows_before : CertText → List Row → List Row
rows_before cert rows =
    row Header [] ∷ (row Vars (cert.vars ∷ []) ∷ (row Rows (cert.rows ∷ []) ∷ rows))

abbrev pub rows_until : Expect → CertText → List Row
rows_until AtHeader cert = []
rows_until AtVars cert = row Header [] ∷ []
rows_until AtRows cert = row Header [] ∷ (row Vars (cert.vars ∷ []) ∷ [])
rows_until (AtClaim rows) cert = rows_before cert []
rows_until (AtPackage rows) cert = rows_before cert (claim_row cert.claim ∷ [])
rows_until (AtPairs rows low left) cert =
    rows_before cert (claim_row cert.claim ∷ package_before cert.claim cert.pairs (suc left))
rows_until (AtNodes rows trees) cert =
    rows_before cert (claim_row cert.claim ∷ (package_before cert.claim cert.pairs 0
    ++ map node_row cert.nodes))
rows_until AtEnd cert =
    rows_before cert (claim_row cert.claim ∷ (package_before cert.claim cert.pairs 0
    ++ map node_row cert.nodes))
rows_until Done cert =
    rows_before cert (claim_row cert.claim ∷ (package_before cert.claim cert.pairs 0
    ++ (map node_row cert.nodes ++ row End [] ∷ [])))

-- the text of these lines was put after what was there
abbrev pub Puts : List ℕ → List ℕ → List Row → Type 0
Puts old new rows = new ≡ old ++ text_of rows
