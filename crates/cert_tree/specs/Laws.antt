-- Private: the laws in `src/laws.rt`, which the search and the engine cite.
-- The laws of certificates.
use Rattle.std.specs.Prelude.{◌≡◌, ◌≢◌, ◌⊎◌, ℕ, List, [], ℤ, ◌≤ℤ◌, Option, None, Some, All}
use Rattle.std.specs.Prelude.{Contains, length}
use Rattle.lin_bound.specs.Problem.{ProblemData, cost_at, IsFeasible, IsLegal}
use Rattle.lin_bound.specs.Box.{box_at, Splits, lower}
use Rattle.lin_bound.specs.Bound.{Closes}
use Rattle.lin_bound.specs.declared.path.Branch.{Branch}
use Rattle.cert_tree.specs.declared.nodes.TreeNode.{TreeNode}
use Rattle.cert_tree.specs.declared.records.Act.{Act}
use Rattle.cert_tree.specs.declared.records.Act.TheVariants.{Closed, Split}
use Rattle.cert_tree.specs.declared.records.Record.{Record}
use Rattle.cert_tree.specs.Trees.{IsAssembled}
use Rattle.cert_tree.specs.Multipliers.{ActIsLegal, HasLegalMult}
use Rattle.cert_tree.specs.Certificates.{IsCertificate}
use Rattle.cert_tree.specs.Partial.{PlainlyOpen, IsPartialCertificate, value_or_floor, tree_tops}
use Rattle.cert_tree.specs.Partial.{most_left}

-- Where a tree certifies the value of a feasible point, no feasible point is greater.
abbrev pub CertifiedIsBest : Type 0
CertifiedIsBest = (p : ProblemData) (nodes : List TreeNode) (best x : List ℕ)
    → IsLegal p → IsFeasible p best → IsCertificate p nodes (Some (cost_at p best)) → IsFeasible p x
    → cost_at p x ≤ℤ cost_at p best

-- Where a tree certifies that there is no value, no point is feasible.
abbrev pub CertifiedIsEmpty : Type 0
CertifiedIsEmpty = (p : ProblemData) (nodes : List TreeNode) (x : List ℕ)
    → IsLegal p → IsCertificate p nodes None → ¬ IsFeasible p x

-- No feasible point is greater than what a partial certificate leaves possible.
abbrev pub PartialBounds : Type 0
PartialBounds = (p : ProblemData) (nodes : List TreeNode) (done : ℕ) (best : Option ℤ) (x : List ℕ)
    → IsLegal p → IsPartialCertificate done p nodes best → IsFeasible p x
    → cost_at p x ≤ℤ most_left p nodes best

-- a number is the greatest of a value and some tops: it is one of them, and none is above it
pub record IsGreatestOf (value : ℤ) (tops : List ℤ) (most : ℤ) : Type 0 where
  pub one_of : (most ≡ value) ⊎ Contains tops most
  pub at_least : value ≤ℤ most
  pub over_each : All (λ (top : ℤ). top ≤ℤ most) tops

-- What a tree leaves possible is the greatest of the value and the tops of its open leaves.
abbrev pub MostLeftIsGreatest : Type 0
MostLeftIsGreatest = (p : ProblemData) (nodes : List TreeNode) (best : Option ℤ)
    → IsGreatestOf (value_or_floor best) (tree_tops p nodes) (most_left p nodes best)

-- a closed record is closed at its box, and a split one divides it
abbrev pub IsRight : ProblemData → Option ℤ → List Branch → Act → Type 0
IsRight p best path (Closed mult) = Closes p (box_at p path) mult best
IsRight p best path (Split var at mult) = Splits (lower var at) (box_at p path)

-- Where nothing is left, and each record is right, the tree assembled of them is a certificate.
abbrev pub AssembledCertifies : Type 0
AssembledCertifies =
    (p : ProblemData) (best : Option ℤ) (records : List Record) (nodes : List TreeNode)
    → IsAssembled records [] nodes
    → All (λ (done : Record). IsRight p best done.path done.act) records
    → IsCertificate p nodes best

-- as before, and each box that is split was plainly open for the value seen for it
abbrev pub IsPlainlyRight : ProblemData → Option ℤ → Option ℤ → List Branch → Act → Type 0
IsPlainlyRight p best seen path (Closed mult) = Closes p (box_at p path) mult best
IsPlainlyRight p best seen path (Split var at mult) =
    Splits (lower var at) (box_at p path) × PlainlyOpen p (box_at p path) seen

-- and some value was seen for it, or that there was none
abbrev pub WasPlainlyRight : ProblemData → Option ℤ → Record → Type 0
WasPlainlyRight p best done = (seen : Option ℤ) × IsPlainlyRight p best seen done.path done.act

-- If some path is left, it is a partial certificate of as many nodes as there are records,
-- whatever value was seen for each box that was split.
abbrev pub AssembledPartly : Type 0
AssembledPartly =
    (p : ProblemData) (best : Option ℤ) (records : List Record) (left : List (List Branch))
    (nodes : List TreeNode)
    → IsAssembled records left nodes → All (WasPlainlyRight p best) records → left ≢ []
    → IsPartialCertificate (length records) p nodes best

-- Where the multipliers of each record are legal, so are those of each node of the tree assembled
-- of them.
abbrev pub AssembledLegal : Type 0
AssembledLegal = (p : ProblemData) (records : List Record) (left : List (List Branch))
    (nodes : List TreeNode)
    → IsAssembled records left nodes → All (λ (done : Record). ActIsLegal p done.act) records
    → All (HasLegalMult p) nodes
