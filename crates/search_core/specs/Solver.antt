-- Private: the contract of `Solver::solve`; what its answer means for a query is in `paql_engine`.
-- What a solver answers.
use Rattle.std.specs.Prelude.{◌≡◌, ◌≢◌, ℕ, ◌-◌, ◌*◌, ◌≤◌, List, [], ◌∷◌, length, All, ℤ, Option}
use Rattle.std.specs.Prelude.{None, Some}
use Rattle.lin_bound.specs.Problem.{ProblemData, variables, cost_at, IsLegal, IsFeasible}
use Rattle.lin_bound.specs.Box.{whole_box}
use Rattle.cert_tree.specs.declared.nodes.TreeNode.{TreeNode}
use Rattle.cert_tree.specs.Trees.{IsAssembled}
use Rattle.cert_tree.specs.Counts.{points_below}
use Rattle.cert_tree.specs.Multipliers.{HasLegalMult}
use Rattle.cert_tree.specs.Certificates.{IsCertificate}
use Rattle.cert_tree.specs.Partial.{PartlyCertify, IsPartialCertificate, most_left}
use Rattle.search_core.specs.Search.{Found, IsFound, value_in}
use Rattle.search_core.specs.Core.{CoreState}
use Rattle.search_core.specs.Solo.{Reaches}
use Rattle.search_core.specs.declared.solved.Solved.{Solved}
use Rattle.search_core.specs.declared.solved.Solved.TheVariants.{Best, NoneExists, Undecided}

-- the tree certifies the value, or that there is none, with no more nodes than the budget and legal
-- multipliers, and each box that is split was plainly open for no value
pub record IsProven (budget : ℕ) (p : ProblemData) (nodes : List TreeNode)
    (best : Option ℤ) : Type 0 where
  pub certificate : IsCertificate p nodes best
  pub plainly : PartlyCertify p best (whole_box p ∷ []) nodes
  pub few : length nodes ≤ budget
  pub mults : All (HasLegalMult p) nodes

-- the tree is a partial certificate of the whole budget with legal multipliers, and the bound is
-- what it leaves possible
pub record IsUndecided (budget : ℕ) (p : ProblemData) (best : Option Found) (bound : ℤ)
    (nodes : List TreeNode) : Type 0 where
  pub found : IsFound p best
  pub partly : IsPartialCertificate budget p nodes (value_in best)
  pub bound_is : bound ≡ most_left p nodes (value_in best)
  pub mults : All (HasLegalMult p) nodes

-- The answer is right: a best point has a certificate for its value, none exists where there is a
-- certificate for no value, and undecided means that the whole budget was spent and a leaf is open.
abbrev pub IsSolved : ProblemData → ℕ → Solved → Type 0
IsSolved p budget (Best value point tree) =
    IsFeasible p point × (cost_at p point ≡ value) × IsProven budget p tree (Some value)
IsSolved p budget (NoneExists tree) = IsProven budget p tree None
IsSolved p budget (Undecided best bound tree) = IsUndecided budget p best bound tree

-- what a search ended with: nothing is in hand, and the tree is assembled of what was recorded and
-- what is left
pub record IsEnd (end : CoreState) (best : Option Found) (nodes : List TreeNode) : Type 0 where
  pub idle : end.hands ≡ []
  pub best_is : end.best ≡ best
  pub assembled : IsAssembled end.records end.left nodes

abbrev pub IsEndOf : CoreState → Solved → Type 0
IsEndOf end (Best value point tree) = IsEnd end (Some (value, point)) tree × (end.left ≡ [])
IsEndOf end (NoneExists tree) = IsEnd end None tree × (end.left ≡ [])
IsEndOf end (Undecided best bound tree) = IsEnd end best tree × (end.left ≢ [])

-- the answer is what a list of events leads to
abbrev pub IsSearched : ProblemData → CoreState → Solved → Type 0
IsSearched p before solved = (end : CoreState) × Reaches p before end × IsEndOf end solved

-- the answer says what the problem comes to
abbrev pub IsDecided : Solved → Type 0
IsDecided (Best value point tree) = Unit {0}
IsDecided (NoneExists tree) = Unit {0}
IsDecided (Undecided best bound tree) = ⊥

-- A budget of twice as many nodes as there are points, less one, decides.
abbrev pub EnoughDecides : Type 0
EnoughDecides = (p : ProblemData) (budget : ℕ) (solved : Solved)
    → IsLegal p → 2 * points_below p.upper (variables p) - 1 ≤ budget → IsSolved p budget solved
    → IsDecided solved
