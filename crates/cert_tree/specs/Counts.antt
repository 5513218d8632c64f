-- Private: the law that a partial certificate has few nodes.
-- How many nodes a tree can have.
use Rattle.std.specs.Prelude.{ℕ, zero, suc, ◌+◌, ◌*◌, ◌-◌, ◌≤◌, List, [], ◌∷◌, length, ℤ, Option}
use Rattle.lin_bound.specs.Sums.{nat_at}
use Rattle.lin_bound.specs.Problem.{ProblemData, variables, IsLegal}
use Rattle.lin_bound.specs.Box.{whole_box}
use Rattle.cert_tree.specs.declared.nodes.TreeNode.{TreeNode}
use Rattle.cert_tree.specs.Partial.{PartlyCertify}

-- how many points the first n variables have
abbrev pub points_below : List ℕ → ℕ → ℕ
points_below upper zero = 1
points_below upper (suc n) = points_below upper n * (nat_at upper n + 1)

-- A tree whose leaves are all boxes of the problem has fewer than twice as many nodes as there are
-- points.
abbrev pub NodesAreFew : Type 0
NodesAreFew = (p : ProblemData) (best : Option ℤ) (nodes : List TreeNode)
    → IsLegal p → PartlyCertify p best (whole_box p ∷ []) nodes
    → length nodes ≤ 2 * points_below p.upper (variables p) - 1
