-- Nodes that are written one after another, and the trees still to come.
use Rattle.std.proofs.Common.{◌≡◌, ℕ, zero, suc, ◌+◌, ◌-◌, ◌<◌, List, [], ◌∷◌, ◌++◌, All, append_assoc, subst, add-one, arith}
use Rattle.lin_bound.specs.declared.mult.Mult.{Mult}
use Rattle.std.proofs.lemmas.List.{append-nil}
use Rattle.std.proofs.lemmas.List.Elements.{All-append, All-cons, All-nil}
use Rattle.lin_bound.specs.Problem.{ProblemData, row_count}
use Rattle.cert_tree.specs.Trees.{IsWhole}
use Rattle.cert_tree.specs.Multipliers.{HasLegalMult}
use Rattle.cert_tree.specs.declared.nodes.TreeNode.{TreeNode}
use Rattle.cert_tree.specs.declared.nodes.TreeNode.TheVariants.{Leaf, Split, Open}

-- with so many trees after them the nodes are one tree, and each has legal multipliers
pub record IsGrowing (nodes : List TreeNode) (trees : ℕ) : Type 0 where
  pub whole : (rest : List TreeNode) → IsWhole trees rest → IsWhole 1 (nodes ++ rest)
  pub legal : (p : ProblemData) → row_count p ≡ 2 → All (HasLegalMult p) nodes

pub none_yet : IsGrowing [] 1
none_yet = record { whole = λ rest whole. whole; legal = λ p two. All-nil (HasLegalMult p) }

pub one_more : (nodes : List TreeNode) (node : TreeNode) (trees after : ℕ)
    → ((rest : List TreeNode) → IsWhole after rest → IsWhole trees (node ∷ rest))
    → ((p : ProblemData) → row_count p ≡ 2 → HasLegalMult p node)
    → IsGrowing nodes trees → IsGrowing (nodes ++ node ∷ []) after
one_more nodes node trees after counts legal growing =
    record {
      whole = λ rest whole. rw append_assoc (growing.whole (node ∷ rest) (counts rest whole));
      legal = λ p two. All-append (HasLegalMult p) nodes (node ∷ []) (growing.legal p two) (All-cons (HasLegalMult p) node [] (legal p two) (All-nil (HasLegalMult p)));
    }

pub all_there : (nodes : List TreeNode) → IsGrowing nodes 0 → IsWhole 1 nodes
all_there nodes growing = subst (IsWhole 1) (append-nil nodes) (growing.whole [] tt)

-- what the trees still to come are after a node
pub split_counts : (trees var at : ℕ) (mult : Mult) → 0 < trees → (rest : List TreeNode) → IsWhole (trees + 1) rest → IsWhole trees (Split var at mult ∷ rest)
split_counts zero var at mult some rest whole = absurd (omega (arith, some))
split_counts (suc trees) var at mult some rest whole = rw add-one at whole

pub leaf_counts : (trees : ℕ) (mult : Mult) → 0 < trees → (rest : List TreeNode) → IsWhole (trees - 1) rest → IsWhole trees (Leaf mult ∷ rest)
leaf_counts zero mult some rest whole = absurd (omega (arith, some))
leaf_counts (suc trees) mult some rest whole =
    let e : suc trees - 1 ≡ trees = omega arith in subst (λ (n : ℕ). IsWhole n rest) e whole

pub open_counts : (trees : ℕ) → 0 < trees → (rest : List TreeNode) → IsWhole (trees - 1) rest → IsWhole trees (Open ∷ rest)
open_counts zero some rest whole = absurd (omega (arith, some))
open_counts (suc trees) some rest whole =
    let e : suc trees - 1 ≡ trees = omega arith in subst (λ (n : ℕ). IsWhole n rest) e whole
