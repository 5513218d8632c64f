-- When the multipliers of records and nodes are legal for the problem.
use Rattle.lin_bound.specs.Problem.{ProblemData}
use Rattle.lin_bound.specs.Bound.{IsMult}
use Rattle.cert_tree.specs.declared.nodes.TreeNode.{TreeNode}
use Rattle.cert_tree.specs.declared.nodes.TreeNode.TheVariants.{Leaf, Split, Open}
use Rattle.cert_tree.specs.declared.records.Act.{Act}
use Rattle.cert_tree.specs.declared.records.Act.TheVariants.{Closed as ClosedAct, Split as SplitAct}

-- those of an act
abbrev pub ActIsLegal : ProblemData → Act → Type 0
ActIsLegal p (ClosedAct mult) = IsMult p mult
ActIsLegal p (SplitAct var at mult) = IsMult p mult

-- those of a node; an open leaf has none
abbrev pub HasLegalMult : ProblemData → TreeNode → Type 0
HasLegalMult p (Leaf mult) = IsMult p mult
HasLegalMult p (Split var at mult) = IsMult p mult
HasLegalMult p Open = Unit {0}
