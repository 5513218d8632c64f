-- The multipliers of a tree that is made of records.
use Rattle.std.proofs.Common.{List, [], ◌∷◌, ◌++◌, map, subst, All}
use Rattle.std.specs.List.{AllByRecursion}
use Rattle.std.proofs.lemmas.List.Elements.{recursion_from_All, All-from_recursion, All-append, All-map}
use Rattle.std.proofs.lemmas.List.Sorted.{All-permutation}
use Rattle.lin_bound.specs.Problem.{ProblemData}
use Rattle.lin_bound.specs.declared.path.Branch.{Branch}
use Rattle.cert_tree.specs.declared.nodes.TreeNode.{TreeNode}
use Rattle.cert_tree.specs.declared.nodes.TreeNode.TheVariants.{Leaf, Split, Open}
use Rattle.cert_tree.specs.declared.records.Piece.{Piece}
use Rattle.cert_tree.specs.declared.records.Piece.TheVariants.{Done, Left}
use Rattle.lin_bound.specs.Box.{lower, upper}
use Rattle.cert_tree.specs.Trees.{Laid, pieces_of}
use Rattle.cert_tree.specs.Multipliers.{ActIsLegal, HasLegalMult}
use Rattle.cert_tree.specs.Laws.{AssembledLegal}

-- those of a piece
abbrev PieceIsLegal : ProblemData → Piece → Type 0
PieceIsLegal p (Done done) = ActIsLegal p done.act
PieceIsLegal p (Left path) = Unit {0}

-- what is laid of legal pieces has legal nodes
legal_laid : (p : ProblemData) (paths : List (List Branch)) (nodes : List TreeNode) (pieces : List Piece) → Laid paths nodes pieces → AllByRecursion (PieceIsLegal p) pieces → AllByRecursion (HasLegalMult p) nodes
legal_laid p [] [] [] laid legal = tt
legal_laid p (path ∷ paths) (Leaf mult ∷ nodes) (piece ∷ pieces) laid legal = (subst (PieceIsLegal p) laid.0 legal.0, legal_laid p paths nodes pieces laid.1 legal.1)
legal_laid p (path ∷ paths) (Split var at mult ∷ nodes) (piece ∷ pieces) laid legal =
    (subst (PieceIsLegal p) laid.0 legal.0, legal_laid p ((path ++ lower var at ∷ []) ∷ ((path ++ upper var at ∷ []) ∷ paths)) nodes pieces laid.1 legal.1)
legal_laid p (path ∷ paths) (Open ∷ nodes) (piece ∷ pieces) laid legal = (tt, legal_laid p paths nodes pieces laid.1 legal.1)
legal_laid p [] [] (piece ∷ pieces) laid legal = absurd laid
legal_laid p [] (node ∷ nodes) pieces laid legal = absurd laid
legal_laid p (path ∷ paths) [] pieces laid legal = absurd laid
legal_laid p (path ∷ paths) (Leaf mult ∷ nodes) [] laid legal = absurd laid
legal_laid p (path ∷ paths) (Split var at mult ∷ nodes) [] laid legal = absurd laid
legal_laid p (path ∷ paths) (Open ∷ nodes) [] laid legal = absurd laid

pub assembled_legal : AssembledLegal
assembled_legal p records left nodes made legal =
    let each : All (PieceIsLegal p) (pieces_of records left) = All-append (PieceIsLegal p) (map Done records) (map Left left) (All-map (PieceIsLegal p) Done records legal) (All-map (PieceIsLegal p) Left left (λ k d h. tt)) in
    All-from_recursion (HasLegalMult p) nodes (legal_laid p ([] ∷ []) nodes made.order made.laid (recursion_from_All (PieceIsLegal p) made.order (All-permutation (PieceIsLegal p) (pieces_of records left) made.order made.all each)))
