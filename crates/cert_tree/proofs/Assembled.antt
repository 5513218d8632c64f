-- What a tree that is made of records shows.
use Rattle.std.proofs.Common.{◌≡◌, ◌≢◌, ℕ, suc, ◌+◌, ◌<◌, Bool, true, false, cond, List, [], ◌∷◌, ◌++◌, map, length, refl, ap, subst, arith, All, Contains, sum_by}
use Rattle.std.specs.Prelude.{ℤ, Option, None}
use Rattle.std.specs.List.{AllByRecursion}
use Rattle.std.proofs.lemmas.List.Elements.{recursion_from_All, All-append, All-map, All-nil, All-weaker, Contains-append_right}
use Rattle.std.proofs.lemmas.List.Sorted.{All-permutation, sum_by-IsPermutation, length_permutation}
use Rattle.std.proofs.lemmas.List.{length-append, length-map}
use Rattle.std.proofs.lemmas.List.Sums.{sum_by-cons, sum_by-append}
use Rattle.lin_bound.specs.Problem.{ProblemData}
use Rattle.lin_bound.specs.Box.{whole_box, half, cut, box_at, lower, upper}
use Rattle.lin_bound.specs.declared.region.Region.{Region}
use Rattle.lin_bound.specs.declared.path.Branch.{Branch}
use Rattle.cert_tree.specs.declared.nodes.TreeNode.{TreeNode}
use Rattle.cert_tree.specs.declared.nodes.TreeNode.TheVariants.{Leaf, Split, Open}
use Rattle.cert_tree.specs.declared.records.Act.TheVariants.{Split as SplitAct}
use Rattle.cert_tree.specs.declared.records.Record.{Record}
use Rattle.cert_tree.specs.declared.records.Piece.{Piece}
use Rattle.cert_tree.specs.declared.records.Piece.TheVariants.{Done, Left}
use Rattle.cert_tree.specs.Trees.{IsWhole, Laid, pieces_of, IsAssembled}
use Rattle.cert_tree.specs.Certificates.{Certify}
use Rattle.cert_tree.specs.Partial.{PartlyCertify, is_done}
use Rattle.cert_tree.proofs.Values.{was_plainly_right}
use Rattle.cert_tree.specs.Laws.{IsRight, IsPlainlyRight, WasPlainlyRight, AssembledCertifies, AssembledPartly}

-- what is laid is whole, one tree for each path
pub whole_laid : (paths : List (List Branch)) (nodes : List TreeNode) (pieces : List Piece) → Laid paths nodes pieces → IsWhole (length paths) nodes
whole_laid [] [] [] laid = tt
whole_laid (path ∷ paths) (Leaf mult ∷ nodes) (piece ∷ pieces) laid = whole_laid paths nodes pieces laid.1
whole_laid (path ∷ paths) (Split var at mult ∷ nodes) (piece ∷ pieces) laid = whole_laid ((path ++ lower var at ∷ []) ∷ ((path ++ upper var at ∷ []) ∷ paths)) nodes pieces laid.1
whole_laid (path ∷ paths) (Open ∷ nodes) (piece ∷ pieces) laid = whole_laid paths nodes pieces laid.1
whole_laid [] [] (piece ∷ pieces) laid = absurd laid
whole_laid [] (node ∷ nodes) pieces laid = absurd laid
whole_laid (path ∷ paths) [] pieces laid = absurd laid
whole_laid (path ∷ paths) (Leaf mult ∷ nodes) [] laid = absurd laid
whole_laid (path ∷ paths) (Split var at mult ∷ nodes) [] laid = absurd laid
whole_laid (path ∷ paths) (Open ∷ nodes) [] laid = absurd laid

-- the box of a child is the half of its parent's
pub cut_push : (box : Region) (path : List Branch) (branch : Branch) → cut box (path ++ branch ∷ []) ≡ half branch (cut box path)
cut_push box [] branch = refl
cut_push box (first ∷ path) branch = cut_push (half first box) path branch

-- certificates of the children's boxes are certificates of the halves
abbrev boxes_at : ProblemData → List (List Branch) → List Region
boxes_at p [] = []
boxes_at p (path ∷ paths) = box_at p path ∷ boxes_at p paths

at_halves : (P : List Region → Type 0) (p : ProblemData) (path : List Branch) (paths : List (List Branch)) (var at : ℕ) → P (boxes_at p ((path ++ lower var at ∷ []) ∷ ((path ++ upper var at ∷ []) ∷ paths))) → P (half (lower var at) (box_at p path) ∷ (half (upper var at) (box_at p path) ∷ boxes_at p paths))
at_halves P p path paths var at holds =
    let Q : Region → Type 0 = λ (box : Region). P (box ∷ (box_at p (path ++ upper var at ∷ []) ∷ boxes_at p paths)) in
    let R : Region → Type 0 = λ (box : Region). P (half (lower var at) (box_at p path) ∷ (box ∷ boxes_at p paths)) in
    subst R (cut_push (whole_box p) path (upper var at)) (subst Q (cut_push (whole_box p) path (lower var at)) holds)

-- a piece is a record that is right
abbrev RightPiece : ProblemData → Option ℤ → Piece → Type 0
RightPiece p best (Done done) = IsRight p best done.path done.act
RightPiece p best (Left path) = ⊥

-- what is laid of right records certifies
certify_laid : (p : ProblemData) (best : Option ℤ) (paths : List (List Branch)) (nodes : List TreeNode) (pieces : List Piece) → Laid paths nodes pieces → AllByRecursion (RightPiece p best) pieces → Certify p best (boxes_at p paths) nodes
certify_laid p best [] [] [] laid right = tt
certify_laid p best (path ∷ paths) (Leaf mult ∷ nodes) (piece ∷ pieces) laid right = (subst (RightPiece p best) laid.0 right.0, certify_laid p best paths nodes pieces laid.1 right.1)
certify_laid p best (path ∷ paths) (Split var at mult ∷ nodes) (piece ∷ pieces) laid right =
    (subst (RightPiece p best) laid.0 right.0, at_halves (λ (boxes : List Region). Certify p best boxes nodes) p path paths var at (certify_laid p best ((path ++ lower var at ∷ []) ∷ ((path ++ upper var at ∷ []) ∷ paths)) nodes pieces laid.1 right.1))
certify_laid p best (path ∷ paths) (Open ∷ nodes) (piece ∷ pieces) laid right = absurd (subst (RightPiece p best) laid.0 right.0)
certify_laid p best [] [] (piece ∷ pieces) laid right = absurd laid
certify_laid p best [] (node ∷ nodes) pieces laid right = absurd laid
certify_laid p best (path ∷ paths) [] pieces laid right = absurd laid
certify_laid p best (path ∷ paths) (Leaf mult ∷ nodes) [] laid right = absurd laid
certify_laid p best (path ∷ paths) (Split var at mult ∷ nodes) [] laid right = absurd laid
certify_laid p best (path ∷ paths) (Open ∷ nodes) [] laid right = absurd laid

pub assembled_certifies : AssembledCertifies
assembled_certifies p best records nodes made right =
    let each : All (RightPiece p best) (pieces_of records []) = All-append (RightPiece p best) (map Done records) [] (All-map (RightPiece p best) Done records right) (All-nil (RightPiece p best)) in
    certify_laid p best ([] ∷ []) nodes made.order made.laid (recursion_from_All (RightPiece p best) made.order (All-permutation (RightPiece p best) (pieces_of records []) made.order made.all each))

-- a piece is a left path, or a record that is right
abbrev PartPiece : ProblemData → Option ℤ → Piece → Type 0
PartPiece p best (Done done) = IsPlainlyRight p best None done.path done.act
PartPiece p best (Left path) = Unit {0}

partly_laid : (p : ProblemData) (best : Option ℤ) (paths : List (List Branch)) (nodes : List TreeNode) (pieces : List Piece) → Laid paths nodes pieces → AllByRecursion (PartPiece p best) pieces → PartlyCertify p best (boxes_at p paths) nodes
partly_laid p best [] [] [] laid right = tt
partly_laid p best (path ∷ paths) (Leaf mult ∷ nodes) (piece ∷ pieces) laid right = (subst (PartPiece p best) laid.0 right.0, partly_laid p best paths nodes pieces laid.1 right.1)
partly_laid p best (path ∷ paths) (Split var at mult ∷ nodes) (piece ∷ pieces) laid right =
    let here : IsPlainlyRight p best None path (SplitAct var at mult) = subst (PartPiece p best) laid.0 right.0 in
    (here.0, here.1, at_halves (λ (boxes : List Region). PartlyCertify p best boxes nodes) p path paths var at (partly_laid p best ((path ++ lower var at ∷ []) ∷ ((path ++ upper var at ∷ []) ∷ paths)) nodes pieces laid.1 right.1))
partly_laid p best (path ∷ paths) (Open ∷ nodes) (piece ∷ pieces) laid right = partly_laid p best paths nodes pieces laid.1 right.1
partly_laid p best [] [] (piece ∷ pieces) laid right = absurd laid
partly_laid p best [] (node ∷ nodes) pieces laid right = absurd laid
partly_laid p best (path ∷ paths) [] pieces laid right = absurd laid
partly_laid p best (path ∷ paths) (Leaf mult ∷ nodes) [] laid right = absurd laid
partly_laid p best (path ∷ paths) (Split var at mult ∷ nodes) [] laid right = absurd laid
partly_laid p best (path ∷ paths) (Open ∷ nodes) [] laid right = absurd laid

-- whether a piece is a record
abbrev is_record : Piece → Bool
is_record (Done done) = true
is_record (Left path) = false

abbrev by_record : Piece → ℕ
by_record piece = cond (is_record piece) 1 0

abbrev by_done : TreeNode → ℕ
by_done node = cond (is_done node) 1 0

-- there are as many nodes done as records among the pieces
count_laid : (paths : List (List Branch)) (nodes : List TreeNode) (pieces : List Piece) → Laid paths nodes pieces → sum_by by_done nodes ≡ sum_by by_record pieces
count_laid [] [] [] laid = refl
count_laid (path ∷ paths) (Leaf mult ∷ nodes) (piece ∷ pieces) laid =
    omega (arith, sum_by-cons by_done (Leaf mult) nodes, sum_by-cons by_record piece pieces, ap by_record laid.0, count_laid paths nodes pieces laid.1)
count_laid (path ∷ paths) (Split var at mult ∷ nodes) (piece ∷ pieces) laid =
    omega (arith, sum_by-cons by_done (Split var at mult) nodes, sum_by-cons by_record piece pieces, ap by_record laid.0, count_laid ((path ++ lower var at ∷ []) ∷ ((path ++ upper var at ∷ []) ∷ paths)) nodes pieces laid.1)
count_laid (path ∷ paths) (Open ∷ nodes) (piece ∷ pieces) laid =
    omega (arith, sum_by-cons by_done Open nodes, sum_by-cons by_record piece pieces, ap by_record laid.0, count_laid paths nodes pieces laid.1)
count_laid [] [] (piece ∷ pieces) laid = absurd laid
count_laid [] (node ∷ nodes) pieces laid = absurd laid
count_laid (path ∷ paths) [] pieces laid = absurd laid
count_laid (path ∷ paths) (Leaf mult ∷ nodes) [] laid = absurd laid
count_laid (path ∷ paths) (Split var at mult ∷ nodes) [] laid = absurd laid
count_laid (path ∷ paths) (Open ∷ nodes) [] laid = absurd laid

count_records : (records : List Record) → sum_by by_record (map Done records) ≡ length records
count_records [] = refl
count_records (done ∷ records) = omega (arith, sum_by-cons by_record (Done done) (map Done records), count_records records)

count_left : (left : List (List Branch)) → sum_by by_record (map Left left) ≡ 0
count_left [] = refl
count_left (path ∷ left) = omega (arith, sum_by-cons by_record (Left path) (map Left left), count_left left)

-- there is one node for each piece
length_laid : (paths : List (List Branch)) (nodes : List TreeNode) (pieces : List Piece) → Laid paths nodes pieces → length nodes ≡ length pieces
length_laid [] [] [] laid = refl
length_laid (path ∷ paths) (Leaf mult ∷ nodes) (piece ∷ pieces) laid = ap suc (length_laid paths nodes pieces laid.1)
length_laid (path ∷ paths) (Split var at mult ∷ nodes) (piece ∷ pieces) laid = ap suc (length_laid ((path ++ lower var at ∷ []) ∷ ((path ++ upper var at ∷ []) ∷ paths)) nodes pieces laid.1)
length_laid (path ∷ paths) (Open ∷ nodes) (piece ∷ pieces) laid = ap suc (length_laid paths nodes pieces laid.1)
length_laid [] [] (piece ∷ pieces) laid = absurd laid
length_laid [] (node ∷ nodes) pieces laid = absurd laid
length_laid (path ∷ paths) [] pieces laid = absurd laid
length_laid (path ∷ paths) (Leaf mult ∷ nodes) [] laid = absurd laid
length_laid (path ∷ paths) (Split var at mult ∷ nodes) [] laid = absurd laid
length_laid (path ∷ paths) (Open ∷ nodes) [] laid = absurd laid

-- where fewer nodes are done than there are, one is open
open_found : (nodes : List TreeNode) → sum_by by_done nodes < length nodes → Contains nodes Open
open_found [] fewer = absurd (omega (arith, fewer))
open_found (Leaf mult ∷ nodes) fewer = Contains-append_right (Leaf mult ∷ []) nodes Open (open_found nodes (omega (arith, fewer, sum_by-cons by_done (Leaf mult) nodes)))
open_found (Split var at mult ∷ nodes) fewer = Contains-append_right (Split var at mult ∷ []) nodes Open (open_found nodes (omega (arith, fewer, sum_by-cons by_done (Split var at mult) nodes)))
open_found (Open ∷ nodes) fewer = (0, omega arith, refl)

some_left : (left : List (List Branch)) → left ≢ [] → 0 < length left
some_left [] more = absurd (more refl)
some_left (path ∷ left) more = omega arith

-- each piece of right records and left paths is right
pieces_right : (p : ProblemData) (best : Option ℤ) (records : List Record) (left : List (List Branch)) → All (λ (done : Record). IsPlainlyRight p best None done.path done.act) records → All (PartPiece p best) (pieces_of records left)
pieces_right p best records left right =
    All-append (PartPiece p best) (map Done records) (map Left left) (All-map (PartPiece p best) Done records right) (All-map (PartPiece p best) Left left (λ k d h. tt))

-- of right records, whatever is left
pub assembled_parts : (p : ProblemData) (best : Option ℤ) (records : List Record) (left : List (List Branch)) (nodes : List TreeNode) → IsAssembled records left nodes → All (λ (done : Record). IsPlainlyRight p best None done.path done.act) records → PartlyCertify p best (whole_box p ∷ []) nodes
assembled_parts p best records left nodes made right =
    partly_laid p best ([] ∷ []) nodes made.order made.laid (recursion_from_All (PartPiece p best) made.order (All-permutation (PartPiece p best) (pieces_of records left) made.order made.all (pieces_right p best records left right)))

-- a node for each record and each left path
pub assembled_length : (records : List Record) (left : List (List Branch)) (nodes : List TreeNode) → IsAssembled records left nodes → length nodes ≡ length records + length left
assembled_length records left nodes made =
    omega (arith, length_laid ([] ∷ []) nodes made.order made.laid, length_permutation (pieces_of records left) made.order made.all, length-append (map Done records) (map Left left), length-map records Done, length-map left Left)

pub assembled_partly : AssembledPartly
assembled_partly p best records left nodes made were more =
    let among = pieces_of records left in
    let right : All (λ (done : Record). IsPlainlyRight p best None done.path done.act) records = All-weaker (WasPlainlyRight p best) (λ (done : Record). IsPlainlyRight p best None done.path done.act) (was_plainly_right p best) records were in
    let count : sum_by by_done nodes ≡ length records = omega (arith, count_laid ([] ∷ []) nodes made.order made.laid, sum_by-IsPermutation by_record among made.order made.all, sum_by-append by_record (map Done records) (map Left left), count_records records, count_left left) in
    record {
      each = count;
      more = open_found nodes (omega (arith, count, assembled_length records left nodes made, some_left left more));
      parts = assembled_parts p best records left nodes made right;
    }
