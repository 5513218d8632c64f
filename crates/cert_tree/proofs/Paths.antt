-- The paths of balanced lists are paths of the problem, where each split divides the box at its path.
use Rattle.std.proofs.Common.{ℕ, zero, suc, ◌<◌, List, [], ◌∷◌, ◌++◌, map, length, get_or, flat_map, arith, All}
use Rattle.std.specs.List.{AllByRecursion}
use Rattle.std.specs.Prelude.{ℤ, Option}
use Rattle.std.proofs.lemmas.List.{length_push}
use Rattle.std.proofs.lemmas.List.Elements.{recursion_from_All, All-from_recursion, All-append, All-nil, All-cons, All-weaker}
use Rattle.std.proofs.lemmas.List.Sorted.{All-permutation, IsPermutation-sym}
use Rattle.lin_bound.specs.Problem.{ProblemData}
use Rattle.lin_bound.specs.Box.{whole_box, half, cut, box_at, Splits, AllSplit, IsPath, lower, upper}
use Rattle.lin_bound.specs.declared.region.Region.{Region}
use Rattle.lin_bound.specs.declared.path.Branch.{Branch}
use Rattle.cert_tree.specs.declared.records.Act.{Act}
use Rattle.cert_tree.specs.declared.records.Act.TheVariants.{Closed, Split}
use Rattle.cert_tree.specs.declared.records.Record.{Record}
use Rattle.cert_tree.specs.Records.{children_of, children, path_in, IsBalanced}
use Rattle.cert_tree.specs.Laws.{IsRight, IsPlainlyRight}
use Rattle.cert_tree.proofs.Soundness.{splits_above}

-- a split act divides the box at its path
abbrev pub Divides : ProblemData → List Branch → Act → Type 0
Divides p path (Closed mult) = Unit {0}
Divides p path (Split var at mult) = Splits (lower var at) (box_at p path)

-- as one that is right does
pub divides_right : (p : ProblemData) (best : Option ℤ) (path : List Branch) (act : Act) → IsRight p best path act → Divides p path act
divides_right p best path (Closed mult) right = tt
divides_right p best path (Split var at mult) right = right

pub divides_plainly : (p : ProblemData) (best seen : Option ℤ) (path : List Branch) (act : Act)
    → IsPlainlyRight p best seen path act → Divides p path act
divides_plainly p best seen path (Closed mult) right = tt
divides_plainly p best seen path (Split var at mult) right = right.0

-- a branch that divides the box of a path leads to a path
pub split_push : (box : Region) (path : List Branch) (branch : Branch) → AllSplit box path → Splits branch (cut box path) → AllSplit box (path ++ branch ∷ [])
split_push box [] branch splits last = (last, tt)
split_push box (first ∷ path) branch splits last = (splits.0, split_push (half first box) path branch splits.1 last)

pub path_push : (p : ProblemData) (path : List Branch) (branch : Branch) → IsPath p path → Splits branch (box_at p path) → IsPath p (path ++ branch ∷ [])
path_push p path branch is splits = split_push (whole_box p) path branch is splits

-- both children of a split
pub lower_path : (p : ProblemData) (path : List Branch) (var at : ℕ) → IsPath p path → Splits (lower var at) (box_at p path) → IsPath p (path ++ lower var at ∷ [])
lower_path p path var at is splits = path_push p path (lower var at) is splits

pub upper_path : (p : ProblemData) (path : List Branch) (var at : ℕ) → IsPath p path → Splits (lower var at) (box_at p path) → IsPath p (path ++ upper var at ∷ [])
upper_path p path var at is splits = path_push p path (upper var at) is (splits_above var at (box_at p path) splits)

-- a path, where it is shorter than n
abbrev IsShortPath : ProblemData → ℕ → List Branch → Type 0
IsShortPath p n path = length path < n → IsPath p path

-- children are longer than their parents, so they are paths up to one length more
children_short : (p : ProblemData) (n : ℕ) (path : List Branch) (act : Act) → Divides p path act → IsShortPath p n path → All (IsShortPath p (suc n)) (children_of path act)
children_short p n path (Closed mult) divides short = All-nil (IsShortPath p (suc n))
children_short p n path (Split var at mult) divides short =
    let below : IsShortPath p (suc n) (path ++ lower var at ∷ []) = λ h. lower_path p path var at (short (omega (arith, h, length_push path (lower var at)))) divides in
    let above : IsShortPath p (suc n) (path ++ upper var at ∷ []) = λ h. upper_path p path var at (short (omega (arith, h, length_push path (upper var at)))) divides in
    All-cons (IsShortPath p (suc n)) (path ++ lower var at ∷ []) ((path ++ upper var at ∷ []) ∷ []) below
    (All-cons (IsShortPath p (suc n)) (path ++ upper var at ∷ []) [] above (All-nil (IsShortPath p (suc n))))

all_children_short : (p : ProblemData) (n : ℕ) (records : List Record) → AllByRecursion (λ (done : Record). Divides p done.path done.act) records → AllByRecursion (IsShortPath p n) (map path_in records) → All (IsShortPath p (suc n)) (flat_map children records)
all_children_short p n [] divides short = All-nil (IsShortPath p (suc n))
all_children_short p n (done ∷ records) divides short =
    All-append (IsShortPath p (suc n)) (children done) (flat_map children records) (children_short p n done.path done.act divides.0 short.0) (all_children_short p n records divides.1 short.1)

-- what holds in two lists together holds in each
all_left : {X : Type 0} (P : X → Type 0) (xs ys : List X) → All P (xs ++ ys) → All P xs
all_left P [] ys each = All-nil P
all_left P (x ∷ xs) ys each = All-cons P x xs (each 0 x (omega arith)) (all_left P xs ys (λ k d h. each (suc k) d (omega (arith, h))))

all_right : {X : Type 0} (P : X → Type 0) (xs ys : List X) → All P (xs ++ ys) → All P ys
all_right P [] ys each = each
all_right P (x ∷ xs) ys each = all_right P xs ys (λ k d h. each (suc k) d (omega (arith, h)))

-- the paths of records and the left ones, all in one list
abbrev paths_of : List Record → List (List Branch) → List (List Branch)
paths_of records left = map path_in records ++ left

all_short : (p : ProblemData) (records : List Record) (left : List (List Branch)) → IsBalanced records left → All (λ (done : Record). Divides p done.path done.act) records → (n : ℕ) → All (IsShortPath p n) (paths_of records left)
all_short p records left balanced divides zero = λ k d h short. absurd (omega (arith, short))
all_short p records left balanced divides (suc n) =
    let P = IsShortPath p (suc n) in
    let before = all_short p records left balanced divides n in
    let short = recursion_from_All (IsShortPath p n) (map path_in records) (all_left (IsShortPath p n) (map path_in records) left before) in
    let below = all_children_short p n records (recursion_from_All (λ (done : Record). Divides p done.path done.act) records divides) short in
    let all : All P (([] ∷ []) ++ flat_map children records) = All-cons P [] (flat_map children records) (λ h. tt) below in
    All-permutation P (([] ∷ []) ++ flat_map children records) (paths_of records left) (IsPermutation-sym (paths_of records left) (([] ∷ []) ++ flat_map children records) balanced) all

all_paths : (p : ProblemData) (records : List Record) (left : List (List Branch)) → IsBalanced records left → All (λ (done : Record). Divides p done.path done.act) records → All (IsPath p) (paths_of records left)
all_paths p records left balanced divides k d h =
    all_short p records left balanced divides (suc (length (get_or (paths_of records left) k d))) k d h (omega arith)

-- each left path is one of the problem
pub left_paths : (p : ProblemData) (records : List Record) (left : List (List Branch)) → IsBalanced records left → All (λ (done : Record). Divides p done.path done.act) records → All (IsPath p) left
left_paths p records left balanced divides =
    all_right (IsPath p) (map path_in records) left (all_paths p records left balanced divides)

-- and so is the path of each record
paths_back : (p : ProblemData) (records : List Record) → AllByRecursion (IsPath p) (map path_in records) → AllByRecursion (λ (done : Record). IsPath p done.path) records
paths_back p [] each = tt
paths_back p (done ∷ records) each = (each.0, paths_back p records each.1)

pub record_paths : (p : ProblemData) (records : List Record) (left : List (List Branch)) → IsBalanced records left → All (λ (done : Record). Divides p done.path done.act) records → All (λ (done : Record). IsPath p done.path) records
record_paths p records left balanced divides =
    let each = all_left (IsPath p) (map path_in records) left (all_paths p records left balanced divides) in
    All-from_recursion (λ (done : Record). IsPath p done.path) records (paths_back p records (recursion_from_All (IsPath p) (map path_in records) each))

-- the same of right records
divides_each : (p : ProblemData) (best : Option ℤ) (records : List Record) → All (λ (done : Record). IsRight p best done.path done.act) records → All (λ (done : Record). Divides p done.path done.act) records
divides_each p best records right =
    All-weaker (λ (done : Record). IsRight p best done.path done.act) (λ (done : Record). Divides p done.path done.act) (λ done is. divides_right p best done.path done.act is) records right

pub left_paths_right : (p : ProblemData) (best : Option ℤ) (records : List Record) (left : List (List Branch)) → IsBalanced records left → All (λ (done : Record). IsRight p best done.path done.act) records → All (IsPath p) left
left_paths_right p best records left balanced right =
    left_paths p records left balanced (divides_each p best records right)

pub record_paths_right : (p : ProblemData) (best : Option ℤ) (records : List Record) (left : List (List Branch)) → IsBalanced records left → All (λ (done : Record). IsRight p best done.path done.act) records → All (λ (done : Record). IsPath p done.path) records
record_paths_right p best records left balanced right =
    record_paths p records left balanced (divides_each p best records right)
