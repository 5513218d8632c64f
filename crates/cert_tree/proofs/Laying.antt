-- How a tree is laid of pieces that fit.
use Rattle.std.proofs.Common.{◌≡◌, ◌⊎◌, ℕ, zero, suc, ◌-◌, ◌<◌, Bool, true, false, List, [], ◌∷◌, ◌++◌, map, reverse, length, get_or, refl, sym, ◌∙◌, ap, subst, arith, inl, inr, IsPermutation, sum_by, remove, flat_map}
use Rattle.std.specs.Prelude.{slice_index_or}
use Rattle.std.specs.List.{HoldsAt}
use Rattle.std.proofs.lemmas.Bool.{cases_eq, true≢false, false≢true}
use Rattle.std.proofs.lemmas.List.{append-nil, append_assoc, reverse-append, reverse-reverse, length_push}
use Rattle.std.proofs.lemmas.List.Sums.{sum_by-cons, sum_by-append, sum_by-remove}
use Rattle.std.proofs.lemmas.List.Sorted.{IsPermutation-refl, IsPermutation-trans, IsPermutation-cons, IsPermutation-remove, sum_by-IsPermutation}
use Rattle.lin_bound.specs.declared.path.Branch.{Branch}
use Rattle.cert_tree.specs.declared.nodes.TreeNode.{TreeNode}
use Rattle.cert_tree.specs.declared.records.Act.{Act}
use Rattle.cert_tree.specs.declared.records.Act.TheVariants.{Closed as ClosedAct, Split as SplitAct}
use Rattle.cert_tree.specs.declared.records.Record.{Record}
use Rattle.cert_tree.specs.declared.records.Piece.{Piece}
use Rattle.cert_tree.specs.declared.records.Piece.TheVariants.{Done, Left}
use Rattle.lin_bound.specs.Box.{lower, upper}
use Rattle.cert_tree.specs.Records.{children_of, children, path_in, IsBalanced}
use Rattle.cert_tree.specs.Trees.{IsWhole, Laid, pieces_of, IsLaid}
use Rattle.cert_tree.specs.Pieces.{path_of, node_by, node_of, children_in, IsAt, HasPath, weight_at, weight_below, Fits}
use Rattle.cert_tree.proofs.Assembled.{whole_laid}

-- 1 where a fact holds, and 0 where it does not
abbrev indicator : {A : Type 0} → (A ⊎ ¬ A) → ℕ
indicator (inl holds) = 1
indicator (inr fails) = 0

one_if : {A : Type 0} (choice : A ⊎ ¬ A) → A → indicator choice ≡ 1
one_if (inl holds) fact = refl
one_if (inr fails) fact = absurd (fails fact)

holds_if : {A : Type 0} (choice : A ⊎ ¬ A) → 0 < indicator choice → A
holds_if (inl holds) some = holds
holds_if (inr fails) some = absurd (omega (arith, some))

-- two flags, two branches and two paths are one or not
flags_same : (one other : Bool) → (one ≡ other) ⊎ ¬ (one ≡ other)
flags_same true true = inl refl
flags_same false false = inl refl
flags_same true false = inr true≢false
flags_same false true = inr false≢true

branches_same : (one other : Branch) → (one ≡ other) ⊎ ¬ (one ≡ other)
branches_same one other =
    elim (cases_eq one.var other.var) [
      | inr ne ↦ inr (λ e. ne (ap (λ (b : Branch). b.var) e))
      | inl vars ↦ elim (cases_eq one.at other.at) [
        | inr ne ↦ inr (λ e. ne (ap (λ (b : Branch). b.at) e))
        | inl places ↦ elim (flags_same one.high other.high) [
          | inr ne ↦ inr (λ e. ne (ap (λ (b : Branch). b.high) e))
          | inl flags ↦ inl (fields_same one other vars places flags)
        ]
      ]
    ]
  where
    fields_same : (one other : Branch) → one.var ≡ other.var → one.at ≡ other.at → one.high ≡ other.high → one ≡ other
    fields_same one other vars places flags =
        ap (λ (v : ℕ). record { var = v; at = one.at; high = one.high }) vars ∙ (ap (λ (a : ℕ). record { var = other.var; at = a; high = one.high }) places ∙ ap (λ (h : Bool). record { var = other.var; at = other.at; high = h }) flags)

paths_same : (one other : List Branch) → (one ≡ other) ⊎ ¬ (one ≡ other)
paths_same [] [] = inl refl
paths_same [] (branch ∷ other) = inr (λ e. absurd (omega (arith, ap length e)))
paths_same (branch ∷ one) [] = inr (λ e. absurd (omega (arith, ap length e)))
paths_same (first ∷ one) (second ∷ other) =
    elim (branches_same first second) [
      | inr ne ↦ inr (λ e. ne (ap (λ (path : List Branch). get_or path 0 first) e))
      | inl heads ↦ elim (paths_same one other) [
        | inr ne ↦ inr (λ e. ne (ap (λ (path : List Branch). elim path [ [] ↦ [] | b ∷ rest ↦ rest ]) e))
        | inl tails ↦ inl (ap (λ (b : Branch). b ∷ one) heads ∙ ap (λ (rest : List Branch). second ∷ rest) tails)
      ]
    ]

-- 1 at a path, and 0 at all others
abbrev weight_of : List Branch → List Branch → ℕ
weight_of path other = indicator (paths_same other path)

-- where pieces weigh something at a path, one of them is at it
at_path : (path : List Branch) (pieces : List Piece) → 0 < sum_by (weight_at (weight_of path)) pieces → HasPath pieces path
at_path path [] some = absurd (omega (arith, some))
at_path path (piece ∷ pieces) some =
    elim (paths_same (path_of piece) path) [
      | inl is ↦ (0, omega arith, λ d. is)
      | inr ne ↦
          let none : weight_at (weight_of path) piece ≡ 0 = none_if (paths_same (path_of piece) path) ne in
          let later = at_path path pieces (omega (arith, some, none, sum_by-cons (weight_at (weight_of path)) piece pieces)) in
          (suc later.0, omega (arith, later.1), later.2)
    ]
  where
    none_if : {A : Type 0} (choice : A ⊎ ¬ A) → ¬ A → indicator choice ≡ 0
    none_if (inl holds) fails = absurd (fails holds)
    none_if (inr other) fails = refl

-- the next path is at one of the pieces
pub next_is_there : (path : List Branch) (paths : List (List Branch)) (pieces : List Piece) → Fits (path ∷ paths) pieces → HasPath pieces path
next_is_there path paths pieces fits =
    at_path path pieces (omega (arith, fits (weight_of path), sum_by-cons (weight_of path) path paths, one_if (paths_same path path) refl))

-- more the shorter a path is than n, and 0 for longer ones
abbrev shortness : ℕ → List Branch → ℕ
shortness n path = suc n - length path

-- children are longer than their parent
longer_by : (n : ℕ) (path : List Branch) (act : Act) → n - length path ≡ 0 → sum_by (shortness n) (children_of path act) ≡ 0
longer_by n path (ClosedAct mult) long = refl
longer_by n path (SplitAct var at mult) long = omega (arith, long, length_push path (lower var at), length_push path (upper var at))

longer : (n : ℕ) (piece : Piece) → n - length (path_of piece) ≡ 0 → weight_below (shortness n) piece ≡ 0
longer n (Done done) long = longer_by n done.path done.act long
longer n (Left path) long = refl

-- so where no path is shorter than n, no child is shorter than n + 1
none_below_zero : (pieces : List Piece) → sum_by (weight_below (shortness 0)) pieces ≡ 0
none_below_zero [] = refl
none_below_zero (piece ∷ pieces) = omega (arith, sum_by-cons (weight_below (shortness 0)) piece pieces, longer 0 piece (omega arith), none_below_zero pieces)

none_below : (n : ℕ) (pieces : List Piece) → sum_by (weight_at (shortness n)) pieces ≡ 0 → sum_by (weight_below (shortness (suc n))) pieces ≡ 0
none_below n [] none = refl
none_below n (piece ∷ pieces) none =
    let parts = sum_by-cons (weight_at (shortness n)) piece pieces in
    omega (arith, sum_by-cons (weight_below (shortness (suc n))) piece pieces, longer (suc n) piece (omega (arith, none, parts)), none_below n pieces (omega (arith, none, parts)))

none_short : (pieces : List Piece) → Fits [] pieces → (n : ℕ) → sum_by (weight_at (shortness n)) pieces ≡ 0
none_short pieces fits zero = omega (arith, fits (shortness 0), none_below_zero pieces)
none_short pieces fits (suc n) = omega (arith, fits (shortness (suc n)), none_below n pieces (none_short pieces fits n))

-- where no path is to come, no piece remains
none_remains : (pieces : List Piece) → Fits [] pieces → pieces ≡ []
none_remains [] fits = refl
none_remains (piece ∷ pieces) fits =
    absurd (omega (arith, none_short (piece ∷ pieces) fits (length (path_of piece)), sum_by-cons (weight_at (shortness (length (path_of piece)))) piece pieces))

-- what holds while a tree is laid: what remains fits the paths to come, and with their trees the nodes are a tree of all pieces
pub record IsLaying (start : List Piece) (pending : List (List Branch)) (nodes : List TreeNode) (pieces : List Piece) : Type 0 where
  pub fits : Fits (reverse pending) pieces
  pub completes : (more : List TreeNode) (rest : List Piece) → IsPermutation pieces rest → Laid (reverse pending) more rest → IsLaid start (nodes ++ more)

pub start_laying : (pieces : List Piece) → Fits ([] ∷ []) pieces → IsLaying pieces ([] ∷ []) [] pieces
start_laying pieces fits =
    record { fits = fits; completes = λ more rest all laid. record { order = rest; all = all; laid = laid } }

-- a piece and the trees of its children are a tree at its path
laid_by : (path : List Branch) (act : Act) (paths : List (List Branch)) (more : List TreeNode) (rest : List Piece) → Laid (children_of path act ++ paths) more rest → Laid (path ∷ paths) (node_by act ∷ more) (Done (record { path = path; act = act }) ∷ rest)
laid_by path (ClosedAct mult) paths more rest laid = (refl, laid)
laid_by path (SplitAct var at mult) paths more rest laid = (refl, laid)

laid_more : (piece : Piece) (paths : List (List Branch)) (more : List TreeNode) (rest : List Piece) → Laid (children_in piece ++ paths) more rest → Laid (path_of piece ∷ paths) (node_of piece ∷ more) (piece ∷ rest)
laid_more (Done done) paths more rest laid = laid_by done.path done.act paths more rest laid
laid_more (Left path) paths more rest laid = (refl, laid)

-- the stack read from its top, before a path is taken and after its children are put on it
popped : (pending : List (List Branch)) (path : List Branch) → reverse (pending ++ path ∷ []) ≡ path ∷ reverse pending
popped pending path = reverse-append pending (path ∷ [])

pushed : (pending below : List (List Branch)) → reverse (pending ++ reverse below) ≡ below ++ reverse pending
pushed pending below = reverse-append pending (reverse below) ∙ ap (λ (paths : List (List Branch)). paths ++ reverse pending) (reverse-reverse below)

-- what remains without a piece fits the paths to come with its children
fits_more : (pieces : List Piece) (place : ℕ) (piece : Piece) (paths : List (List Branch)) → place < length pieces → piece ≡ get_or pieces place piece → Fits (path_of piece ∷ paths) pieces → Fits (children_in piece ++ paths) (remove pieces place)
fits_more pieces place piece paths within is fits weigh =
    omega (arith, fits weigh, sum_by-cons weigh (path_of piece) paths, sum_by-append weigh (children_in piece) paths, sum_by-remove (weight_at weigh) pieces place piece within, sum_by-remove (weight_below weigh) pieces place piece within, ap (weight_at weigh) is, ap (weight_below weigh) is)

-- one turn: the top path's piece is taken out, its node written, and its children put on the stack
pub laying_more : (start : List Piece) (pending : List (List Branch)) (path : List Branch) (nodes : List TreeNode) (pieces : List Piece) (place : ℕ) (piece : Piece) → place < length pieces → HoldsAt (IsAt path) pieces place → piece ≡ get_or pieces place piece → IsLaying start (pending ++ path ∷ []) nodes pieces → IsLaying start (pending ++ reverse (children_in piece)) (nodes ++ node_of piece ∷ []) (remove pieces place)
laying_more start pending path nodes pieces place piece within stands is laying =
    let here : path_of piece ≡ path = subst (IsAt path) (sym is) (stands piece) in
    let fits : Fits (path ∷ reverse pending) pieces = subst (λ (paths : List (List Branch)). Fits paths pieces) (popped pending path) laying.fits in
    let fits_here : Fits (path_of piece ∷ reverse pending) pieces = subst (λ (top : List Branch). Fits (top ∷ reverse pending) pieces) (sym here) fits in
    record {
      fits = subst (λ (paths : List (List Branch)). Fits paths (remove pieces place)) (sym (pushed pending (children_in piece))) (fits_more pieces place piece (reverse pending) within is fits_here);
      completes = λ more rest all laid.
          let below : Laid (children_in piece ++ reverse pending) more rest = subst (λ (paths : List (List Branch)). Laid paths more rest) (pushed pending (children_in piece)) laid in
          let tree : Laid (path_of piece ∷ reverse pending) (node_of piece ∷ more) (piece ∷ rest) = laid_more piece (reverse pending) more rest below in
          let whole : Laid (reverse (pending ++ path ∷ [])) (node_of piece ∷ more) (piece ∷ rest) = subst (λ (paths : List (List Branch)). Laid paths (node_of piece ∷ more) (piece ∷ rest)) (sym (popped pending path)) (subst (λ (top : List Branch). Laid (top ∷ reverse pending) (node_of piece ∷ more) (piece ∷ rest)) here tree) in
          let order = IsPermutation-trans pieces (piece ∷ remove pieces place) (piece ∷ rest) (IsPermutation-remove pieces place piece within is) (IsPermutation-cons piece (remove pieces place) rest all) in
          subst (IsLaid start) (sym (append_assoc nodes (node_of piece ∷ []) more)) (laying.completes (node_of piece ∷ more) (piece ∷ rest) order whole);
    }

-- at the empty stack the nodes are the tree
pub laying_done : (start : List Piece) (nodes : List TreeNode) (pieces : List Piece) → IsLaying start [] nodes pieces → IsLaid start nodes
laying_done start nodes pieces laying =
    let none = none_remains pieces laying.fits in
    subst (IsLaid start) (append-nil nodes) (laying.completes [] pieces (IsPermutation-refl pieces) (subst (λ (rest : List Piece). Laid [] [] rest) (sym none) tt))

pub laid_is_whole : (pieces : List Piece) (nodes : List TreeNode) → IsLaid pieces nodes → IsWhole 1 nodes
laid_is_whole pieces nodes made = whole_laid ([] ∷ []) nodes made.order made.laid

-- what records and left paths weigh as pieces
records_weigh : (weigh : List Branch → ℕ) (records : List Record) → sum_by (weight_at weigh) (map Done records) ≡ sum_by weigh (map path_in records)
records_weigh weigh [] = refl
records_weigh weigh (done ∷ records) = omega (arith, sum_by-cons (weight_at weigh) (Done done) (map Done records), sum_by-cons weigh done.path (map path_in records), records_weigh weigh records)

left_weighs : (weigh : List Branch → ℕ) (left : List (List Branch)) → sum_by (weight_at weigh) (map Left left) ≡ sum_by weigh left
left_weighs weigh [] = refl
left_weighs weigh (path ∷ left) = omega (arith, sum_by-cons (weight_at weigh) (Left path) (map Left left), sum_by-cons weigh path left, left_weighs weigh left)

children_weigh : (weigh : List Branch → ℕ) (records : List Record) → sum_by (weight_below weigh) (map Done records) ≡ sum_by weigh (flat_map children records)
children_weigh weigh [] = refl
children_weigh weigh (done ∷ records) = omega (arith, sum_by-cons (weight_below weigh) (Done done) (map Done records), sum_by-append weigh (children done) (flat_map children records), children_weigh weigh records)

left_has_none : (weigh : List Branch → ℕ) (left : List (List Branch)) → sum_by (weight_below weigh) (map Left left) ≡ 0
left_has_none weigh [] = refl
left_has_none weigh (path ∷ left) = omega (arith, sum_by-cons (weight_below weigh) (Left path) (map Left left), left_has_none weigh left)

-- the pieces of balanced lists fit, in any order
pub balanced_fits : (records : List Record) (left : List (List Branch)) (pieces : List Piece) → IsBalanced records left → IsPermutation (pieces_of records left) pieces → Fits ([] ∷ []) pieces
balanced_fits records left pieces balanced all weigh =
    let among = pieces_of records left in
    omega (arith, sum_by-IsPermutation (weight_at weigh) among pieces all, sum_by-IsPermutation (weight_below weigh) among pieces all, sum_by-append (weight_at weigh) (map Done records) (map Left left), sum_by-append (weight_below weigh) (map Done records) (map Left left), records_weigh weigh records, left_weighs weigh left, children_weigh weigh records, left_has_none weigh left, sum_by-IsPermutation weigh (map path_in records ++ left) (([] ∷ []) ++ flat_map children records) balanced, sum_by-append weigh (map path_in records) left, sum_by-append weigh ([] ∷ []) (flat_map children records))

-- the same of what the turn's calls say
pub path_found : (start : List Piece) (old pending : List (List Branch)) (path : List Branch) (nodes : List TreeNode) (pieces seen : List Piece) → old ≡ pending ++ path ∷ [] → seen ≡ pieces → IsLaying start old nodes pieces → HasPath seen path
path_found start old pending path nodes pieces seen taken same laying =
    let fits : Fits (path ∷ reverse pending) pieces = subst (λ (paths : List (List Branch)). Fits paths pieces) (ap reverse taken ∙ popped pending path) laying.fits in
    subst (λ (among : List Piece). HasPath among path) (sym same) (next_is_there path (reverse pending) pieces fits)

pub laying_turn : (start : List Piece) (old pending new : List (List Branch)) (path : List Branch) (nodes written : List TreeNode) (pieces seen rest : List Piece) (place : ℕ) (piece : Piece) (node : TreeNode) → old ≡ pending ++ path ∷ [] → seen ≡ pieces → place < length seen → HoldsAt (IsAt path) seen place → piece ≡ slice_index_or pieces place piece → rest ≡ remove pieces place → new ≡ pending ++ reverse (children_in piece) → node ≡ node_of piece → written ≡ nodes ++ node ∷ [] → IsLaying start old nodes pieces → IsLaying start new written rest
laying_turn start old pending new path nodes written pieces seen rest place piece node taken same within stands is left put node_is wrote laying =
    let before : IsLaying start (pending ++ path ∷ []) nodes pieces = subst (λ (stack : List (List Branch)). IsLaying start stack nodes pieces) taken laying in
    let here : place < length pieces = subst (λ (among : List Piece). place < length among) same within in
    let there : HoldsAt (IsAt path) pieces place = subst (λ (among : List Piece). HoldsAt (IsAt path) among place) same stands in
    let after = laying_more start pending path nodes pieces place piece here there is before in
    let all = wrote ∙ ap (λ (one : TreeNode). nodes ++ one ∷ []) node_is in
    subst (λ (stack : List (List Branch)). IsLaying start stack written rest) (sym put)
    (subst (λ (some : List TreeNode). IsLaying start (pending ++ reverse (children_in piece)) some rest) (sym all)
    (subst (λ (among : List Piece). IsLaying start (pending ++ reverse (children_in piece)) (nodes ++ node_of piece ∷ []) among) (sym left) after))

pub laying_ended : (start : List Piece) (pending : List (List Branch)) (nodes : List TreeNode) (pieces : List Piece) → pending ≡ [] → IsLaying start pending nodes pieces → IsLaid start nodes
laying_ended start pending nodes pieces empty laying =
    laying_done start nodes pieces (subst (λ (stack : List (List Branch)). IsLaying start stack nodes pieces) empty laying)

pub gathered_fit : (records : List Record) (left : List (List Branch)) (gathered pieces : List Piece) → gathered ≡ pieces_of records left → IsBalanced records left → IsPermutation gathered pieces → Fits ([] ∷ []) pieces
gathered_fit records left gathered pieces same balanced all =
    balanced_fits records left pieces balanced (subst (λ (among : List Piece). IsPermutation among pieces) same all)

pub laid_of_gathered : (records : List Record) (left : List (List Branch)) (gathered pieces : List Piece) (nodes : List TreeNode) → gathered ≡ pieces_of records left → IsPermutation gathered pieces → IsLaid pieces nodes → IsLaid (pieces_of records left) nodes
laid_of_gathered records left gathered pieces nodes same all made =
    record {
      order = made.order;
      all = IsPermutation-trans (pieces_of records left) pieces made.order (subst (λ (among : List Piece). IsPermutation among pieces) same all) made.all;
      laid = made.laid;
    }
