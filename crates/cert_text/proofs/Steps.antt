-- One more line: what it leads to, and what is known by it.
use Rattle.std.proofs.Common.{◌≡◌, ◌≢◌, ℕ, zero, suc, ◌+◌, ◌-◌, ◌^◌, ◌<◌, ◌≤◌, List, [], ◌∷◌, ◌++◌, length, map, replicate, refl, sym, ◌∙◌, ap, subst, arith, inl, inr, append_assoc, add-one}
use Rattle.std.specs.Prelude.{ℤ, pos, negsuc, Option, None, Some}
use Rattle.std.specs.List.{AllByRecursion}
use Rattle.std.proofs.lemmas.List.{append-nil, map-append, length_push}
use Rattle.lin_bound.specs.declared.mult.Mult.{Mult}
use Rattle.cert_tree.specs.Trees.{IsWhole}
use Rattle.cert_tree.specs.declared.nodes.TreeNode.{TreeNode}
use Rattle.cert_tree.specs.declared.nodes.TreeNode.TheVariants.{Leaf as LeafNode, Split as SplitNode, Open as OpenNode}
use Rattle.cert_text.specs.declared.value.CertText.{CertText}
use Rattle.cert_text.specs.declared.value.Claim.{Claim}
use Rattle.cert_text.specs.declared.value.Claim.TheVariants.{Optimal as OptimalClaim, Infeasible as InfeasibleClaim, Undecided as UndecidedClaim}
use Rattle.cert_text.specs.declared.kinds.Kind.{Kind}
use Rattle.cert_text.specs.declared.kinds.Kind.TheVariants.{Header, Vars, Rows, Optimal, OptimalMinus, Infeasible, Undecided, UndecidedMinus, UndecidedNone, Package, Pair, Close, Split, Open, End}
use Rattle.cert_text.specs.declared.kinds.Expect.{Expect}
use Rattle.cert_text.specs.declared.kinds.Expect.TheVariants.{AtHeader, AtVars, AtRows, AtClaim, AtPackage, AtPairs, AtNodes, AtEnd, Done}
use Rattle.cert_text.specs.Numbers.{IsWithin, AllWithin}
use Rattle.cert_text.specs.Lines.{Row, row}
use Rattle.cert_text.specs.Expected.{weight_range, ranges, kinds, after, IsSound}
use Rattle.cert_text.specs.Certs.{IsClaim, RiseFrom, HasPairs, IsMult, IsNode, IsCert, claim_row, pair_row, node_row, rows_of}
use Rattle.cert_text.specs.Rules.{Follows, taken, mult_of, package_before, rows_before, rows_until}

-- what is known before some line
abbrev pub HasValue : Claim → Type 0
HasValue (OptimalClaim value) = Unit {0}
HasValue InfeasibleClaim = ⊥
HasValue (UndecidedClaim None) = ⊥
HasValue (UndecidedClaim (Some value)) = Unit {0}

pub record Empty (cert : CertText) : Type 0 where
  pub pairs : cert.pairs ≡ []
  pub nodes : cert.nodes ≡ []

pub record Head (cert : CertText) (rows : ℕ) : Type 0 where
  pub vars : cert.vars < 2 ^ 32
  pub is : cert.rows ≡ rows
  pub few : rows ≤ 64

abbrev pub Rising : List (ℕ × ℕ) → ℕ → Type 0
Rising pairs low = (rest : List (ℕ × ℕ)) → RiseFrom low rest → RiseFrom 0 (pairs ++ rest)

abbrev pub Growing : List TreeNode → ℕ → Type 0
Growing nodes trees = (rest : List TreeNode) → IsWhole trees rest → IsWhole 1 (nodes ++ rest)

pub record NodesStage (cert : CertText) (rows trees : ℕ) : Type 0 where
  pub head : Head cert rows
  pub claim : IsClaim cert.claim
  pub pairs : HasPairs cert.claim cert.pairs
  pub nodes : AllByRecursion (IsNode rows) cert.nodes
  pub growing : Growing cert.nodes trees

pub record PairsStage (cert : CertText) (rows low left : ℕ) : Type 0 where
  pub head : Head cert rows
  pub claim : IsClaim cert.claim
  pub value : HasValue cert.claim
  pub nodes : cert.nodes ≡ []
  pub rising : Rising cert.pairs low
  pub room : low + left ≤ 10 ^ 12

pub record PackageStage (cert : CertText) (rows : ℕ) : Type 0 where
  pub head : Head cert rows
  pub claim : IsClaim cert.claim
  pub value : HasValue cert.claim
  pub empty : Empty cert

abbrev pub IsStage : Expect → CertText → Type 0
IsStage AtHeader cert = Empty cert
IsStage AtVars cert = Empty cert
IsStage AtRows cert = (cert.vars < 2 ^ 32) × Empty cert
IsStage (AtClaim rows) cert = Head cert rows × Empty cert
IsStage (AtPackage rows) cert = PackageStage cert rows
IsStage (AtPairs rows low left) cert = PairsStage cert rows low left
IsStage (AtNodes rows trees) cert = NodesStage cert rows (suc trees)
IsStage AtEnd cert = NodesStage cert cert.rows 0
IsStage Done cert = IsCert cert

pub record Stepped (expect : Expect) (kind : Kind) (numbers : List ℕ) (cert : CertText) : Type 0 where
  pub stage : IsStage (after expect kind numbers) (taken cert kind numbers)
  pub rows_are : rows_until (after expect kind numbers) (taken cert kind numbers) ≡ rows_until expect cert ++ row kind numbers ∷ []

step_header : (numbers : List ℕ) (cert : CertText) → AllWithin (ranges AtHeader Header) numbers → IsStage AtHeader cert → Stepped AtHeader Header numbers cert
step_header [] cert within stage = record { stage = stage; rows_are = refl }
step_header (n ∷ numbers) cert within stage = absurd within

step_vars : (numbers : List ℕ) (cert : CertText) → AllWithin (ranges AtVars Vars) numbers → IsStage AtVars cert → Stepped AtVars Vars numbers cert
step_vars [] cert within stage = absurd within
step_vars (n ∷ []) cert within stage = record { stage = (omega (arith, within.0.high), record { pairs = stage.pairs; nodes = stage.nodes }); rows_are = refl }
step_vars (n ∷ (m ∷ numbers)) cert within stage = absurd within.1

step_rows : (numbers : List ℕ) (cert : CertText) → AllWithin (ranges AtRows Rows) numbers → IsStage AtRows cert → Stepped AtRows Rows numbers cert
step_rows [] cert within stage = absurd within
step_rows (n ∷ []) cert within stage = record { stage = (record { vars = stage.0; is = refl; few = within.0.high }, record { pairs = stage.1.pairs; nodes = stage.1.nodes }); rows_are = refl }
step_rows (n ∷ (m ∷ numbers)) cert within stage = absurd within.1

-- a claim with a value
valued : (rows : ℕ) (cert : CertText) (claim : Claim) → IsClaim claim → HasValue claim → IsStage (AtClaim rows) cert → PackageStage (record cert { claim = claim }) rows
valued rows cert claim is value stage =
    record {
      head = record { vars = stage.0.vars; is = stage.0.is; few = stage.0.few };
      claim = is;
      value = value;
      empty = record { pairs = stage.1.pairs; nodes = stage.1.nodes };
    }

-- a claim without one
grown_none : (nodes : List TreeNode) → nodes ≡ [] → Growing nodes 1
grown_none nodes none rest whole = subst (λ (some : List TreeNode). IsWhole 1 (some ++ rest)) (sym none) whole

all_none : (rows : ℕ) (nodes : List TreeNode) → nodes ≡ [] → AllByRecursion (IsNode rows) nodes
all_none rows nodes none = subst (λ (some : List TreeNode). AllByRecursion (IsNode rows) some) (sym none) tt

no_value : (rows : ℕ) (cert : CertText) (claim : Claim) → IsClaim claim → HasPairs claim cert.pairs → IsStage (AtClaim rows) cert → NodesStage (record cert { claim = claim }) rows 1
no_value rows cert claim is has stage =
    record {
      head = record { vars = stage.0.vars; is = stage.0.is; few = stage.0.few };
      claim = is;
      pairs = has;
      nodes = all_none rows cert.nodes stage.1.nodes;
      growing = grown_none cert.nodes stage.1.nodes;
    }

step_optimal : (rows : ℕ) (numbers : List ℕ) (cert : CertText) → AllWithin (ranges (AtClaim rows) Optimal) numbers → IsStage (AtClaim rows) cert → Stepped (AtClaim rows) Optimal numbers cert
step_optimal rows [] cert within stage = absurd within
step_optimal rows (n ∷ []) cert within stage = record { stage = valued rows cert (OptimalClaim (pos n)) within.0.high tt stage; rows_are = refl }
step_optimal rows (n ∷ (m ∷ numbers)) cert within stage = absurd within.1

step_optimal_minus : (rows : ℕ) (numbers : List ℕ) (cert : CertText) → AllWithin (ranges (AtClaim rows) OptimalMinus) numbers → IsStage (AtClaim rows) cert → Stepped (AtClaim rows) OptimalMinus numbers cert
step_optimal_minus rows [] cert within stage = absurd within
step_optimal_minus rows (zero ∷ []) cert within stage = absurd (omega (arith, within.0.low))
step_optimal_minus rows (suc n ∷ []) cert within stage = record { stage = valued rows cert (OptimalClaim (negsuc n)) within.0.high tt stage; rows_are = refl }
step_optimal_minus rows (n ∷ (m ∷ numbers)) cert within stage = absurd within.1

step_undecided : (rows : ℕ) (numbers : List ℕ) (cert : CertText) → AllWithin (ranges (AtClaim rows) Undecided) numbers → IsStage (AtClaim rows) cert → Stepped (AtClaim rows) Undecided numbers cert
step_undecided rows [] cert within stage = absurd within
step_undecided rows (n ∷ []) cert within stage = record { stage = valued rows cert (UndecidedClaim (Some (pos n))) within.0.high tt stage; rows_are = refl }
step_undecided rows (n ∷ (m ∷ numbers)) cert within stage = absurd within.1

step_undecided_minus : (rows : ℕ) (numbers : List ℕ) (cert : CertText) → AllWithin (ranges (AtClaim rows) UndecidedMinus) numbers → IsStage (AtClaim rows) cert → Stepped (AtClaim rows) UndecidedMinus numbers cert
step_undecided_minus rows [] cert within stage = absurd within
step_undecided_minus rows (zero ∷ []) cert within stage = absurd (omega (arith, within.0.low))
step_undecided_minus rows (suc n ∷ []) cert within stage = record { stage = valued rows cert (UndecidedClaim (Some (negsuc n))) within.0.high tt stage; rows_are = refl }
step_undecided_minus rows (n ∷ (m ∷ numbers)) cert within stage = absurd within.1

no_nodes : (cert : CertText) (claim : Row) → cert.nodes ≡ [] → rows_before cert (claim ∷ map node_row cert.nodes) ≡ rows_before cert (claim ∷ [])
no_nodes cert claim none = ap (λ (nodes : List TreeNode). rows_before cert (claim ∷ map node_row nodes)) none

step_infeasible : (rows : ℕ) (numbers : List ℕ) (cert : CertText) → AllWithin (ranges (AtClaim rows) Infeasible) numbers → IsStage (AtClaim rows) cert → Stepped (AtClaim rows) Infeasible numbers cert
step_infeasible rows [] cert within stage = record { stage = no_value rows cert InfeasibleClaim tt stage.1.pairs stage; rows_are = no_nodes cert (row Infeasible []) stage.1.nodes }
step_infeasible rows (n ∷ numbers) cert within stage = absurd within

step_undecided_none : (rows : ℕ) (numbers : List ℕ) (cert : CertText) → AllWithin (ranges (AtClaim rows) UndecidedNone) numbers → IsStage (AtClaim rows) cert → Stepped (AtClaim rows) UndecidedNone numbers cert
step_undecided_none rows [] cert within stage = record { stage = no_value rows cert (UndecidedClaim None) tt stage.1.pairs stage; rows_are = no_nodes cert (row UndecidedNone []) stage.1.nodes }
step_undecided_none rows (n ∷ numbers) cert within stage = absurd within

-- the package of a claim with a value
package_is : (claim : Claim) (pairs : List (ℕ × ℕ)) (left : ℕ) → HasValue claim → package_before claim pairs left ≡ row Package ((length pairs + left) ∷ []) ∷ map pair_row pairs
package_is (OptimalClaim value) pairs left has = refl
package_is InfeasibleClaim pairs left has = absurd has
package_is (UndecidedClaim None) pairs left has = absurd has
package_is (UndecidedClaim (Some value)) pairs left has = refl

pairs_of_value : (claim : Claim) (pairs : List (ℕ × ℕ)) → HasValue claim → RiseFrom 0 pairs → HasPairs claim pairs
pairs_of_value (OptimalClaim value) pairs has rise = rise
pairs_of_value InfeasibleClaim pairs has rise = absurd has
pairs_of_value (UndecidedClaim None) pairs has rise = absurd has
pairs_of_value (UndecidedClaim (Some value)) pairs has rise = rise

-- a package of so many pairs, of which some came
package_count : (claim : Claim) (pairs : List (ℕ × ℕ)) (left count : ℕ) → HasValue claim → length pairs + left ≡ count → package_before claim pairs left ≡ row Package (count ∷ []) ∷ map pair_row pairs
package_count claim pairs left count has is = package_is claim pairs left has ∙ ap (λ (n : ℕ). row Package (n ∷ []) ∷ map pair_row pairs) is

package_first : (claim : Claim) (pairs : List (ℕ × ℕ)) (count : ℕ) → HasValue claim → pairs ≡ [] → package_before claim pairs count ≡ row Package (count ∷ []) ∷ []
package_first claim pairs count has none =
    package_count claim pairs count count has (omega (arith, ap length none)) ∙ ap (λ (some : List (ℕ × ℕ)). row Package (count ∷ []) ∷ map pair_row some) none

step_package : (rows : ℕ) (numbers : List ℕ) (cert : CertText) → AllWithin (ranges (AtPackage rows) Package) numbers → IsStage (AtPackage rows) cert → Stepped (AtPackage rows) Package numbers cert
step_package rows [] cert within stage = absurd within
step_package rows (n ∷ (m ∷ numbers)) cert within stage = absurd within.1
step_package rows (zero ∷ []) cert within stage =
    record {
      stage = record {
        head = stage.head;
        claim = stage.claim;
        pairs = pairs_of_value cert.claim cert.pairs stage.value (subst (RiseFrom 0) (sym stage.empty.pairs) tt);
        nodes = all_none rows cert.nodes stage.empty.nodes;
        growing = grown_none cert.nodes stage.empty.nodes;
      };
      rows_are =
          ap (λ (nodes : List TreeNode). rows_before cert (claim_row cert.claim ∷ (package_before cert.claim cert.pairs 0 ++ map node_row nodes))) stage.empty.nodes
          ∙ ap (λ (some : List Row). rows_before cert (claim_row cert.claim ∷ some)) (append-nil (package_before cert.claim cert.pairs 0) ∙ package_first cert.claim cert.pairs 0 stage.value stage.empty.pairs);
    }
step_package rows (suc left ∷ []) cert within stage =
    record {
      stage = record {
        head = stage.head;
        claim = stage.claim;
        value = stage.value;
        nodes = stage.empty.nodes;
        rising = λ rest rise. subst (λ (pairs : List (ℕ × ℕ)). RiseFrom 0 (pairs ++ rest)) (sym stage.empty.pairs) rise;
        room = omega (arith, within.0.high);
      };
      rows_are = ap (λ (some : List Row). rows_before cert (claim_row cert.claim ∷ some)) (package_first cert.claim cert.pairs (suc left) stage.value stage.empty.pairs);
    }

-- one more pair
rising_more : (pairs : List (ℕ × ℕ)) (low id count : ℕ) → Rising pairs low → low ≤ id → id ≤ 10 ^ 12 → 1 ≤ count → count ≤ 10 ^ 12 → Rising (pairs ++ (id, count) ∷ []) (id + 1)
rising_more pairs low id count rising from to some most rest rise = rw append_assoc (rising ((id, count) ∷ rest) (from, to, some, most, rise))

pairs_more : (claim : Claim) (pairs : List (ℕ × ℕ)) (id count left : ℕ) → HasValue claim → package_before claim (pairs ++ (id, count) ∷ []) left ≡ package_before claim pairs (suc left) ++ row Pair (id ∷ (count ∷ [])) ∷ []
pairs_more claim pairs id count left has =
    let all : ℕ = length pairs + suc left in
    package_count claim (pairs ++ (id, count) ∷ []) left all has (omega (arith, length_push pairs (id, count)))
    ∙ (ap (λ (some : List Row). row Package (all ∷ []) ∷ some) (map-append pair_row pairs ((id, count) ∷ []))
    ∙ ap (λ (some : List Row). some ++ row Pair (id ∷ (count ∷ [])) ∷ []) (sym (package_is claim pairs (suc left) has)))

step_pair : (rows low left : ℕ) (numbers : List ℕ) (cert : CertText) → AllWithin (ranges (AtPairs rows low left) Pair) numbers → IsStage (AtPairs rows low left) cert → Stepped (AtPairs rows low left) Pair numbers cert
step_pair rows low left [] cert within stage = absurd within
step_pair rows low left (id ∷ []) cert within stage = absurd within.1
step_pair rows low left (id ∷ (count ∷ (m ∷ numbers))) cert within stage = absurd within.1.1
step_pair rows low zero (id ∷ (count ∷ [])) cert within stage =
    let pairs : List (ℕ × ℕ) = cert.pairs ++ (id, count) ∷ [] in
    let rising = rising_more cert.pairs low id count stage.rising within.0.low (omega (arith, within.0.high)) within.1.0.low within.1.0.high in
    record {
      stage = record {
        head = record { vars = stage.head.vars; is = stage.head.is; few = stage.head.few };
        claim = stage.claim;
        pairs = pairs_of_value cert.claim pairs stage.value (subst (RiseFrom 0) (append-nil pairs) (rising [] tt));
        nodes = all_none rows cert.nodes stage.nodes;
        growing = grown_none cert.nodes stage.nodes;
      };
      rows_are =
          ap (λ (nodes : List TreeNode). rows_before cert (claim_row cert.claim ∷ (package_before cert.claim pairs 0 ++ map node_row nodes))) stage.nodes
          ∙ ap (λ (some : List Row). rows_before cert (claim_row cert.claim ∷ some)) (append-nil (package_before cert.claim pairs 0) ∙ pairs_more cert.claim cert.pairs id count 0 stage.value);
    }
step_pair rows low (suc left) (id ∷ (count ∷ [])) cert within stage =
    record {
      stage = record {
        head = record { vars = stage.head.vars; is = stage.head.is; few = stage.head.few };
        claim = stage.claim;
        value = stage.value;
        nodes = stage.nodes;
        rising = rising_more cert.pairs low id count stage.rising within.0.low (omega (arith, within.0.high)) within.1.0.low within.1.0.high;
        room = omega (arith, within.0.high, stage.room);
      };
      rows_are = ap (λ (some : List Row). rows_before cert (claim_row cert.claim ∷ some)) (pairs_more cert.claim cert.pairs id count (suc left) stage.value);
    }

-- one more node
all_more : (rows : ℕ) (nodes : List TreeNode) (node : TreeNode) → AllByRecursion (IsNode rows) nodes → IsNode rows node → AllByRecursion (IsNode rows) (nodes ++ node ∷ [])
all_more rows [] node all is = (is, tt)
all_more rows (one ∷ nodes) node all is = (all.0, all_more rows nodes node all.1 is)

grown_more : (nodes : List TreeNode) (node : TreeNode) (trees left : ℕ) → Growing nodes trees → ((rest : List TreeNode) → IsWhole left rest → IsWhole trees (node ∷ rest)) → Growing (nodes ++ node ∷ []) left
grown_more nodes node trees left growing counts rest whole = rw append_assoc (growing (node ∷ rest) (counts rest whole))

noded : (cert : CertText) (node : TreeNode) (rows trees left : ℕ) → NodesStage cert rows trees → IsNode rows node → ((rest : List TreeNode) → IsWhole left rest → IsWhole trees (node ∷ rest)) → NodesStage (record cert { nodes = cert.nodes ++ node ∷ [] }) rows left
noded cert node rows trees left stage is counts =
    record {
      head = record { vars = stage.head.vars; is = stage.head.is; few = stage.head.few };
      claim = stage.claim;
      pairs = stage.pairs;
      nodes = all_more rows cert.nodes node stage.nodes is;
      growing = grown_more cert.nodes node trees left stage.growing counts;
    }

rows_noded : (cert : CertText) (node : TreeNode) (one : Row) → node_row node ≡ one
    → rows_before cert (claim_row cert.claim ∷ (package_before cert.claim cert.pairs 0 ++ map node_row (cert.nodes ++ node ∷ []))) ≡ rows_before cert (claim_row cert.claim ∷ (package_before cert.claim cert.pairs 0 ++ map node_row cert.nodes)) ++ one ∷ []
rows_noded cert node one is =
    let packed : List Row = package_before cert.claim cert.pairs 0 in
    ap (λ (some : List Row). rows_before cert (claim_row cert.claim ∷ (packed ++ some))) (map-append node_row cert.nodes (node ∷ []) ∙ ap (λ (last : Row). map node_row cert.nodes ++ last ∷ []) is)
    ∙ ap (λ (some : List Row). rows_before cert (claim_row cert.claim ∷ some)) (sym (append_assoc packed (map node_row cert.nodes) (one ∷ [])))

at_end : (cert : CertText) (rows : ℕ) → NodesStage cert rows 0 → NodesStage cert cert.rows 0
at_end cert rows stage = subst (λ (n : ℕ). NodesStage cert n 0) (sym stage.head.is) stage

mult_from : (rows d : ℕ) (lambda : List ℕ) → AllWithin (weight_range ∷ replicate rows weight_range) (d ∷ lambda) → IsMult rows (record { d = d; lambda = lambda })
mult_from rows d lambda within = record { each = count rows lambda within.1; cost = within.0.high; small = small rows lambda within.1 }
  where
    count : (m : ℕ) (numbers : List ℕ) → AllWithin (replicate m weight_range) numbers → length numbers ≡ m
    count zero [] all = refl
    count zero (n ∷ numbers) all = absurd all
    count (suc m) [] all = absurd all
    count (suc m) (n ∷ numbers) all = ap suc (count m numbers all.1)

    small : (m : ℕ) (numbers : List ℕ) → AllWithin (replicate m weight_range) numbers → AllByRecursion (λ multiplier. multiplier ≤ 2 ^ 30) numbers
    small zero [] all = tt
    small zero (n ∷ numbers) all = absurd all
    small (suc m) [] all = absurd all
    small (suc m) (n ∷ numbers) all = (all.0.high, small m numbers all.1)

step_close : (rows trees : ℕ) (numbers : List ℕ) (cert : CertText) → AllWithin (ranges (AtNodes rows trees) Close) numbers → IsStage (AtNodes rows trees) cert → Stepped (AtNodes rows trees) Close numbers cert
step_close rows trees [] cert within stage = absurd within
step_close rows zero (d ∷ lambda) cert within stage =
    let node : TreeNode = LeafNode (record { d = d; lambda = lambda }) in
    record { stage = at_end (record cert { nodes = cert.nodes ++ node ∷ [] }) rows (noded cert node rows 1 0 stage (mult_from rows d lambda within) (λ rest whole. whole)); rows_are = rows_noded cert node (row Close (d ∷ lambda)) refl }
step_close rows (suc trees) (d ∷ lambda) cert within stage =
    let node : TreeNode = LeafNode (record { d = d; lambda = lambda }) in
    record { stage = noded cert node rows (suc (suc trees)) (suc trees) stage (mult_from rows d lambda within) (λ rest whole. whole); rows_are = rows_noded cert node (row Close (d ∷ lambda)) refl }

step_open : (rows trees : ℕ) (numbers : List ℕ) (cert : CertText) → AllWithin (ranges (AtNodes rows trees) Open) numbers → IsStage (AtNodes rows trees) cert → Stepped (AtNodes rows trees) Open numbers cert
step_open rows trees (n ∷ numbers) cert within stage = absurd within
step_open rows zero [] cert within stage =
    record { stage = at_end (record cert { nodes = cert.nodes ++ OpenNode ∷ [] }) rows (noded cert OpenNode rows 1 0 stage tt (λ rest whole. whole)); rows_are = rows_noded cert OpenNode (row Open []) refl }
step_open rows (suc trees) [] cert within stage =
    record { stage = noded cert OpenNode rows (suc (suc trees)) (suc trees) stage tt (λ rest whole. whole); rows_are = rows_noded cert OpenNode (row Open []) refl }

step_split : (rows trees : ℕ) (numbers : List ℕ) (cert : CertText) → AllWithin (ranges (AtNodes rows trees) Split) numbers → IsStage (AtNodes rows trees) cert → Stepped (AtNodes rows trees) Split numbers cert
step_split rows trees [] cert within stage = absurd within
step_split rows trees (v ∷ []) cert within stage = absurd within.1
step_split rows trees (v ∷ (at ∷ [])) cert within stage = absurd within.1.1
step_split rows trees (v ∷ (at ∷ (d ∷ lambda))) cert within stage =
    let node : TreeNode = SplitNode (v - 1) at (record { d = d; lambda = lambda }) in
    let var_is : v - 1 + 1 ≡ v = omega (arith, within.0.low) in
    let more : suc (trees + 1) ≡ suc (suc trees) = omega arith in
    record {
      stage = noded cert node rows (suc trees) (suc (trees + 1)) stage (omega (arith, within.0.high, within.0.low), within.1.0.high, mult_from rows d lambda within.1.1)
          (λ rest whole. subst (λ (n : ℕ). IsWhole n rest) more whole);
      rows_are = rows_noded cert node (row Split (v ∷ (at ∷ (d ∷ lambda)))) (ap (λ (n : ℕ). row Split (n ∷ (at ∷ (d ∷ lambda)))) var_is);
    }

step_end : (numbers : List ℕ) (cert : CertText) → AllWithin (ranges AtEnd End) numbers → IsStage AtEnd cert → Stepped AtEnd End numbers cert
step_end (n ∷ numbers) cert within stage = absurd within
step_end [] cert within stage =
    record {
      stage = record {
        vars = stage.head.vars;
        rows = stage.head.few;
        claim = stage.claim;
        pairs = stage.pairs;
        nodes = stage.nodes;
        whole = subst (IsWhole 1) (append-nil cert.nodes) (stage.growing [] tt);
      };
      rows_are = ap (λ (some : List Row). rows_before cert (claim_row cert.claim ∷ some)) (sym (append_assoc (package_before cert.claim cert.pairs 0) (map node_row cert.nodes) (row End [] ∷ [])));
    }

-- a line of one kind
at_kind : (expect : Expect) (kind only : Kind) (numbers : List ℕ) (cert : CertText) → kind ≡ only → AllWithin (ranges expect kind) numbers → (AllWithin (ranges expect only) numbers → Stepped expect only numbers cert) → Stepped expect kind numbers cert
at_kind expect kind only numbers cert is within steps =
    subst (λ (some : Kind). Stepped expect some numbers cert) (sym is) (steps (subst (λ (some : Kind). AllWithin (ranges expect some) numbers) is within))

pub step : (expect : Expect) (kind : Kind) (numbers : List ℕ) (cert : CertText) → Follows expect kind numbers → IsStage expect cert → Stepped expect kind numbers cert
step AtHeader kind numbers cert (inl is, within) stage = at_kind AtHeader kind Header numbers cert is within (λ h. step_header numbers cert h stage)
step AtHeader kind numbers cert (inr is, within) stage = absurd is
step AtVars kind numbers cert (inl is, within) stage = at_kind AtVars kind Vars numbers cert is within (λ h. step_vars numbers cert h stage)
step AtVars kind numbers cert (inr is, within) stage = absurd is
step AtRows kind numbers cert (inl is, within) stage = at_kind AtRows kind Rows numbers cert is within (λ h. step_rows numbers cert h stage)
step AtRows kind numbers cert (inr is, within) stage = absurd is
step (AtClaim rows) kind numbers cert (inl is, within) stage = at_kind (AtClaim rows) kind Optimal numbers cert is within (λ h. step_optimal rows numbers cert h stage)
step (AtClaim rows) kind numbers cert (inr (inl is), within) stage = at_kind (AtClaim rows) kind OptimalMinus numbers cert is within (λ h. step_optimal_minus rows numbers cert h stage)
step (AtClaim rows) kind numbers cert (inr (inr (inl is)), within) stage = at_kind (AtClaim rows) kind Infeasible numbers cert is within (λ h. step_infeasible rows numbers cert h stage)
step (AtClaim rows) kind numbers cert (inr (inr (inr (inl is))), within) stage = at_kind (AtClaim rows) kind UndecidedNone numbers cert is within (λ h. step_undecided_none rows numbers cert h stage)
step (AtClaim rows) kind numbers cert (inr (inr (inr (inr (inl is)))), within) stage = at_kind (AtClaim rows) kind Undecided numbers cert is within (λ h. step_undecided rows numbers cert h stage)
step (AtClaim rows) kind numbers cert (inr (inr (inr (inr (inr (inl is))))), within) stage = at_kind (AtClaim rows) kind UndecidedMinus numbers cert is within (λ h. step_undecided_minus rows numbers cert h stage)
step (AtClaim rows) kind numbers cert (inr (inr (inr (inr (inr (inr is))))), within) stage = absurd is
step (AtPackage rows) kind numbers cert (inl is, within) stage = at_kind (AtPackage rows) kind Package numbers cert is within (λ h. step_package rows numbers cert h stage)
step (AtPackage rows) kind numbers cert (inr is, within) stage = absurd is
step (AtPairs rows low left) kind numbers cert (inl is, within) stage = at_kind (AtPairs rows low left) kind Pair numbers cert is within (λ h. step_pair rows low left numbers cert h stage)
step (AtPairs rows low left) kind numbers cert (inr is, within) stage = absurd is
step (AtNodes rows trees) kind numbers cert (inl is, within) stage = at_kind (AtNodes rows trees) kind Close numbers cert is within (λ h. step_close rows trees numbers cert h stage)
step (AtNodes rows trees) kind numbers cert (inr (inl is), within) stage = at_kind (AtNodes rows trees) kind Split numbers cert is within (λ h. step_split rows trees numbers cert h stage)
step (AtNodes rows trees) kind numbers cert (inr (inr (inl is)), within) stage = at_kind (AtNodes rows trees) kind Open numbers cert is within (λ h. step_open rows trees numbers cert h stage)
step (AtNodes rows trees) kind numbers cert (inr (inr (inr is)), within) stage = absurd is
step AtEnd kind numbers cert (inl is, within) stage = at_kind AtEnd kind End numbers cert is within (λ h. step_end numbers cert h stage)
step AtEnd kind numbers cert (inr is, within) stage = absurd is
step Done kind numbers cert (is, within) stage = absurd is

pub sound : (expect : Expect) (cert : CertText) → IsStage expect cert → IsSound expect
sound AtHeader cert stage = tt
sound AtVars cert stage = tt
sound AtRows cert stage = tt
sound (AtClaim rows) cert stage = stage.0.few
sound (AtPackage rows) cert stage = stage.head.few
sound (AtPairs rows low left) cert stage = (stage.head.few, stage.room)
sound (AtNodes rows trees) cert stage = stage.head.few
sound AtEnd cert stage = tt
sound Done cert stage = tt

-- every stage can be completed
pub record Completes (expect : Expect) (cert : CertText) : Type 0 where
  pub whole : CertText
  pub more : List Row
  pub is : IsCert whole
  pub rows_are : rows_until Done whole ≡ rows_until expect cert ++ more

pub complete_by : (expect : Expect) (kind : Kind) (numbers : List ℕ) (cert : CertText) → Stepped expect kind numbers cert → Completes (after expect kind numbers) (taken cert kind numbers) → Completes expect cert
complete_by expect kind numbers cert stepped c =
    record {
      whole = c.whole;
      more = row kind numbers ∷ c.more;
      is = c.is;
      rows_are = c.rows_are ∙ (ap (λ (some : List Row). some ++ c.more) stepped.rows_are ∙ append_assoc (rows_until expect cert) (row kind numbers ∷ []) c.more);
    }

complete_done : (cert : CertText) → IsStage Done cert → Completes Done cert
complete_done cert stage = record { whole = cert; more = []; is = stage; rows_are = sym (append-nil (rows_until Done cert)) }

complete_end : (cert : CertText) → IsStage AtEnd cert → Completes AtEnd cert
complete_end cert stage = let s = step_end [] cert tt stage in complete_by AtEnd End [] cert s (complete_done cert s.stage)

complete_nodes : (rows trees : ℕ) (cert : CertText) → IsStage (AtNodes rows trees) cert → Completes (AtNodes rows trees) cert
complete_nodes rows zero cert stage =
    let s = step_open rows zero [] cert tt stage in
    complete_by (AtNodes rows zero) Open [] cert s (complete_end (taken cert Open []) s.stage)
complete_nodes rows (suc trees) cert stage =
    let s = step_open rows (suc trees) [] cert tt stage in
    complete_by (AtNodes rows (suc trees)) Open [] cert s (complete_nodes rows trees (taken cert Open []) s.stage)

complete_pairs : (rows low left : ℕ) (cert : CertText) → IsStage (AtPairs rows low left) cert → Completes (AtPairs rows low left) cert
complete_pairs rows low zero cert stage =
    let s = step_pair rows low zero (low ∷ (1 ∷ [])) cert (record { low = omega arith; high = omega (arith, stage.room) }, (record { low = omega arith; high = omega arith }, tt)) stage in
    complete_by (AtPairs rows low zero) Pair (low ∷ (1 ∷ [])) cert s (complete_nodes rows 0 (taken cert Pair (low ∷ (1 ∷ []))) s.stage)
complete_pairs rows low (suc left) cert stage =
    let s = step_pair rows low (suc left) (low ∷ (1 ∷ [])) cert (record { low = omega arith; high = omega (arith, stage.room) }, (record { low = omega arith; high = omega arith }, tt)) stage in
    complete_by (AtPairs rows low (suc left)) Pair (low ∷ (1 ∷ [])) cert s (complete_pairs rows (low + 1) left (taken cert Pair (low ∷ (1 ∷ []))) s.stage)

complete_claim : (rows : ℕ) (cert : CertText) → IsStage (AtClaim rows) cert → Completes (AtClaim rows) cert
complete_claim rows cert stage =
    let s = step_infeasible rows [] cert tt stage in
    complete_by (AtClaim rows) Infeasible [] cert s (complete_nodes rows 0 (taken cert Infeasible []) s.stage)

complete_rows : (cert : CertText) → IsStage AtRows cert → Completes AtRows cert
complete_rows cert stage =
    let s = step_rows (0 ∷ []) cert (record { low = omega arith; high = omega arith }, tt) stage in
    complete_by AtRows Rows (0 ∷ []) cert s (complete_claim 0 (taken cert Rows (0 ∷ [])) s.stage)

complete_vars : (cert : CertText) → IsStage AtVars cert → Completes AtVars cert
complete_vars cert stage =
    let s = step_vars (0 ∷ []) cert (record { low = omega arith; high = omega arith }, tt) stage in
    complete_by AtVars Vars (0 ∷ []) cert s (complete_rows (taken cert Vars (0 ∷ [])) s.stage)

pub complete : (expect : Expect) (cert : CertText) → IsStage expect cert → Completes expect cert
complete AtHeader cert stage =
    let s = step_header [] cert tt stage in
    complete_by AtHeader Header [] cert s (complete_vars cert s.stage)
complete AtVars cert stage = complete_vars cert stage
complete AtRows cert stage = complete_rows cert stage
complete (AtClaim rows) cert stage = complete_claim rows cert stage
complete (AtPackage rows) cert stage =
    let s = step_package rows (0 ∷ []) cert (record { low = omega arith; high = omega arith }, tt) stage in
    complete_by (AtPackage rows) Package (0 ∷ []) cert s (complete_nodes rows 0 cert s.stage)
complete (AtPairs rows low left) cert stage = complete_pairs rows low left cert stage
complete (AtNodes rows trees) cert stage = complete_nodes rows trees cert stage
complete AtEnd cert stage = complete_end cert stage
complete Done cert stage = complete_done cert stage

-- before the first line
pub start : (cert : CertText) → cert.pairs ≡ [] → cert.nodes ≡ [] → IsStage AtHeader cert
start cert pairs nodes = record { pairs = pairs; nodes = nodes }

-- all the lines
pub done_rows : (cert : CertText) → rows_until Done cert ≡ rows_of cert
done_rows cert = by cert.claim
  where
    by : (claim : Claim) → rows_until Done (record cert { claim = claim }) ≡ rows_of (record cert { claim = claim })
    by (OptimalClaim value) = let e : length cert.pairs + 0 ≡ length cert.pairs = omega arith in ap (λ (n : ℕ). rows_before cert (claim_row (OptimalClaim value) ∷ ((row Package (n ∷ []) ∷ map pair_row cert.pairs) ++ (map node_row cert.nodes ++ row End [] ∷ [])))) e
    by InfeasibleClaim = refl
    by (UndecidedClaim None) = refl
    by (UndecidedClaim (Some value)) = let e : length cert.pairs + 0 ≡ length cert.pairs = omega arith in ap (λ (n : ℕ). rows_before cert (claim_row (UndecidedClaim (Some value)) ∷ ((row Package (n ∷ []) ∷ map pair_row cert.pairs) ++ (map node_row cert.nodes ++ row End [] ∷ [])))) e
