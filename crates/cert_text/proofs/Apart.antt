-- Which lines a certificate has, that no line is another one, and that no text begins another.
use Rattle.std.proofs.Common.{◌≡◌, ◌≢◌, ◌⊎◌, ℕ, zero, suc, ◌+◌, ◌-◌, ◌^◌, ◌<◌, ◌≤◌, Bool, true, false, List, [], ◌∷◌, ◌++◌, length, take, get_or, map, replicate, refl, sym, ◌∙◌, ap, subst, arith, inl, inr, append_assoc, add-one, eq-eqb, nat_eq}
use Rattle.std.specs.Prelude.{if◌then◌else◌, ℤ, pos, negsuc, Option, None, Some}
use Rattle.std.specs.List.{AllByRecursion}
use Rattle.std.specs.Fmt.{decimal}
use Rattle.std.specs.Char.{digit_value}
use Rattle.std.specs.Str.Parse.{AllDigits}
use Rattle.std.proofs.lemmas.List.{append-nil, get_or_append_left}
use Rattle.std.proofs.lemmas.List.{append_cancel_left}
use Rattle.std.proofs.lemmas.Fmt.{decimal_injective}
use Rattle.std.proofs.lemmas.Str.Parse.{digit_from_value, digit_at}
use Rattle.pq_base.specs.Decimal.{BeginsWithDigit}
use Rattle.pq_base.proofs.Numerals.{split_once}
use Rattle.lin_bound.specs.declared.mult.Mult.{Mult}
use Rattle.cert_tree.specs.Trees.{IsWhole}
use Rattle.cert_tree.specs.declared.nodes.TreeNode.{TreeNode}
use Rattle.cert_tree.specs.declared.nodes.TreeNode.TheVariants.{Leaf as LeafNode, Split as SplitNode, Open as OpenNode}
use Rattle.cert_text.specs.declared.value.CertText.{CertText}
use Rattle.cert_text.specs.declared.value.Claim.{Claim}
use Rattle.cert_text.specs.declared.value.Claim.TheVariants.{Optimal as OptimalClaim, Infeasible as InfeasibleClaim, Undecided as UndecidedClaim}
use Rattle.cert_text.specs.declared.kinds.Kind.{Kind}
use Rattle.cert_text.specs.declared.kinds.Kind.TheVariants.{Header, Vars, Rows, Optimal, OptimalMinus, Infeasible, Undecided, UndecidedMinus, UndecidedNone, Package, Pair, Close, Split, Open, End}
use Rattle.cert_text.specs.declared.kinds.Expect.{Expect}
use Rattle.cert_text.specs.declared.kinds.Expect.TheVariants.{AtHeader, AtVars, AtRows, AtClaim, AtPackage, AtPairs, AtNodes, AtEnd, Done}
use Rattle.cert_text.specs.declared.numbers.Range.{Range}
use Rattle.cert_text.specs.Numbers.{blanked, listed, IsWithin, AllWithin}
use Rattle.cert_text.specs.Lines.{word, Row, row, line_of, text_of}
use Rattle.cert_text.specs.Expected.{range, weight_range, rows_in, id_range, ranges, kinds, IsOneOf, nodes_or_end, pairs_or_nodes, first, after}
use Rattle.cert_text.specs.Certs.{IsClaim, RiseFrom, HasPairs, IsMult, IsNode, IsCert, value_row, claim_row, pair_row, package_rows, node_row, rows_of, cert_text}
use Rattle.cert_text.specs.Rules.{Follows, Leads, HasNoFeed, tail}
use Rattle.cert_text.specs.Answers.{BeginsWith, TextsAreApart}
use Rattle.cert_text.proofs.Decimals.{wide, all_digits, some_digit}

-- a test for line feeds
fed : List ℕ → Bool
fed [] = false
fed (byte ∷ bytes) = if nat_eq byte 10 then true else fed bytes

fed_parts : (v more : Bool) (byte : ℕ) → (byte ≡ 10 → v ≡ true) → (if v then true else more) ≡ false → (byte ≢ 10) × (more ≡ false)
fed_parts true more byte is none = absurd (let no : ⊥ = cc in no)
fed_parts false more byte is none = ((λ e. let no : false ≡ true = is e in cc), none)

no_feed_test : (bytes : List ℕ) → fed bytes ≡ false → HasNoFeed bytes
unfolding fed
no_feed_test [] none = tt
no_feed_test (byte ∷ bytes) none =
    let parts = fed_parts (nat_eq byte 10) (fed bytes) byte (λ e. eq-eqb byte 10 e) none in
    (parts.0, no_feed_test bytes parts.1)

no_feed_word : (kind : Kind) → HasNoFeed (word kind)
unfolding fed
no_feed_word Header = no_feed_test (word Header) refl
no_feed_word Vars = no_feed_test (word Vars) refl
no_feed_word Rows = no_feed_test (word Rows) refl
no_feed_word Optimal = no_feed_test (word Optimal) refl
no_feed_word OptimalMinus = no_feed_test (word OptimalMinus) refl
no_feed_word Infeasible = no_feed_test (word Infeasible) refl
no_feed_word Undecided = no_feed_test (word Undecided) refl
no_feed_word UndecidedMinus = no_feed_test (word UndecidedMinus) refl
no_feed_word UndecidedNone = no_feed_test (word UndecidedNone) refl
no_feed_word Package = no_feed_test (word Package) refl
no_feed_word Pair = no_feed_test (word Pair) refl
no_feed_word Close = no_feed_test (word Close) refl
no_feed_word Split = no_feed_test (word Split) refl
no_feed_word Open = no_feed_test (word Open) refl
no_feed_word End = no_feed_test (word End) refl

pub no_feed-append : (a b : List ℕ) → HasNoFeed a → HasNoFeed b → HasNoFeed (a ++ b)
no_feed-append [] b none more = more
no_feed-append (byte ∷ a) b none more = (none.0, no_feed-append a b none.1 more)

no_feed_digits : (digits : List ℕ) → AllDigits 10 digits → HasNoFeed digits
no_feed_digits [] all = tt
no_feed_digits (digit ∷ digits) all =
    let from = digit_from_value digit all.0 in
    ((λ e. omega (arith, from, e)), no_feed_digits digits all.1)

-- no number is too large
abbrev AllSmall : List ℕ → Type 0
AllSmall numbers = AllByRecursion (λ number. number < 10 ^ 19) numbers

abbrev AllHigh : List Range → Type 0
AllHigh rs = AllByRecursion (λ r. r.high < 10 ^ 19) rs

all_small : (rs : List Range) (numbers : List ℕ) → AllHigh rs → AllWithin rs numbers → AllSmall numbers
all_small [] [] high within = tt
all_small [] (number ∷ numbers) high within = absurd within
all_small (r ∷ rs) [] high within = absurd within
all_small (r ∷ rs) (number ∷ numbers) high within = (omega (arith, high.0, within.0.high), all_small rs numbers high.1 within.1)

weights_high : (m : ℕ) → AllHigh (replicate m weight_range)
weights_high zero = tt
weights_high (suc m) = (omega arith, weights_high m)

id_high : (expect : Expect) → (id_range expect).high < 10 ^ 19
id_high (AtPairs rows low left) = omega arith
id_high AtHeader = omega arith
id_high AtVars = omega arith
id_high AtRows = omega arith
id_high (AtClaim rows) = omega arith
id_high (AtPackage rows) = omega arith
id_high (AtNodes rows trees) = omega arith
id_high AtEnd = omega arith
id_high Done = omega arith

ranges_high : (expect : Expect) (kind : Kind) → AllHigh (ranges expect kind)
ranges_high expect Header = tt
ranges_high expect Vars = (omega arith, tt)
ranges_high expect Rows = (omega arith, tt)
ranges_high expect Optimal = (omega arith, tt)
ranges_high expect OptimalMinus = (omega arith, tt)
ranges_high expect Infeasible = tt
ranges_high expect Undecided = (omega arith, tt)
ranges_high expect UndecidedMinus = (omega arith, tt)
ranges_high expect UndecidedNone = tt
ranges_high expect Package = (omega arith, tt)
ranges_high expect Pair = (id_high expect, (omega arith, tt))
ranges_high expect Close = (omega arith, weights_high (rows_in expect))
ranges_high expect Split = (omega arith, (omega arith, (omega arith, weights_high (rows_in expect))))
ranges_high expect Open = tt
ranges_high expect End = tt

no_feed_blanked : (numbers : List ℕ) → AllSmall numbers → HasNoFeed (blanked numbers)
no_feed_blanked [] small = tt
no_feed_blanked (number ∷ numbers) small =
    ((λ e. omega (arith, e)), no_feed-append (decimal number) (blanked numbers) (no_feed_digits (decimal number) (all_digits number small.0)) (no_feed_blanked numbers small.1))

no_feed_listed : (numbers : List ℕ) → AllSmall numbers → HasNoFeed (listed numbers)
no_feed_listed [] small = tt
no_feed_listed (number ∷ numbers) small = (no_feed_blanked (number ∷ numbers) small).1

pub no_feed_line : (expect : Expect) (kind : Kind) (numbers : List ℕ) → Follows expect kind numbers → HasNoFeed (line_of kind numbers)
no_feed_line expect kind numbers follows =
    no_feed-append (word kind) (listed numbers) (no_feed_word kind) (no_feed_listed numbers (all_small (ranges expect kind) numbers (ranges_high expect kind) follows.1))

-- a text has one first line
pub cut_line : (a b x y : List ℕ) → HasNoFeed a → HasNoFeed b → a ++ (10 ∷ x) ≡ b ++ (10 ∷ y) → (a ≡ b) × (x ≡ y)
cut_line [] [] x y no_a no_b e = (refl, cc)
cut_line [] (byte ∷ b) x y no_a no_b e = absurd (no_b.0 (let is : byte ≡ 10 = cc in is))
cut_line (byte ∷ a) [] x y no_a no_b e = absurd (no_a.0 (let is : byte ≡ 10 = cc in is))
cut_line (byte ∷ a) (other ∷ b) x y no_a no_b e =
    let rest : a ++ (10 ∷ x) ≡ b ++ (10 ∷ y) = cc in
    let same : byte ≡ other = cc in
    let both = cut_line a b x y no_a.1 no_b.1 rest in
    (cc (same, both.0), both.1)

-- numbers are written in one way
no_digit_blanked : (numbers : List ℕ) → BeginsWithDigit (blanked numbers) → ⊥
no_digit_blanked [] begins = begins
no_digit_blanked (number ∷ numbers) begins = omega (arith, begins)

blanked_once : (rs : List Range) (one other : List ℕ) → AllHigh rs → AllWithin rs one → AllWithin rs other → blanked one ≡ blanked other → one ≡ other
blanked_once [] [] [] high in_one in_other e = refl
blanked_once [] (number ∷ one) other high in_one in_other e = absurd in_one
blanked_once [] [] (number ∷ other) high in_one in_other e = absurd in_other
blanked_once (r ∷ rs) [] other high in_one in_other e = absurd in_one
blanked_once (r ∷ rs) (number ∷ one) [] high in_one in_other e = absurd in_other
blanked_once (r ∷ rs) (number ∷ one) (another ∷ other) high in_one in_other e =
    let small : number < 10 ^ 19 = omega (arith, high.0, in_one.0.high) in
    let less : another < 10 ^ 19 = omega (arith, high.0, in_other.0.high) in
    let rest : decimal number ++ blanked one ≡ decimal another ++ blanked other = cc in
    let both = split_once (decimal number) (decimal another) (blanked one) (blanked other) (all_digits number small) (all_digits another less) (no_digit_blanked one) (no_digit_blanked other) rest in
    let same : number ≡ another = decimal_injective number another (wide number small) (wide another less) both.0 in
    let tails : one ≡ other = blanked_once rs one other high.1 in_one.1 in_other.1 both.1 in
    cc

listed_once : (rs : List Range) (one other : List ℕ) → AllHigh rs → AllWithin rs one → AllWithin rs other → listed one ≡ listed other → one ≡ other
listed_once [] [] [] high in_one in_other e = refl
listed_once [] (number ∷ one) other high in_one in_other e = absurd in_one
listed_once [] [] (number ∷ other) high in_one in_other e = absurd in_other
listed_once (r ∷ rs) [] other high in_one in_other e = absurd in_one
listed_once (r ∷ rs) (number ∷ one) [] high in_one in_other e = absurd in_other
listed_once (r ∷ rs) (number ∷ one) (another ∷ other) high in_one in_other e =
    blanked_once (r ∷ rs) (number ∷ one) (another ∷ other) high in_one in_other (ap (λ (bytes : List ℕ). 32 ∷ bytes) e)

-- the first byte of a number
first_byte : (r : Range) (numbers : List ℕ) → r.high < 10 ^ 19 → AllWithin (r ∷ []) numbers → (48 ≤ get_or (listed numbers) 0 0) × (get_or (listed numbers) 0 0 ≤ 57)
first_byte r [] high within = absurd within
first_byte r (number ∷ numbers) high within =
    let small : number < 10 ^ 19 = omega (arith, high, within.0.high) in
    let is = get_or_append_left (decimal number) (blanked numbers) 0 0 (some_digit number small) in
    let from = digit_at (decimal number) 0 (all_digits number small) (some_digit number small) in
    (omega (arith, is, from), omega (arith, is, from))

-- the byte of a line at a place
abbrev byte_at : ℕ → Kind → List ℕ → ℕ
byte_at place kind numbers = get_or (line_of kind numbers) place 0

byte_is : (place : ℕ) (kind other : Kind) (numbers : List ℕ) → kind ≡ other → byte_at place kind numbers ≡ byte_at place other numbers
byte_is place kind other numbers is = ap (λ (some : Kind). byte_at place some numbers) is

digit_is : (expect : Expect) (place : ℕ) (kind other : Kind) (numbers : List ℕ) (r : Range) → kind ≡ other → ranges expect other ≡ r ∷ [] → byte_at place other numbers ≡ get_or (listed numbers) 0 0 → r.high < 10 ^ 19 → AllWithin (ranges expect kind) numbers → (48 ≤ byte_at place kind numbers) × (byte_at place kind numbers ≤ 57)
digit_is expect place kind other numbers r is rs_is byte high within =
    let here : AllWithin (r ∷ []) numbers = subst (λ (rs : List Range). AllWithin rs numbers) rs_is (subst (λ (some : Kind). AllWithin (ranges expect some) numbers) is within) in
    let from = first_byte r numbers high here in
    let same = byte_is place kind other numbers is in
    (omega (arith, from, same, byte), omega (arith, from, same, byte))

-- the kinds of lines that may come are apart
same_node : (m trees : ℕ) (k j : Kind) (a b : List ℕ) → IsOneOf (kinds (AtNodes m trees)) k → IsOneOf (kinds (AtNodes m trees)) j → line_of k a ≡ line_of j b → k ≡ j
same_node m trees k j a b (inl p) (inl q) e = p ∙ sym q
same_node m trees k j a b (inl p) (inr (inl q)) e = absurd (omega (arith, byte_is 0 k Close a p, byte_is 0 j Split b q, ap (λ (l : List ℕ). get_or l 0 0) e))
same_node m trees k j a b (inl p) (inr (inr (inl q))) e = absurd (omega (arith, byte_is 0 k Close a p, byte_is 0 j Open b q, ap (λ (l : List ℕ). get_or l 0 0) e))
same_node m trees k j a b (inr (inl p)) (inl q) e = absurd (omega (arith, byte_is 0 k Split a p, byte_is 0 j Close b q, ap (λ (l : List ℕ). get_or l 0 0) e))
same_node m trees k j a b (inr (inl p)) (inr (inl q)) e = p ∙ sym q
same_node m trees k j a b (inr (inl p)) (inr (inr (inl q))) e = absurd (omega (arith, byte_is 0 k Split a p, byte_is 0 j Open b q, ap (λ (l : List ℕ). get_or l 0 0) e))
same_node m trees k j a b (inr (inr (inl p))) (inl q) e = absurd (omega (arith, byte_is 0 k Open a p, byte_is 0 j Close b q, ap (λ (l : List ℕ). get_or l 0 0) e))
same_node m trees k j a b (inr (inr (inl p))) (inr (inl q)) e = absurd (omega (arith, byte_is 0 k Open a p, byte_is 0 j Split b q, ap (λ (l : List ℕ). get_or l 0 0) e))
same_node m trees k j a b (inr (inr (inl p))) (inr (inr (inl q))) e = p ∙ sym q
same_node m trees k j a b (inr (inr (inr p))) q e = absurd p
same_node m trees k j a b (inl p) (inr (inr (inr q))) e = absurd q
same_node m trees k j a b (inr (inl p)) (inr (inr (inr q))) e = absurd q
same_node m trees k j a b (inr (inr (inl p))) (inr (inr (inr q))) e = absurd q

same_claim : (m : ℕ) (k j : Kind) (a b : List ℕ) → IsOneOf (kinds (AtClaim m)) k → IsOneOf (kinds (AtClaim m)) j → AllWithin (ranges (AtClaim m) k) a → AllWithin (ranges (AtClaim m) j) b → line_of k a ≡ line_of j b → k ≡ j
same_claim m k j a b (inl p) (inl q) in_a in_b e = p ∙ sym q
same_claim m k j a b (inl p) (inr (inl q)) in_a in_b e = absurd (omega (arith, digit_is (AtClaim m) 14 k Optimal a (range 0 (2 ^ 60)) p refl refl (omega arith) in_a, byte_is 14 j OptimalMinus b q, ap (λ (l : List ℕ). get_or l 14 0) e))
same_claim m k j a b (inl p) (inr (inr (inl q))) in_a in_b e = absurd (omega (arith, byte_is 6 k Optimal a p, byte_is 6 j Infeasible b q, ap (λ (l : List ℕ). get_or l 6 0) e))
same_claim m k j a b (inl p) (inr (inr (inr (inl q)))) in_a in_b e = absurd (omega (arith, byte_is 6 k Optimal a p, byte_is 6 j UndecidedNone b q, ap (λ (l : List ℕ). get_or l 6 0) e))
same_claim m k j a b (inl p) (inr (inr (inr (inr (inl q))))) in_a in_b e = absurd (omega (arith, byte_is 6 k Optimal a p, byte_is 6 j Undecided b q, ap (λ (l : List ℕ). get_or l 6 0) e))
same_claim m k j a b (inl p) (inr (inr (inr (inr (inr (inl q)))))) in_a in_b e = absurd (omega (arith, byte_is 6 k Optimal a p, byte_is 6 j UndecidedMinus b q, ap (λ (l : List ℕ). get_or l 6 0) e))
same_claim m k j a b (inr (inl p)) (inl q) in_a in_b e = absurd (omega (arith, byte_is 14 k OptimalMinus a p, digit_is (AtClaim m) 14 j Optimal b (range 0 (2 ^ 60)) q refl refl (omega arith) in_b, ap (λ (l : List ℕ). get_or l 14 0) e))
same_claim m k j a b (inr (inl p)) (inr (inl q)) in_a in_b e = p ∙ sym q
same_claim m k j a b (inr (inl p)) (inr (inr (inl q))) in_a in_b e = absurd (omega (arith, byte_is 6 k OptimalMinus a p, byte_is 6 j Infeasible b q, ap (λ (l : List ℕ). get_or l 6 0) e))
same_claim m k j a b (inr (inl p)) (inr (inr (inr (inl q)))) in_a in_b e = absurd (omega (arith, byte_is 6 k OptimalMinus a p, byte_is 6 j UndecidedNone b q, ap (λ (l : List ℕ). get_or l 6 0) e))
same_claim m k j a b (inr (inl p)) (inr (inr (inr (inr (inl q))))) in_a in_b e = absurd (omega (arith, byte_is 6 k OptimalMinus a p, byte_is 6 j Undecided b q, ap (λ (l : List ℕ). get_or l 6 0) e))
same_claim m k j a b (inr (inl p)) (inr (inr (inr (inr (inr (inl q)))))) in_a in_b e = absurd (omega (arith, byte_is 6 k OptimalMinus a p, byte_is 6 j UndecidedMinus b q, ap (λ (l : List ℕ). get_or l 6 0) e))
same_claim m k j a b (inr (inr (inl p))) (inl q) in_a in_b e = absurd (omega (arith, byte_is 6 k Infeasible a p, byte_is 6 j Optimal b q, ap (λ (l : List ℕ). get_or l 6 0) e))
same_claim m k j a b (inr (inr (inl p))) (inr (inl q)) in_a in_b e = absurd (omega (arith, byte_is 6 k Infeasible a p, byte_is 6 j OptimalMinus b q, ap (λ (l : List ℕ). get_or l 6 0) e))
same_claim m k j a b (inr (inr (inl p))) (inr (inr (inl q))) in_a in_b e = p ∙ sym q
same_claim m k j a b (inr (inr (inl p))) (inr (inr (inr (inl q)))) in_a in_b e = absurd (omega (arith, byte_is 6 k Infeasible a p, byte_is 6 j UndecidedNone b q, ap (λ (l : List ℕ). get_or l 6 0) e))
same_claim m k j a b (inr (inr (inl p))) (inr (inr (inr (inr (inl q))))) in_a in_b e = absurd (omega (arith, byte_is 6 k Infeasible a p, byte_is 6 j Undecided b q, ap (λ (l : List ℕ). get_or l 6 0) e))
same_claim m k j a b (inr (inr (inl p))) (inr (inr (inr (inr (inr (inl q)))))) in_a in_b e = absurd (omega (arith, byte_is 6 k Infeasible a p, byte_is 6 j UndecidedMinus b q, ap (λ (l : List ℕ). get_or l 6 0) e))
same_claim m k j a b (inr (inr (inr (inl p)))) (inl q) in_a in_b e = absurd (omega (arith, byte_is 6 k UndecidedNone a p, byte_is 6 j Optimal b q, ap (λ (l : List ℕ). get_or l 6 0) e))
same_claim m k j a b (inr (inr (inr (inl p)))) (inr (inl q)) in_a in_b e = absurd (omega (arith, byte_is 6 k UndecidedNone a p, byte_is 6 j OptimalMinus b q, ap (λ (l : List ℕ). get_or l 6 0) e))
same_claim m k j a b (inr (inr (inr (inl p)))) (inr (inr (inl q))) in_a in_b e = absurd (omega (arith, byte_is 6 k UndecidedNone a p, byte_is 6 j Infeasible b q, ap (λ (l : List ℕ). get_or l 6 0) e))
same_claim m k j a b (inr (inr (inr (inl p)))) (inr (inr (inr (inl q)))) in_a in_b e = p ∙ sym q
same_claim m k j a b (inr (inr (inr (inl p)))) (inr (inr (inr (inr (inl q))))) in_a in_b e = absurd (omega (arith, byte_is 16 k UndecidedNone a p, digit_is (AtClaim m) 16 j Undecided b (range 0 (2 ^ 60)) q refl refl (omega arith) in_b, ap (λ (l : List ℕ). get_or l 16 0) e))
same_claim m k j a b (inr (inr (inr (inl p)))) (inr (inr (inr (inr (inr (inl q)))))) in_a in_b e = absurd (omega (arith, byte_is 16 k UndecidedNone a p, byte_is 16 j UndecidedMinus b q, ap (λ (l : List ℕ). get_or l 16 0) e))
same_claim m k j a b (inr (inr (inr (inr (inl p))))) (inl q) in_a in_b e = absurd (omega (arith, byte_is 6 k Undecided a p, byte_is 6 j Optimal b q, ap (λ (l : List ℕ). get_or l 6 0) e))
same_claim m k j a b (inr (inr (inr (inr (inl p))))) (inr (inl q)) in_a in_b e = absurd (omega (arith, byte_is 6 k Undecided a p, byte_is 6 j OptimalMinus b q, ap (λ (l : List ℕ). get_or l 6 0) e))
same_claim m k j a b (inr (inr (inr (inr (inl p))))) (inr (inr (inl q))) in_a in_b e = absurd (omega (arith, byte_is 6 k Undecided a p, byte_is 6 j Infeasible b q, ap (λ (l : List ℕ). get_or l 6 0) e))
same_claim m k j a b (inr (inr (inr (inr (inl p))))) (inr (inr (inr (inl q)))) in_a in_b e = absurd (omega (arith, digit_is (AtClaim m) 16 k Undecided a (range 0 (2 ^ 60)) p refl refl (omega arith) in_a, byte_is 16 j UndecidedNone b q, ap (λ (l : List ℕ). get_or l 16 0) e))
same_claim m k j a b (inr (inr (inr (inr (inl p))))) (inr (inr (inr (inr (inl q))))) in_a in_b e = p ∙ sym q
same_claim m k j a b (inr (inr (inr (inr (inl p))))) (inr (inr (inr (inr (inr (inl q)))))) in_a in_b e = absurd (omega (arith, digit_is (AtClaim m) 16 k Undecided a (range 0 (2 ^ 60)) p refl refl (omega arith) in_a, byte_is 16 j UndecidedMinus b q, ap (λ (l : List ℕ). get_or l 16 0) e))
same_claim m k j a b (inr (inr (inr (inr (inr (inl p)))))) (inl q) in_a in_b e = absurd (omega (arith, byte_is 6 k UndecidedMinus a p, byte_is 6 j Optimal b q, ap (λ (l : List ℕ). get_or l 6 0) e))
same_claim m k j a b (inr (inr (inr (inr (inr (inl p)))))) (inr (inl q)) in_a in_b e = absurd (omega (arith, byte_is 6 k UndecidedMinus a p, byte_is 6 j OptimalMinus b q, ap (λ (l : List ℕ). get_or l 6 0) e))
same_claim m k j a b (inr (inr (inr (inr (inr (inl p)))))) (inr (inr (inl q))) in_a in_b e = absurd (omega (arith, byte_is 6 k UndecidedMinus a p, byte_is 6 j Infeasible b q, ap (λ (l : List ℕ). get_or l 6 0) e))
same_claim m k j a b (inr (inr (inr (inr (inr (inl p)))))) (inr (inr (inr (inl q)))) in_a in_b e = absurd (omega (arith, byte_is 16 k UndecidedMinus a p, byte_is 16 j UndecidedNone b q, ap (λ (l : List ℕ). get_or l 16 0) e))
same_claim m k j a b (inr (inr (inr (inr (inr (inl p)))))) (inr (inr (inr (inr (inl q))))) in_a in_b e = absurd (omega (arith, byte_is 16 k UndecidedMinus a p, digit_is (AtClaim m) 16 j Undecided b (range 0 (2 ^ 60)) q refl refl (omega arith) in_b, ap (λ (l : List ℕ). get_or l 16 0) e))
same_claim m k j a b (inr (inr (inr (inr (inr (inl p)))))) (inr (inr (inr (inr (inr (inl q)))))) in_a in_b e = p ∙ sym q
same_claim m k j a b (inr (inr (inr (inr (inr (inr p)))))) q in_a in_b e = absurd p
same_claim m k j a b (inl p) (inr (inr (inr (inr (inr (inr q)))))) in_a in_b e = absurd q
same_claim m k j a b (inr (inl p)) (inr (inr (inr (inr (inr (inr q)))))) in_a in_b e = absurd q
same_claim m k j a b (inr (inr (inl p))) (inr (inr (inr (inr (inr (inr q)))))) in_a in_b e = absurd q
same_claim m k j a b (inr (inr (inr (inl p)))) (inr (inr (inr (inr (inr (inr q)))))) in_a in_b e = absurd q
same_claim m k j a b (inr (inr (inr (inr (inl p))))) (inr (inr (inr (inr (inr (inr q)))))) in_a in_b e = absurd q
same_claim m k j a b (inr (inr (inr (inr (inr (inl p)))))) (inr (inr (inr (inr (inr (inr q)))))) in_a in_b e = absurd q

one_kind : (only k j : Kind) → IsOneOf (only ∷ []) k → IsOneOf (only ∷ []) j → k ≡ j
one_kind only k j (inl p) (inl q) = p ∙ sym q
one_kind only k j (inr p) q = absurd p
one_kind only k j (inl p) (inr q) = absurd q

same_kind : (expect : Expect) (k j : Kind) (a b : List ℕ) → Follows expect k a → Follows expect j b → line_of k a ≡ line_of j b → k ≡ j
same_kind AtHeader k j a b f g e = one_kind Header k j f.0 g.0
same_kind AtVars k j a b f g e = one_kind Vars k j f.0 g.0
same_kind AtRows k j a b f g e = one_kind Rows k j f.0 g.0
same_kind (AtClaim m) k j a b f g e = same_claim m k j a b f.0 g.0 f.1 g.1 e
same_kind (AtPackage m) k j a b f g e = one_kind Package k j f.0 g.0
same_kind (AtPairs m low left) k j a b f g e = one_kind Pair k j f.0 g.0
same_kind (AtNodes m trees) k j a b f g e = same_node m trees k j a b f.0 g.0 e
same_kind AtEnd k j a b f g e = one_kind End k j f.0 g.0
same_kind Done k j a b f g e = absurd f.0

same_numbers : (expect : Expect) (k j : Kind) (a b : List ℕ) → k ≡ j → Follows expect k a → Follows expect j b → line_of k a ≡ line_of j b → a ≡ b
same_numbers expect k j a b is f g e =
    let within : AllWithin (ranges expect k) b = subst (λ (some : Kind). AllWithin (ranges expect some) b) (sym is) g.1 in
    let line : word k ++ listed a ≡ word k ++ listed b = subst (λ (some : Kind). line_of k a ≡ line_of some b) (sym is) e in
    listed_once (ranges expect k) a b (ranges_high expect k) f.1 within (append_cancel_left (word k) (listed a) (listed b) line)

-- Lines that lead to the end, with some text after them, go on after those that lead to a place
-- if their text does.
pub record GoOn (expect : Expect) (rows others : List Row) (rest more : List ℕ) : Type 0 where
  pub left : List Row
  pub leads : Leads expect left Done
  pub text_is : text_of left ++ more ≡ rest
  pub rows_are : others ≡ rows ++ left

follow_row : (start expect : Expect) (one other : Row) (rows others : List Row) (rest more : List ℕ)
    → Follows start one.kind one.numbers → Follows start other.kind other.numbers
    → Leads (after start other.kind other.numbers) others Done
    → text_of (other ∷ others) ++ more ≡ text_of (one ∷ rows) ++ rest
    → ((others : List Row) → Leads (after start one.kind one.numbers) others Done → text_of others ++ more ≡ text_of rows ++ rest → GoOn expect rows others rest more)
    → GoOn expect (one ∷ rows) (other ∷ others) rest more
follow_row start expect one other rows others rest more f g leads e go =
    let line = line_of one.kind one.numbers in
    let another = line_of other.kind other.numbers in
    let cut = cut_line another line (text_of others ++ more) (text_of rows ++ rest) (no_feed_line start other.kind other.numbers g) (no_feed_line start one.kind one.numbers f)
    (sym (append_assoc another (10 ∷ text_of others) more) ∙ (e ∙ append_assoc line (10 ∷ text_of rows) rest)) in
    let kind_is : other.kind ≡ one.kind = same_kind start other.kind one.kind other.numbers one.numbers g f cut.0 in
    let numbers_are : other.numbers ≡ one.numbers = same_numbers start other.kind one.kind other.numbers one.numbers kind_is g f cut.0 in
    let row_is : other ≡ one = ap (λ (k : Kind). row k other.numbers) kind_is ∙ ap (λ (n : List ℕ). row one.kind n) numbers_are in
    let there : Leads (after start one.kind one.numbers) others Done = subst (λ (some : Row). Leads (after start some.kind some.numbers) others Done) row_is leads in
    let found = go others there cut.1 in
    record { left = found.left; leads = found.leads; text_is = found.text_is; rows_are = ap (λ (some : Row). some ∷ others) row_is ∙ ap (λ (some : List Row). one ∷ some) found.rows_are }

no_row_done : (start : Expect) (kind : Kind) (numbers : List ℕ) → start ≡ Done → Follows start kind numbers → ⊥
no_row_done start kind numbers is follows = subst (λ (some : Expect). IsOneOf (kinds some) kind) is follows.0

pub follow : (start expect : Expect) (rows others : List Row) (rest more : List ℕ) → Leads start rows expect → Leads start others Done → text_of others ++ more ≡ text_of rows ++ rest → GoOn expect rows others rest more
follow start expect [] others rest more leads done e =
    record { left = others; leads = subst (λ (some : Expect). Leads some others Done) leads done; text_is = e; rows_are = refl }
follow start expect (one ∷ rows) [] rest more leads done e = absurd (no_row_done start one.kind one.numbers done leads.0)
follow start expect (one ∷ rows) (other ∷ others) rest more leads done e =
    follow_row start expect one other rows others rest more leads.0 done.0 done.1 e
    (λ (some : List Row) (there : Leads (after start one.kind one.numbers) some Done) (same : text_of some ++ more ≡ text_of rows ++ rest). follow (after start one.kind one.numbers) expect rows some rest more leads.1 there same)

-- the lines of a certificate lead to the end
weights_within : (m : ℕ) (lambda : List ℕ) → length lambda ≡ m → AllByRecursion (λ multiplier. multiplier ≤ 2 ^ 30) lambda → AllWithin (replicate m weight_range) lambda
weights_within zero [] each small = tt
weights_within zero (one ∷ lambda) each small = absurd (omega (arith, each))
weights_within (suc m) [] each small = absurd (omega (arith, each))
weights_within (suc m) (one ∷ lambda) each small = (record { low = omega arith; high = small.0 }, weights_within m lambda (omega (arith, each)) small.1)

mult_within : (m : ℕ) (mult : Mult) → IsMult m mult → AllWithin (weight_range ∷ replicate m weight_range) (mult.d ∷ mult.lambda)
mult_within m mult is = (record { low = omega arith; high = is.cost }, weights_within m mult.lambda is.each is.small)

nodes_lead : (m trees : ℕ) (nodes : List TreeNode) → AllByRecursion (IsNode m) nodes → IsWhole trees nodes → Leads (nodes_or_end m trees) (map node_row nodes ++ row End [] ∷ []) Done
nodes_lead m zero [] all whole = ((inl refl, tt), refl)
nodes_lead m zero (node ∷ nodes) all whole = absurd whole
nodes_lead m (suc trees) [] all whole = absurd whole
nodes_lead m (suc trees) (LeafNode mult ∷ nodes) all whole = ((inl refl, mult_within m mult all.0), nodes_lead m trees nodes all.1 whole)
nodes_lead m (suc trees) (SplitNode var at mult ∷ nodes) all whole = (
  (inr (inl refl), (record { low = omega arith; high = omega (arith, all.0.0) }, (record { low = omega arith; high = all.0.1 }, mult_within m mult all.0.2))),
  (let one : suc trees ≡ trees + 1 = omega arith in
      subst (λ (n : ℕ). Leads (AtNodes m n) (map node_row nodes ++ row End [] ∷ []) Done) one (nodes_lead m (suc (suc trees)) nodes all.1 whole)),
)
nodes_lead m (suc trees) (OpenNode ∷ nodes) all whole = ((inr (inr (inl refl)), tt), nodes_lead m trees nodes all.1 whole)

rise_room : (low : ℕ) (pairs : List (ℕ × ℕ)) → low ≤ 10 ^ 12 + 1 → RiseFrom low pairs → low + length pairs ≤ 10 ^ 12 + 1
rise_room low [] room rise = omega (arith, room)
rise_room low (pair ∷ pairs) room rise = omega (arith, rise.0, rise_room (pair.0 + 1) pairs (omega (arith, rise.1)) rise.4)

pairs_lead : (m low : ℕ) (pairs : List (ℕ × ℕ)) (rest : List Row) → RiseFrom low pairs → Leads (AtNodes m 0) rest Done → Leads (pairs_or_nodes m low (length pairs)) (map pair_row pairs ++ rest) Done
pairs_lead m low [] rest rise leads = leads
pairs_lead m low (pair ∷ pairs) rest rise leads = (
  (inl refl, (record { low = rise.0; high = omega (arith, rise_room (pair.0 + 1) pairs (omega (arith, rise.1)) rise.4) }, (record { low = rise.2; high = rise.3 }, tt))),
  pairs_lead m (pair.0 + 1) pairs rest rise.4 leads,
)

package_leads : (m : ℕ) (pairs : List (ℕ × ℕ)) (rest : List Row) → RiseFrom 0 pairs → Leads (AtNodes m 0) rest Done → Leads (AtPackage m) (row Package (length pairs ∷ []) ∷ (map pair_row pairs ++ rest)) Done
package_leads m pairs rest rise leads =
    ((inl refl, (record { low = omega arith; high = omega (arith, rise_room 0 pairs (omega arith) rise) }, tt)), pairs_lead m 0 pairs rest rise leads)

claim_leads : (m : ℕ) (claim : Claim) (pairs : List (ℕ × ℕ)) (rest : List Row) → IsClaim claim → HasPairs claim pairs → Leads (AtNodes m 0) rest Done → Leads (AtClaim m) (claim_row claim ∷ (package_rows claim pairs ++ rest)) Done
claim_leads m (OptimalClaim (pos n)) pairs rest is has leads = ((inl refl, (record { low = omega arith; high = is }, tt)), package_leads m pairs rest has leads)
claim_leads m (OptimalClaim (negsuc n)) pairs rest is has leads = ((inr (inl refl), (record { low = omega arith; high = is }, tt)), package_leads m pairs rest has leads)
claim_leads m InfeasibleClaim pairs rest is has leads = ((inr (inr (inl refl)), tt), leads)
claim_leads m (UndecidedClaim None) pairs rest is has leads = ((inr (inr (inr (inl refl))), tt), leads)
claim_leads m (UndecidedClaim (Some (pos n))) pairs rest is has leads = ((inr (inr (inr (inr (inl refl)))), (record { low = omega arith; high = is }, tt)), package_leads m pairs rest has leads)
claim_leads m (UndecidedClaim (Some (negsuc n))) pairs rest is has leads = ((inr (inr (inr (inr (inr (inl refl))))), (record { low = omega arith; high = is }, tt)), package_leads m pairs rest has leads)

pub rows_lead : (cert : CertText) → IsCert cert → Leads AtHeader (rows_of cert) Done
rows_lead cert is = (
  (inl refl, tt),
  (
    (inl refl, (record { low = omega arith; high = omega (arith, is.vars) }, tt)),
    (
      (inl refl, (record { low = omega arith; high = is.rows }, tt)),
      claim_leads cert.rows cert.claim cert.pairs (map node_row cert.nodes ++ row End [] ∷ []) is.claim is.pairs (nodes_lead cert.rows 1 cert.nodes is.nodes is.whole),
    ),
  ),
)

-- what lines say
claim_with : Kind → List ℕ → Claim
claim_with Optimal numbers = OptimalClaim (pos (first numbers))
claim_with OptimalMinus numbers = OptimalClaim (negsuc (first numbers - 1))
claim_with Infeasible numbers = InfeasibleClaim
claim_with UndecidedNone numbers = UndecidedClaim None
claim_with Undecided numbers = UndecidedClaim (Some (pos (first numbers)))
claim_with UndecidedMinus numbers = UndecidedClaim (Some (negsuc (first numbers - 1)))
claim_with kind numbers = InfeasibleClaim

claim_back : (claim : Claim) → claim_with (claim_row claim).kind (claim_row claim).numbers ≡ claim
unfolding claim_with
claim_back (OptimalClaim (pos n)) = refl
claim_back (OptimalClaim (negsuc n)) = let e : suc n - 1 ≡ n = omega arith in ap (λ (k : ℕ). OptimalClaim (negsuc k)) e
claim_back InfeasibleClaim = refl
claim_back (UndecidedClaim None) = refl
claim_back (UndecidedClaim (Some (pos n))) = refl
claim_back (UndecidedClaim (Some (negsuc n))) = let e : suc n - 1 ≡ n = omega arith in ap (λ (k : ℕ). UndecidedClaim (Some (negsuc k))) e

pairs_with : Kind → List ℕ → List (ℕ × ℕ) → List (ℕ × ℕ)
pairs_with Pair numbers more = (first numbers, first (tail numbers)) ∷ more
pairs_with kind numbers more = more

pairs_in : List Row → List (ℕ × ℕ)
pairs_in [] = []
pairs_in (one ∷ rows) = pairs_with one.kind one.numbers (pairs_in rows)

nodes_with : Kind → List ℕ → List TreeNode → List TreeNode
nodes_with Close numbers more = LeafNode (record { d = first numbers; lambda = tail numbers }) ∷ more
nodes_with Split numbers more = SplitNode (first numbers - 1) (first (tail numbers)) (record { d = first (tail (tail numbers)); lambda = tail (tail (tail numbers)) }) ∷ more
nodes_with Open numbers more = OpenNode ∷ more
nodes_with kind numbers more = more

nodes_in : List Row → List TreeNode
nodes_in [] = []
nodes_in (one ∷ rows) = nodes_with one.kind one.numbers (nodes_in rows)

nodes_back : (nodes : List TreeNode) → nodes_in (map node_row nodes ++ row End [] ∷ []) ≡ nodes
unfolding nodes_in nodes_with
nodes_back [] = refl
nodes_back (LeafNode mult ∷ nodes) = ap (λ (more : List TreeNode). LeafNode mult ∷ more) (nodes_back nodes)
nodes_back (SplitNode var at mult ∷ nodes) =
    let e : var + 1 - 1 ≡ var = omega arith in
    ap (λ (n : ℕ). SplitNode n at mult ∷ nodes_in (map node_row nodes ++ row End [] ∷ [])) e ∙ ap (λ (more : List TreeNode). SplitNode var at mult ∷ more) (nodes_back nodes)
nodes_back (OpenNode ∷ nodes) = ap (λ (more : List TreeNode). OpenNode ∷ more) (nodes_back nodes)

nodes_skip : (pairs : List (ℕ × ℕ)) (rest : List Row) → nodes_in (map pair_row pairs ++ rest) ≡ nodes_in rest
unfolding nodes_in nodes_with
nodes_skip [] rest = refl
nodes_skip (pair ∷ pairs) rest = nodes_skip pairs rest

pairs_skip : (nodes : List TreeNode) → pairs_in (map node_row nodes ++ row End [] ∷ []) ≡ []
unfolding pairs_in pairs_with
pairs_skip [] = refl
pairs_skip (LeafNode mult ∷ nodes) = pairs_skip nodes
pairs_skip (SplitNode var at mult ∷ nodes) = pairs_skip nodes
pairs_skip (OpenNode ∷ nodes) = pairs_skip nodes

pairs_back : (pairs : List (ℕ × ℕ)) (nodes : List TreeNode) → pairs_in (map pair_row pairs ++ (map node_row nodes ++ row End [] ∷ [])) ≡ pairs
unfolding pairs_in pairs_with
pairs_back [] nodes = pairs_skip nodes
pairs_back (pair ∷ pairs) nodes = ap (λ (more : List (ℕ × ℕ)). pair ∷ more) (pairs_back pairs nodes)

package_pairs : (claim : Claim) (pairs : List (ℕ × ℕ)) (nodes : List TreeNode) → HasPairs claim pairs → pairs_in (package_rows claim pairs ++ (map node_row nodes ++ row End [] ∷ [])) ≡ pairs
unfolding pairs_in pairs_with
package_pairs (OptimalClaim value) pairs nodes has = pairs_back pairs nodes
package_pairs InfeasibleClaim pairs nodes has = pairs_skip nodes ∙ sym has
package_pairs (UndecidedClaim None) pairs nodes has = pairs_skip nodes ∙ sym has
package_pairs (UndecidedClaim (Some value)) pairs nodes has = pairs_back pairs nodes

package_nodes : (claim : Claim) (pairs : List (ℕ × ℕ)) (nodes : List TreeNode) → nodes_in (package_rows claim pairs ++ (map node_row nodes ++ row End [] ∷ [])) ≡ nodes
unfolding nodes_in nodes_with
package_nodes (OptimalClaim value) pairs nodes = nodes_skip pairs (map node_row nodes ++ row End [] ∷ []) ∙ nodes_back nodes
package_nodes InfeasibleClaim pairs nodes = nodes_back nodes
package_nodes (UndecidedClaim None) pairs nodes = nodes_back nodes
package_nodes (UndecidedClaim (Some value)) pairs nodes = nodes_skip pairs (map node_row nodes ++ row End [] ∷ []) ∙ nodes_back nodes

row_at : ℕ → List Row → Row
row_at place rows = get_or rows place (row End [])

after_four : List Row → List Row
after_four (a ∷ (b ∷ (c ∷ (d ∷ rows)))) = rows
after_four rows = []

cert_by : ℕ → ℕ → Claim → List (ℕ × ℕ) → List TreeNode → CertText
cert_by vars rows claim pairs nodes = record { vars = vars; rows = rows; claim = claim; pairs = pairs; nodes = nodes }

-- a certificate is what its lines say
cert_in : List Row → CertText
cert_in rows = cert_by (first (row_at 1 rows).numbers) (first (row_at 2 rows).numbers)
    (claim_with (row_at 3 rows).kind (row_at 3 rows).numbers) (pairs_in (after_four rows)) (nodes_in (after_four rows))

cert_back : (cert : CertText) → HasPairs cert.claim cert.pairs → cert_in (rows_of cert) ≡ cert
unfolding cert_in cert_by row_at after_four
cert_back cert has =
    let rest : List Row = package_rows cert.claim cert.pairs ++ (map node_row cert.nodes ++ row End [] ∷ []) in
    ap (λ (claim : Claim). cert_by cert.vars cert.rows claim (pairs_in rest) (nodes_in rest)) (claim_back cert.claim)
    ∙ (ap (λ (pairs : List (ℕ × ℕ)). cert_by cert.vars cert.rows cert.claim pairs (nodes_in rest)) (package_pairs cert.claim cert.pairs cert.nodes has)
    ∙ ap (λ (nodes : List TreeNode). cert_by cert.vars cert.rows cert.claim cert.pairs nodes) (package_nodes cert.claim cert.pairs cert.nodes))

none_after : (rows : List Row) → Leads Done rows Done → rows ≡ []
none_after [] leads = refl
none_after (one ∷ rows) leads = absurd leads.0.0

pub texts_are_apart : TextsAreApart
texts_are_apart one other rest is begins =
    let found = follow AtHeader Done (rows_of other) (rows_of one) rest [] (rows_lead other begins.0) (rows_lead one is) (append-nil (cert_text one) ∙ begins.1) in
    let none = none_after found.left found.leads in
    let rows_are : rows_of one ≡ rows_of other = found.rows_are ∙ (ap (λ (left : List Row). rows_of other ++ left) none ∙ append-nil (rows_of other)) in (
      sym (cert_back one is.pairs) ∙ (ap cert_in rows_are ∙ cert_back other begins.0.pairs),
      sym found.text_is ∙ ap (λ (left : List Row). text_of left ++ []) none,
    )
