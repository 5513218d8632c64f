-- No package that meets a bound query takes a row more often than its row bound says.
use Rattle.std.proofs.Common.{◌≡◌, ℕ, zero, suc, ◌+◌, ◌<◌, ◌≤◌, List, [], ◌∷◌, length, map, slice_index_or, sym, ap, ◌∙◌, subst, Bool, true, cond, ℤ, pos, ◌+ℤ◌, ◌-ℤ◌, ◌*ℤ◌, Some, Contains, arith, ⊎_elim}
use Rattle.std.proofs.lemmas.Bool.{cases_lt}
use Rattle.std.proofs.lemmas.Int.{ints}
use Rattle.std.proofs.Math.IntN.{*ℤ_comm}
use Rattle.std.specs.List.{AllByRecursion, AllByRecursion-prop}
use Rattle.std.specs.Coded.{le_prop}
use Rattle.std.proofs.Math.Logic.{∥∥₁_elim}
use Rattle.lin_bound.proofs.Products.{mul-add_right}
use Rattle.table_schema.specs.declared.cells.Cell.{Cell}
use Rattle.package_query.specs.Meaning.{IsAllowed, Keeps, Meets, pair_gives, total}
use Rattle.package_query.specs.Query.{Holds, PackageQuery}
use Rattle.bound_query.specs.Fits.{count_times, KeepsCount, HasReason}
use Rattle.bound_query.specs.Asks.{asks}
use Rattle.bound_query.specs.Rows.{truth, true_on}
use Rattle.bound_query.specs.Terms.{term_value, compared, conjunct_of}
use Rattle.bound_query.specs.declared.conditions.RowPred.{RowPred}
use Rattle.bound_query.specs.declared.conditions.RowPred.TheFolds.{fold-roll-RowPred}
use Rattle.bound_query.specs.declared.conditions.RowPred.TheOpen.{RowPred-F}
use Rattle.bound_query.specs.declared.conditions.RowPred.TheVariants as preds
use Rattle.bound_query.specs.declared.queries.BoundTerm.{BoundTerm}
use Rattle.bound_query.specs.declared.queries.BoundConjunct.{BoundConjunct}
use Rattle.bound_query.specs.declared.queries.BoundQuery.{BoundQuery}
use Rattle.package_program.specs.Meaning.{RowBoundHolds}

-- how many copies there are
abbrev copies_in : List (ℕ × ℕ) → ℕ
copies_in [] = 0
copies_in (pair ∷ pairs) = pair.1 + copies_in pairs

each_within : (pairs : List (ℕ × ℕ)) (most : ℕ) → copies_in pairs ≤ most → AllByRecursion (λ (pair : ℕ × ℕ). pair.1 ≤ most) pairs
each_within [] most h = tt
each_within (pair ∷ pairs) most h = (omega (arith, h), each_within pairs most (omega (arith, h)))

on_all : (row : List Cell) → true_on preds.All row ≡ true
on_all row = ap (λ (pred : RowPred). true_on pred row) (sym preds.rolls-All) ∙ fold-roll-RowPred Bool (truth row) RowPred-F.All

one_each : (factor : ℤ) (row : List Cell) → term_value (count_times factor) row ≡ factor
one_each factor row = ap (λ (b : Bool). cond b ((factor *ℤ pos 1) -ℤ pos 0) (pos 0)) (on_all row) ∙ omega (arith, ints)

count_is : (factor : ℤ) (query : PackageQuery (List Cell)) (rows : List (ℕ × List Cell)) (pairs : List (ℕ × ℕ)) → AllByRecursion (IsAllowed query rows) pairs
    → total (map term_value (count_times factor ∷ [])) rows pairs ≡ factor *ℤ pos (copies_in pairs)
count_is factor query rows [] all = omega (arith, ints)
count_is factor query rows (pair ∷ pairs) all =
    let rest = count_is factor query rows pairs all.1 in
    let here = ap (pair_gives (map term_value (count_times factor ∷ [])) pair.1) all.0.found in
    let one = ap (λ (z : ℤ). pos pair.1 *ℤ z) (one_each factor all.0.row) in
    let turned = *ℤ_comm (pos pair.1) factor in
    let parts = mul-add_right factor (pos pair.1) (pos (copies_in pairs)) in
    let whole : pos (pair.1 + copies_in pairs) ≡ pos pair.1 +ℤ pos (copies_in pairs) = omega (arith, ints) in
    let moved = ap (λ (z : ℤ). factor *ℤ z) whole in
    omega (arith, ints, rest, here, one, turned, parts, moved)

by_repeat : (query : PackageQuery (List Cell)) (rows : List (ℕ × List Cell)) (pairs : List (ℕ × ℕ)) (most k : ℕ) → query.repeat ≡ Some k → most ≡ k + 1
    → AllByRecursion (IsAllowed query rows) pairs → AllByRecursion (λ (pair : ℕ × ℕ). pair.1 ≤ most) pairs
by_repeat query rows [] most k is some all = tt
by_repeat query rows (pair ∷ pairs) most k is some all =
    let copies : pair.1 ≤ k + 1 = rw is at all.0.copies in
    (omega (arith, copies, some), by_repeat query rows pairs most k is some all.1)

-- what all conditions keep, one of them keeps
one_kept : (rows : List (ℕ × List Cell)) (pairs : List (ℕ × ℕ)) (conjuncts : List BoundConjunct) (conjunct : BoundConjunct) (k : ℕ) → k < length conjuncts → slice_index_or conjuncts k conjunct ≡ conjunct
    → AllByRecursion (Keeps rows pairs) (map conjunct_of conjuncts) → Keeps rows pairs (conjunct_of conjunct)
one_kept rows pairs [] conjunct k l e all = absurd (omega (arith, l))
one_kept rows pairs (first ∷ conjuncts) conjunct zero l e all = subst (λ (c : BoundConjunct). Keeps rows pairs (conjunct_of c)) e all.0
one_kept rows pairs (first ∷ conjuncts) conjunct (suc k) l e all = one_kept rows pairs conjuncts conjunct k (omega (arith, l)) e all.1

by_conjunct : (query : PackageQuery (List Cell)) (rows : List (ℕ × List Cell)) (pairs : List (ℕ × ℕ)) (most : ℕ) (conjunct : BoundConjunct) → KeepsCount most conjunct
    → AllByRecursion (IsAllowed query rows) pairs → Keeps rows pairs (conjunct_of conjunct) → AllByRecursion (λ (pair : ℕ × ℕ). pair.1 ≤ most) pairs
by_conjunct query rows pairs most conjunct keeps all holds = ⊎_elim
    (λ (over : most < copies_in pairs).
    let same : total (map term_value conjunct.terms) rows pairs ≡ keeps.factor *ℤ pos (copies_in pairs) =
    ap (λ (terms : List BoundTerm). total (map term_value terms) rows pairs) keeps.count ∙ count_is keeps.factor query rows pairs all in
    let kept : Holds (compared conjunct.op conjunct.low conjunct.high) (keeps.factor *ℤ pos (copies_in pairs)) = rw same at holds in
    absurd (keeps.fails (copies_in pairs) over kept))
    (λ (within : copies_in pairs ≤ most). each_within pairs most within)
    (cases_lt most (copies_in pairs))

by_reason : (query : BoundQuery) (rows : List (ℕ × List Cell)) (pairs : List (ℕ × ℕ)) → Meets (asks query) rows pairs → HasReason query.repeat query.conjuncts query.row_bound
    → AllByRecursion (λ (pair : ℕ × ℕ). pair.1 ≤ query.row_bound) pairs
by_reason query rows pairs meets reason = ⊎_elim
    (λ (repeat : (k : ℕ) × (query.repeat ≡ Some k) × (query.row_bound ≡ k + 1)). by_repeat (asks query) rows pairs query.row_bound repeat.0 repeat.1 repeat.2 meets.each)
    (λ (reason : (conjunct : BoundConjunct) × Contains query.conjuncts conjunct × KeepsCount query.row_bound conjunct).
    by_conjunct (asks query) rows pairs query.row_bound reason.0 reason.2 meets.each
    (one_kept rows pairs query.conjuncts reason.0 reason.1.0 reason.1.1 reason.1.2 meets.conjuncts))
    reason

within-prop : (pairs : List (ℕ × ℕ)) (most : ℕ) → IsProp (AllByRecursion (λ (pair : ℕ × ℕ). pair.1 ≤ most) pairs)
within-prop pairs most = AllByRecursion-prop (λ (pair : ℕ × ℕ). pair.1 ≤ most) (λ (pair : ℕ × ℕ). le_prop) pairs

pub row_bound_is : RowBoundHolds
row_bound_is query rows pairs meets = ∥∥₁_elim query.copies.reason (within-prop pairs query.row_bound) (by_reason query rows pairs meets)
