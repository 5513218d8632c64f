-- A row is found by its id, and what holds of each row holds of it.
use Rattle.std.proofs.Common.{◌≡◌, ◌≢◌, ℕ, zero, suc, ◌<◌, ◌≤◌, List, [], ◌∷◌, length, get_or, Some, None, inl, inr, sym, subst, ◌∙◌, refl, arith, eq-eqb}
use Rattle.std.specs.List.{AllByRecursion, HoldsAt}
use Rattle.std.specs.List.Sorted.{IsNonDecreasingBy, IsPartitionPoint}
use Rattle.std.specs.Ordering.{nat_cmp, ordering_index}
use Rattle.std.specs.declared.cmp.Ordering.TheVariants.{Less, Equal, Greater}
use Rattle.std.proofs.lemmas.Cmp.{ranked}
use Rattle.std.proofs.lemmas.Bool.{cases_eq, cond-true, cond-false, ne_eqb}
use Rattle.std.proofs.lemmas.Bool.Decides.{nat_tests, leb_tells}
use Rattle.package_query.specs.Package.{AscendsFrom, row_at}

row_at-here : {R : Type 0} (id : ℕ) (entry : ℕ × R) (entries : List (ℕ × R)) → entry.0 ≡ id → row_at id (entry ∷ entries) ≡ Some entry.1
row_at-here id entry entries same = cond-true _ _ _ (eq-eqb entry.0 id same)

row_at-other : {R : Type 0} (id : ℕ) (entry : ℕ × R) (entries : List (ℕ × R)) → entry.0 ≢ id → row_at id (entry ∷ entries) ≡ row_at id entries
row_at-other id entry entries other = cond-false _ _ _ (ne_eqb entry.0 id other)

-- no id is below where the ids begin
ids_above : {R : Type 0} (rows : List (ℕ × R)) (low at : ℕ) (d : ℕ × R) → AscendsFrom low rows → at < length rows → low ≤ (get_or rows at d).0
ids_above [] low at d ascends within = absurd (omega (arith, within))
ids_above (entry ∷ entries) low zero d ascends within = ascends.0
ids_above (entry ∷ entries) low (suc at) d ascends within =
    omega (arith, ascends.0, ids_above entries (suc entry.0) at d ascends.1 (omega (arith, within)))

ids_rise : {R : Type 0} (rows : List (ℕ × R)) (low i j : ℕ) (d : ℕ × R) → AscendsFrom low rows → i ≤ j → j < length rows → (get_or rows i d).0 ≤ (get_or rows j d).0
ids_rise [] low i j d ascends le within = absurd (omega (arith, within))
ids_rise (entry ∷ entries) low zero zero d ascends le within = omega arith
ids_rise (entry ∷ entries) low zero (suc j) d ascends le within =
    omega (arith, ids_above entries (suc entry.0) j d ascends.1 (omega (arith, within)))
ids_rise (entry ∷ entries) low (suc i) zero d ascends le within = absurd (omega (arith, le))
ids_rise (entry ∷ entries) low (suc i) (suc j) d ascends le within =
    ids_rise entries (suc entry.0) i j d ascends.1 (omega (arith, le)) (omega (arith, within))

row_at-place : {R : Type 0} (rows : List (ℕ × R)) (low at id : ℕ) (d : ℕ × R) → AscendsFrom low rows → at < length rows → (get_or rows at d).0 ≡ id → row_at id rows ≡ Some (get_or rows at d).1
row_at-place [] low at id d ascends within is = absurd (omega (arith, within))
row_at-place (entry ∷ entries) low zero id d ascends within is = row_at-here id entry entries is
row_at-place (entry ∷ entries) low (suc at) id d ascends within is =
    let inside : at < length entries = omega (arith, within) in
    let other : entry.0 ≢ id = omega (arith, is, ids_above entries (suc entry.0) at d ascends.1 inside) in
    row_at-other id entry entries other ∙ row_at-place entries (suc entry.0) at id d ascends.1 inside is

row_at-nowhere : {R : Type 0} (rows : List (ℕ × R)) (id : ℕ) → ((at : ℕ) (d : ℕ × R) → at < length rows → (get_or rows at d).0 ≢ id) → row_at id rows ≡ None
row_at-nowhere [] id nowhere = refl
row_at-nowhere (entry ∷ entries) id nowhere =
    row_at-other id entry entries (nowhere 0 entry (omega arith))
    ∙ row_at-nowhere entries id (λ at d within. nowhere (suc at) d (omega (arith, within)))

rank-rises : (one other id : ℕ) → one ≤ other → ordering_index (nat_cmp one id) ≤ ordering_index (nat_cmp other id)
rank-rises one other id le = grind (arith, nat_tests)

-- what a binary search by id found, and what it didn't find
pub row_at-found : {R : Type 0} (rows : List (ℕ × R)) (id at : ℕ) (d : ℕ × R) → AscendsFrom 0 rows → at < length rows → HoldsAt (λ (entry : ℕ × R). nat_cmp entry.0 id ≡ Equal) rows at → Some (get_or rows at d).1 ≡ row_at id rows
row_at-found rows id at d ascends within equal =
    sym (row_at-place rows 0 at id d ascends within (ranked (get_or rows at d).0 id Equal (sym (equal d))))

pub row_at-absent : {R : Type 0} (rows : List (ℕ × R)) (id at : ℕ) → AscendsFrom 0 rows → (IsNonDecreasingBy (λ (entry : ℕ × R). ordering_index (nat_cmp entry.0 id)) rows → IsPartitionPoint (λ (entry : ℕ × R). nat_cmp entry.0 id ≡ Less) (λ (entry : ℕ × R). nat_cmp entry.0 id ≡ Greater) rows at) → None ≡ row_at id rows
row_at-absent {R} rows id at ascends parted =
    let point = parted (λ i j d le within. rank-rises (get_or rows i d).0 (get_or rows j d).0 id (ids_rise rows 0 i j d ascends le within)) in
    sym (row_at-nowhere rows id (λ k d within same.
    elim (leb_tells at k) [
      | inl above ↦
          let greater : id < (get_or rows k d).0 = ranked (get_or rows k d).0 id Greater (sym (point.1 k d above.1 within)) in
          omega (arith, greater, same)
      | inr below ↦
          let less : (get_or rows k d).0 < id = ranked (get_or rows k d).0 id Less (sym (point.0 k d (omega arith) below.1)) in
          omega (arith, less, same)
    ]))

pub all_found : {R : Type 0} (P : R → Type 0) (rows : List (ℕ × R)) (id : ℕ) (row : R) → AllByRecursion (λ (entry : ℕ × R). P entry.1) rows → row_at id rows ≡ Some row → P row
all_found P [] id row all found = let no : ⊥ = cc in absurd no
all_found P (entry ∷ entries) id row all found =
    elim (cases_eq entry.0 id) [
      | inl same ↦
          let is : entry.1 ≡ row = let e = sym (row_at-here id entry entries same) ∙ found in cc in
          subst P is all.0
      | inr other ↦ all_found P entries id row all.1 (sym (row_at-other id entry entries other) ∙ found)
    ]
