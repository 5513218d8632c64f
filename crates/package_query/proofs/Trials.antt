-- What the search has tried, and what follows once it has tried all.
use Rattle.std.proofs.Common.{◌≡◌, ◌≢◌, ℕ, suc, ◌+◌, ◌<◌, ◌≤◌, List, [], ◌∷◌, ◌++◌, Option, None, Some, MatchOption, ℤ, inl, inr, refl, sym, ap, subst, ◌∙◌, arith, append_assoc}
use Rattle.std.specs.List.{AllByRecursion}
use Rattle.std.proofs.lemmas.Bool.{cases_lt, cond-false, ne_eqb}
use Rattle.std.proofs.lemmas.List.{append-nil}
use Rattle.package_query.specs.Package.{RisesFrom, AscendsFrom}
use Rattle.package_query.specs.Query.{PackageQuery}
use Rattle.package_query.specs.Meaning.{IsAllowed, Meets, Best, Empty, worth}
use Rattle.package_query.specs.Plain.{query_of}
use Rattle.package_query.specs.Search.{copies_of, TakesFrom, Extends, Improves}
use Rattle.package_query.specs.declared.plain.PlainBest.{PlainBest}
use Rattle.package_query.specs.declared.plain.PlainQuery.{PlainQuery}
use Rattle.package_query.proofs.Table.{TakesFrom-allowed}

-- the packages with fewer than so many copies of one row after the chosen pairs
abbrev pub IsTriedBelow : {R : Type 0} → ℕ → ℕ → List (ℕ × ℕ) → List (ℕ × R) → List (ℕ × ℕ) → Type 0
IsTriedBelow below id chosen left pairs =
    (count : ℕ) × (count < below) × Extends (chosen ++ copies_of id count) left pairs

-- one more count of copies
pub Improves-more : {R : Type 0} (query : PackageQuery R) (rows : List (ℕ × R)) (count id : ℕ) (chosen longer : List (ℕ × ℕ)) (left : List (ℕ × R)) (before between after : Option PlainBest) → longer ≡ chosen ++ copies_of id count → Improves query rows (IsTriedBelow count id chosen left) before between → Improves query rows (Extends longer left) between after → Improves query rows (IsTriedBelow (count + 1) id chosen left) before after
Improves-more query rows count id chosen longer left before between after same first second = record {
  found = second.found;
  keeps = λ least reaches. second.keeps least (first.keeps least reaches);
  covers = λ pairs tried meets.
      elim (cases_lt tried.0 count) [
        | inl below ↦ second.keeps (worth query rows pairs) (first.covers pairs (tried.0, below, tried.2) meets)
        | inr last ↦
            let equal : tried.0 ≡ count = omega (arith, last, tried.1) in
            let whole : longer ≡ chosen ++ copies_of id tried.0 = same ∙ ap (λ (n : ℕ). chosen ++ copies_of id n) (sym equal) in
            second.covers pairs (tried.2.0, rw whole tried.2.1, tried.2.2) meets
      ];
}

-- what holds of each item holds of each later one
AllByRecursion-later : (P : ℕ × ℕ → Type 0) (xs ys : List (ℕ × ℕ)) → AllByRecursion P (xs ++ ys) → AllByRecursion P ys
AllByRecursion-later P [] ys all = all
AllByRecursion-later P (x ∷ xs) ys all = AllByRecursion-later P xs ys all.1

-- each count of a package is at least 1
counts_rise : (low : ℕ) (pairs : List (ℕ × ℕ)) → RisesFrom low pairs → AllByRecursion (λ (pair : ℕ × ℕ). 1 ≤ pair.1) pairs
counts_rise low [] rises = tt
counts_rise low (pair ∷ pairs) rises = (rises.1, counts_rise (suc pair.0) pairs rises.2)

-- some copies of a row are its pair
copies_of-pair : (id : ℕ) (pair : ℕ × ℕ) → pair.0 ≡ id → 1 ≤ pair.1 → copies_of id pair.1 ≡ pair ∷ []
copies_of-pair id pair same some =
    let ne : pair.1 ≢ 0 = omega (arith, some) in
    cond-false _ _ _ (ne_eqb pair.1 0 ne) ∙ ap (λ (n : ℕ). (n, pair.1) ∷ []) (sym same)

-- the empty package takes from any table
TakesFrom-nil : {R : Type 0} (rows : List (ℕ × R)) → TakesFrom rows []
TakesFrom-nil [] = refl
TakesFrom-nil (entry ∷ entries) = tt

-- a package that goes on over the first row and the others has some count of the first, maybe 0
tried_all : (plain : PlainQuery) (rows : List (ℕ × List ℤ)) (chosen : List (ℕ × ℕ)) (first : ℕ × List ℤ) (others : List (ℕ × List ℤ)) (pairs tail : List (ℕ × ℕ)) → pairs ≡ chosen ++ tail → TakesFrom (first ∷ others) tail → Meets (query_of plain) rows pairs → IsTriedBelow (plain.repeat + 2) first.0 chosen others pairs
tried_all plain rows chosen first others pairs [] same takes meets =
    (0, omega arith, ([], same ∙ sym (append-nil (chosen ++ [])), TakesFrom-nil others))
tried_all plain rows chosen first others pairs (pair ∷ tail) same takes meets =
    elim takes [
      | inl of_first ↦
          let some = (AllByRecursion-later (λ (p : ℕ × ℕ). 1 ≤ p.1) chosen (pair ∷ tail) (subst (AllByRecursion (λ (p : ℕ × ℕ). 1 ≤ p.1)) same (counts_rise 0 pairs meets.rises))).0 in
          let allowed = (AllByRecursion-later (IsAllowed (query_of plain) rows) chosen (pair ∷ tail) (subst (AllByRecursion (IsAllowed (query_of plain) rows)) same meets.each)).0 in
          let copies : pair.1 ≤ plain.repeat + 1 = allowed.copies in
          let whole : (chosen ++ (pair ∷ [])) ++ tail ≡ chosen ++ (pair ∷ tail) = append_assoc chosen (pair ∷ []) tail in
          (pair.1, omega (arith, copies), (tail, rw (copies_of-pair first.0 pair of_first.0 some) (same ∙ sym whole), of_first.1))
      | inr of_others ↦ (0, omega arith, (pair ∷ tail, rw (append-nil chosen) same, of_others))
    ]

-- with every count of the first row, all packages over it and the others were tried
pub Improves-all : (plain : PlainQuery) (rows left : List (ℕ × List ℤ)) (chosen : List (ℕ × ℕ)) (first : ℕ × List ℤ) (others : List (ℕ × List ℤ)) (before after : Option PlainBest) → left ≡ first ∷ others → Improves (query_of plain) rows (IsTriedBelow (plain.repeat + 2) first.0 chosen others) before after → Improves (query_of plain) rows (Extends chosen left) before after
Improves-all plain rows left chosen first others before after parts improves = record {
  found = improves.found;
  keeps = improves.keeps;
  covers = λ pairs tried meets.
      let takes = rw parts at tried.2 in
      improves.covers pairs (tried_all plain rows chosen first others pairs tried.0 tried.1 takes meets) meets;
}

-- once all packages over the table were tried, what was found is best, and nothing found means that there is none
pub best_of_all : (plain : PlainQuery) (rows : List (ℕ × List ℤ)) (found : Option PlainBest) → AscendsFrom 0 rows → Improves (query_of plain) rows (Extends [] rows) None found → MatchOption found (Empty (query_of plain) rows) (λ (best : PlainBest). Best (query_of plain) rows best.pairs.items × (best.worth ≡ worth (query_of plain) rows best.pairs.items))
best_of_all plain rows None ascends improves =
    λ pairs meets. improves.covers pairs (pairs, refl, TakesFrom-allowed (query_of plain) rows pairs ascends meets.rises meets.each) meets
best_of_all plain rows (Some best) ascends improves = (
  record {
    meets = improves.found.0;
    none_better = λ other meets.
        rw (← improves.found.1) (improves.covers other (other, refl, TakesFrom-allowed (query_of plain) rows other ascends meets.rises meets.each) meets);
  },
  improves.found.1,
)
