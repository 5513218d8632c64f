-- Where pairs break a query first, by the pairs up to the first one with too many copies.
use Rattle.std.proofs.Common.{◌≡◌, ◌⊎◌, ℕ, suc, ◌+◌, ◌<◌, ◌≤◌, min, Bool, true, false, if◌then◌else◌, List, [], ◌∷◌, ◌++◌, Option, None, Some, add-one, refl, sym, ap, subst, ◌∙◌, inl, inr, arith}
use Rattle.std.proofs.lemmas.Bool.Decides.{leb_tells}
use Rattle.std.specs.Bool.{nat_le, nat_lt}
use Rattle.std.specs.List.{AllByRecursion}
use Rattle.bound_query.specs.Asks.{asks}
use Rattle.bound_query.specs.declared.queries.BoundQuery.{BoundQuery}
use Rattle.cert_text.specs.Certs.{RiseFrom}
use Rattle.package_judge.specs.Packages.{IsLimited, IsPackageOf}
use Rattle.package_judge.specs.Verdicts.{row_breaks, count_breaks, pair_breaks, pairs_break, keeps, conjuncts_break, breaks, first, IsVerdict, MeetsIfNothingBreaks}
use Rattle.package_judge.specs.declared.judging.Place.{Place}
use Rattle.package_judge.specs.declared.judging.Place.TheVariants as places
use Rattle.package_judge.specs.declared.judging.Verdict.{Verdict as Judged}
use Rattle.package_judge.specs.declared.judging.Verdict.TheVariants.{Meets, Breaks}
use Rattle.package_query.specs.Meaning as meaning
use Rattle.package_query.specs.Meaning.{total}
use Rattle.package_query.specs.Package.{RisesFrom, row_at}
use Rattle.package_query.specs.Query.{Conjunct, PackageQuery}
use Rattle.answer_check.specs.Verdicts.{Rows, held, held_repeat, break_of}
use Rattle.answer_check.specs.Packages.{cut_off, first_over, broken_by, IsJudged}

-- ---- the first place

first-some : (before later : List Place) (place : Place) → first before ≡ Some place → first (before ++ later) ≡ Some place
first-some [] later place is = let no : ⊥ = cc in absurd no
first-some (one ∷ more) later place is = is

pub first-none : (before : List Place) → first before ≡ None → before ≡ []
first-none [] none = refl
first-none (one ∷ more) none = let no : ⊥ = cc in absurd no

first-later : (before later : List Place) → first before ≡ None → first (before ++ later) ≡ first later
first-later before later none = ap (λ (places : List Place). first (places ++ later)) (first-none before none)

-- ---- counts

-- a count of at most a million is allowed as REPEAT allows it
count_same : (repeat : Option ℕ) (pair : ℕ × ℕ) → pair.1 ≤ 1000000 → count_breaks (Some (held_repeat repeat)) pair ≡ count_breaks repeat pair
count_same None pair few =
    elim (leb_tells pair.1 (999999 + 1)) [
      | inl holds ↦ ap (λ (b : Bool). if b then [] else places.Repeat pair.0 ∷ []) holds.0
      | inr fails ↦ absurd (omega (arith, fails.1, few))
    ]
count_same (Some k) pair few =
    elim (leb_tells pair.1 (k + 1)) [
      | inl holds ↦
          elim (leb_tells pair.1 (min k 999999 + 1)) [
            | inl both ↦ ap (λ (b : Bool). if b then [] else places.Repeat pair.0 ∷ []) (both.0 ∙ sym holds.0)
            | inr fails ↦ absurd (omega (arith, fails.1, holds.1, few))
          ]
      | inr fails ↦
          elim (leb_tells pair.1 (min k 999999 + 1)) [
            | inl both ↦ absurd (omega (arith, both.1, fails.1))
            | inr also ↦ ap (λ (b : Bool). if b then [] else places.Repeat pair.0 ∷ []) (also.0 ∙ sym fails.0)
          ]
    ]

-- a count of more is never allowed
count_over : (repeat : Option ℕ) (pair : ℕ × ℕ) → 1000000 < pair.1 → count_breaks (Some (held_repeat repeat)) pair ≡ places.Repeat pair.0 ∷ []
count_over repeat pair over =
    elim (leb_tells pair.1 (held_repeat repeat + 1)) [
      | inl holds ↦ absurd (omega (arith, holds.1, over, at_most repeat))
      | inr fails ↦ ap (λ (b : Bool). if b then [] else places.Repeat pair.0 ∷ []) fails.0
    ]
  where
    at_most : (repeat : Option ℕ) → held_repeat repeat ≤ 999999
    at_most None = omega arith
    at_most (Some k) = omega arith

-- ---- places

-- the first place, or that the row of this id is taken too often
abbrev or_repeat : Option Place → ℕ → Option Place
or_repeat None id = Some (places.Repeat id)
or_repeat (Some place) id = Some place

either_repeats : (repeat : Option ℕ) (id count : ℕ) → or_repeat (first (count_breaks repeat (id, count))) id ≡ Some (places.Repeat id)
either_repeats None id count = refl
either_repeats (Some k) id count =
    elim (nat_le count (k + 1)) as (λ (b : Bool). or_repeat (first (if b then [] else places.Repeat id ∷ [])) id ≡ Some (places.Repeat id)) [ true ↦ refl | false ↦ refl ]

over_first : (repeat : Option ℕ) (before later : List Place) (pair : ℕ × ℕ) (count : ℕ) → 1000000 < pair.1
    → first ((before ++ count_breaks (Some (held_repeat repeat)) pair) ++ later) ≡ or_repeat (first ((before ++ count_breaks repeat (pair.0, count)) ++ [])) pair.0
over_first repeat (place ∷ before) later pair count over = refl
over_first repeat [] later pair count over =
    let here : first (count_breaks (Some (held_repeat repeat)) pair) ≡ Some (places.Repeat pair.0) = ap first (count_over repeat pair over) in
    let whole : first (count_breaks (Some (held_repeat repeat)) pair ++ later) ≡ Some (places.Repeat pair.0) =
    first-some (count_breaks (Some (held_repeat repeat)) pair) later (places.Repeat pair.0) here in
    whole ∙ sym (ap (λ (found : Option Place). or_repeat found pair.0) (nothing_after (count_breaks repeat (pair.0, count))) ∙ either_repeats repeat pair.0 count)
  where
    nothing_after : (some : List Place) → first (some ++ []) ≡ first some
    nothing_after [] = refl
    nothing_after (one ∷ more) = refl

later_first : (here held_later later : List Place) (id : ℕ) → first held_later ≡ or_repeat (first later) id → first (here ++ held_later) ≡ or_repeat (first (here ++ later)) id
later_first [] held_later later id same = same
later_first (place ∷ here) held_later later id same = refl

-- ---- pairs

pair_same : {R : Type 0} (query : PackageQuery R) (rows : List (ℕ × R)) (pair : ℕ × ℕ) → pair.1 ≤ 1000000 → pair_breaks (held query) rows pair ≡ pair_breaks query rows pair
pair_same query rows pair few =
    ap (λ (later : List Place). row_breaks query.passes pair.0 (row_at pair.0 rows) ++ later) (count_same query.repeat pair few)

cut_at : (pair : ℕ × ℕ) (pairs : List (ℕ × ℕ)) (over : Bool) → nat_lt 1000000 pair.1 ≡ over → cut_off (pair ∷ pairs) ≡ (if over then (pair.0, 1000000) ∷ [] else pair ∷ cut_off pairs)
cut_at pair pairs over is = ap (λ (b : Bool). if b then (pair.0, 1000000) ∷ [] else pair ∷ cut_off pairs) is

over_at : (pair : ℕ × ℕ) (pairs : List (ℕ × ℕ)) (over : Bool) → nat_lt 1000000 pair.1 ≡ over → first_over (pair ∷ pairs) ≡ (if over then Some pair.0 else first_over pairs)
over_at pair pairs over is = ap (λ (b : Bool). if b then Some pair.0 else first_over pairs) is

pub pairs_over : {R : Type 0} (query : PackageQuery R) (rows : List (ℕ × R)) (pairs : List (ℕ × ℕ)) (over : ℕ) → first_over pairs ≡ Some over
    → first (pairs_break (held query) rows pairs) ≡ or_repeat (first (pairs_break query rows (cut_off pairs))) over
pairs_over query rows [] over is = let no : ⊥ = cc in absurd no
pairs_over {R} query rows (pair ∷ pairs) over is =
    elim (leb_tells 1000001 pair.1) [
      | inl holds ↦
          let id : Some pair.0 ≡ Some over = sym (over_at pair pairs true holds.0) ∙ is in
          let same : pair.0 ≡ over = cc in
          over_first query.repeat (row_breaks query.passes pair.0 (row_at pair.0 rows)) (pairs_break (held query) rows pairs) pair 1000000 (omega (arith, holds.1))
          ∙ ap (λ (cut : List (ℕ × ℕ)). or_repeat (first (pairs_break query rows cut)) pair.0) (sym (cut_at pair pairs true holds.0))
          ∙ ap (λ (id : ℕ). or_repeat (first (pairs_break query rows (cut_off (pair ∷ pairs)))) id) same
      | inr fails ↦
          let rest : first (pairs_break (held query) rows pairs) ≡ or_repeat (first (pairs_break query rows (cut_off pairs))) over =
          pairs_over query rows pairs over (sym (over_at pair pairs false fails.0) ∙ is) in
          ap (λ (here : List Place). first (here ++ pairs_break (held query) rows pairs)) (pair_same query rows pair (omega (arith, fails.1)))
          ∙ later_first (pair_breaks query rows pair) (pairs_break (held query) rows pairs) (pairs_break query rows (cut_off pairs)) over rest
          ∙ ap (λ (cut : List (ℕ × ℕ)). or_repeat (first (pairs_break query rows cut)) over) (sym (cut_at pair pairs false fails.0))
    ]

-- no pair has too many copies: nothing is cut off, and REPEAT is as it is
pub pairs_few : {R : Type 0} (query : PackageQuery R) (rows : List (ℕ × R)) (pairs : List (ℕ × ℕ)) → first_over pairs ≡ None → pairs_break (held query) rows pairs ≡ pairs_break query rows pairs
pairs_few query rows [] none = refl
pairs_few query rows (pair ∷ pairs) none =
    elim (leb_tells 1000001 pair.1) [
      | inl holds ↦ let no : Some pair.0 ≡ None = sym (over_at pair pairs true holds.0) ∙ none in let never : ⊥ = cc in absurd never
      | inr fails ↦
          let rest = pairs_few query rows pairs (sym (over_at pair pairs false fails.0) ∙ none) in
          ap (λ (here : List Place). here ++ pairs_break (held query) rows pairs) (pair_same query rows pair (omega (arith, fails.1)))
          ∙ ap (λ (later : List Place). pair_breaks query rows pair ++ later) rest
    ]

pub cut_few : (pairs : List (ℕ × ℕ)) → first_over pairs ≡ None → cut_off pairs ≡ pairs
cut_few [] none = refl
cut_few (pair ∷ pairs) none =
    elim (leb_tells 1000001 pair.1) [
      | inl holds ↦ let no : Some pair.0 ≡ None = sym (over_at pair pairs true holds.0) ∙ none in let never : ⊥ = cc in absurd never
      | inr fails ↦ cut_at pair pairs false fails.0 ∙ ap (λ (later : List (ℕ × ℕ)). pair ∷ later) (cut_few pairs (sym (over_at pair pairs false fails.0) ∙ none))
    ]

-- ---- which places come from pairs, and which from conjuncts

abbrev IsOfPair : Place → Type 0
IsOfPair (places.Id id) = Unit {0}
IsOfPair (places.Where id) = Unit {0}
IsOfPair (places.Repeat id) = Unit {0}
IsOfPair (places.Conjunct number) = ⊥

abbrev IsOfConjunct : Place → Type 0
IsOfConjunct (places.Id id) = ⊥
IsOfConjunct (places.Where id) = ⊥
IsOfConjunct (places.Repeat id) = ⊥
IsOfConjunct (places.Conjunct number) = Unit {0}

all_append : (P : Place → Type 0) (before later : List Place) → AllByRecursion P before → AllByRecursion P later → AllByRecursion P (before ++ later)
all_append P [] later all more = more
all_append P (one ∷ before) later all more = (all.0, all_append P before later all.1 more)

first_is : (P : Place → Type 0) (all : List Place) (place : Place) → AllByRecursion P all → first all ≡ Some place → P place
first_is P [] place each is = let no : ⊥ = cc in absurd no
first_is P (one ∷ more) place each is = let same : one ≡ place = cc in subst P same each.0

unless_of : (P : Place → Type 0) (test : Bool) (place : Place) → P place → AllByRecursion P (if test then [] else place ∷ [])
unless_of P true place is = tt
unless_of P false place is = (is, tt)

row_of_pair : {R : Type 0} (passes : R → Bool) (id : ℕ) (found : Option R) → AllByRecursion IsOfPair (row_breaks passes id found)
row_of_pair passes id None = (tt, tt)
row_of_pair passes id (Some row) = unless_of IsOfPair (passes row) (places.Where id) tt

count_of_pair : (repeat : Option ℕ) (pair : ℕ × ℕ) → AllByRecursion IsOfPair (count_breaks repeat pair)
count_of_pair None pair = tt
count_of_pair (Some k) pair = unless_of IsOfPair (nat_le pair.1 (k + 1)) (places.Repeat pair.0) tt

of_pairs : {R : Type 0} (query : PackageQuery R) (rows : List (ℕ × R)) (pairs : List (ℕ × ℕ)) → AllByRecursion IsOfPair (pairs_break query rows pairs)
of_pairs query rows [] = tt
of_pairs query rows (pair ∷ pairs) =
    all_append IsOfPair (pair_breaks query rows pair) (pairs_break query rows pairs)
    (all_append IsOfPair (row_breaks query.passes pair.0 (row_at pair.0 rows)) (count_breaks query.repeat pair) (row_of_pair query.passes pair.0 (row_at pair.0 rows)) (count_of_pair query.repeat pair))
    (of_pairs query rows pairs)

of_conjuncts : {R : Type 0} (rows : List (ℕ × R)) (pairs : List (ℕ × ℕ)) (number : ℕ) (conjuncts : List (Conjunct R)) → AllByRecursion IsOfConjunct (conjuncts_break rows pairs number conjuncts)
of_conjuncts rows pairs number [] = tt
of_conjuncts rows pairs number (conjunct ∷ conjuncts) =
    all_append IsOfConjunct (if keeps conjunct.comparison (total conjunct.terms rows pairs) then [] else places.Conjunct number ∷ []) (conjuncts_break rows pairs (number + 1) conjuncts)
    (unless_of IsOfConjunct (keeps conjunct.comparison (total conjunct.terms rows pairs)) (places.Conjunct number) tt)
    (of_conjuncts rows pairs (number + 1) conjuncts)

-- ---- verdicts

module _ (query : BoundQuery) (rows : Rows) (pairs : List (ℕ × ℕ)) where
  -- the places of the pairs up to the first with too many copies, and those of the conjuncts
  abbrev first_places : List Place
  first_places = pairs_break (asks query) rows (cut_off pairs)

  abbrev later_places : List Place
  later_places = conjuncts_break rows (cut_off pairs) 1 (asks query).conjuncts

  -- what the first of the pairs' places says of all pairs
  over_by : (over : ℕ) (place : Place) → first_over pairs ≡ Some over → or_repeat (first first_places) over ≡ Some place → break_of query rows pairs ≡ Some place
  over_by over place is comes =
      first-some (pairs_break (held (asks query)) rows pairs) (conjuncts_break rows pairs 1 (asks query).conjuncts) place (pairs_over (asks query) rows pairs over is ∙ comes)

  from_pair : (over : ℕ) (place : Place) → first_over pairs ≡ Some over → (IsOfConjunct place → ⊥) → first (first_places ++ later_places) ≡ Some place → break_of query rows pairs ≡ Some place
  from_pair over place is not told = by_first (first first_places) refl
    where
      by_first : (found : Option Place) → first first_places ≡ found → break_of query rows pairs ≡ Some place
      by_first None e = absurd (not (first_is IsOfConjunct later_places place (of_conjuncts rows (cut_off pairs) 1 (asks query).conjuncts) (sym (first-later first_places later_places e) ∙ told)))
      by_first (Some other) e =
          let same : Some other ≡ Some place = sym (first-some first_places later_places other e) ∙ told in
          over_by over place is (ap (λ (found : Option Place). or_repeat found over) (e ∙ same))

  from_conjunct : (over number : ℕ) → first_over pairs ≡ Some over → first (first_places ++ later_places) ≡ Some (places.Conjunct number) → break_of query rows pairs ≡ Some (places.Repeat over)
  from_conjunct over number is told = by_first (first first_places) refl
    where
      by_first : (found : Option Place) → first first_places ≡ found → break_of query rows pairs ≡ Some (places.Repeat over)
      by_first None e = over_by over (places.Repeat over) is (ap (λ (found : Option Place). or_repeat found over) e)
      by_first (Some other) e =
          let same : Some other ≡ Some (places.Conjunct number) = sym (first-some first_places later_places other e) ∙ told in
          absurd (first_is IsOfPair first_places (places.Conjunct number) (of_pairs (asks query) rows (cut_off pairs)) (e ∙ same))

  -- a package that meets the query breaks it nowhere
  nothing_breaks : MeetsIfNothingBreaks → (all : List (ℕ × ℕ)) → meaning.Meets (asks query) rows all → breaks (asks query) rows all ≡ []
  nothing_breaks law all meets = (law (asks query) rows all meets.rises).1 meets

  pub judged_over : MeetsIfNothingBreaks → (over : ℕ) (judged : Judged) → first_over pairs ≡ Some over → IsVerdict (asks query) rows (cut_off pairs) judged → break_of query rows pairs ≡ Some (broken_by judged over)
  judged_over law over (Breaks (places.Id id)) is told = from_pair over (places.Id id) is (λ no. no) told
  judged_over law over (Breaks (places.Where id)) is told = from_pair over (places.Where id) is (λ no. no) told
  judged_over law over (Breaks (places.Repeat id)) is told = from_pair over (places.Repeat id) is (λ no. no) told
  judged_over law over (Breaks (places.Conjunct number)) is told = from_conjunct over number is told
  judged_over law over (Meets value) is told =
      let none : first first_places ≡ None = nothing_first first_places later_places (nothing_breaks law (cut_off pairs) told.0) in
      over_by over (places.Repeat over) is (ap (λ (found : Option Place). or_repeat found over) none)
    where
      nothing_first : (before later : List Place) → before ++ later ≡ [] → first before ≡ None
      nothing_first [] later nil = refl
      nothing_first (one ∷ more) later nil = let no : ⊥ = cc in absurd no

  pub judged_few : MeetsIfNothingBreaks → (judged : Judged) → first_over pairs ≡ None → IsVerdict (asks query) rows (cut_off pairs) judged → IsJudged query rows pairs judged
  judged_few law judged none told = by_kind judged (subst (λ (cut : List (ℕ × ℕ)). IsVerdict (asks query) rows cut judged) (cut_few pairs none) told)
    where
      same : break_of query rows pairs ≡ first (breaks (asks query) rows pairs)
      same = ap (λ (some : List Place). first (some ++ conjuncts_break rows pairs 1 (asks query).conjuncts)) (pairs_few (asks query) rows pairs none)

      by_kind : (judged : Judged) → IsVerdict (asks query) rows pairs judged → IsJudged query rows pairs judged
      by_kind (Breaks place) said = same ∙ said
      by_kind (Meets value) said = (same ∙ ap first (nothing_breaks law pairs said.0), said.0, said.1)

-- ---- packages

rises_cut : (low : ℕ) (pairs : List (ℕ × ℕ)) → RiseFrom low pairs → RisesFrom low (cut_off pairs) × AllByRecursion IsLimited (cut_off pairs)
rises_cut low [] rise = (tt, tt)
rises_cut low (pair ∷ pairs) rise =
    elim (leb_tells 1000001 pair.1) [
      | inl holds ↦ rw (cut_at pair pairs true holds.0) ((rise.0, omega arith, tt), (omega arith, tt))
      | inr fails ↦
          let rest = rises_cut (suc pair.0) pairs (rw add-one at rise.4) in
          rw (cut_at pair pairs false fails.0) ((rise.0, rise.2, rest.0), (omega (arith, fails.1), rest.1))
    ]

-- what is cut off so is a package
pub cut_is_package : (pairs : List (ℕ × ℕ)) → RiseFrom 0 pairs → IsPackageOf (cut_off pairs)
cut_is_package pairs rise = let both = rises_cut 0 pairs rise in record { rises = both.0; limited = both.1 }
