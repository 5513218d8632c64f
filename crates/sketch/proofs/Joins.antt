-- Counts that are put together part by part.
use Rattle.std.proofs.Common.{◌≡◌, ◌≢◌, ℕ, ◌+◌, ◌<◌, ◌≤◌, ◌⊎◌, inl, inr, List, [], length, get_or, set, sym, ap, ◌∙◌, arith}
use Rattle.std.proofs.lemmas.Bool.{cases_lt}
use Rattle.std.proofs.lemmas.List.{length-set, get_or-set_same, get_or-set_other, get_or_read}
use Rattle.lin_bound.specs.Sums.{nat_at}
use Rattle.lin_bound.specs.Problem.{ProblemData, variables}
use Rattle.sketch.specs.Parts.{part_at, ArePartsOf}
use Rattle.sketch.specs.Joined.{counts_at, AreOnce, IsSpread}
use Rattle.sketch.proofs.Cuts.{each_is_part, apart}

-- the first members have their counts
pub record IsSpreadTo (part counts before now : List ℕ) (n : ℕ) : Type 0 where
  pub long : length now ≡ length before
  pub members : (k : ℕ) → k < n → nat_at now (nat_at part k) ≡ nat_at counts k
  pub others : (i : ℕ) → ((k : ℕ) → k < n → nat_at part k ≢ i) → nat_at now i ≡ nat_at before i

pub spread_more : (part counts before now next : List ℕ) (n : ℕ) → AreOnce part (length before) → n < length part → IsSpreadTo part counts before now n → next ≡ set now (nat_at part n) (nat_at counts n) → IsSpreadTo part counts before next (n + 1)
spread_more part counts before now next n once h so_far next_is = record {
  long = ap length next_is ∙ length-set now (nat_at part n) (nat_at counts n) ∙ so_far.long;
  members = λ k l. rw next_is (member k l (cases_lt k n));
  others = λ i away.
      let apart : i ≢ nat_at part n = λ e. away n (omega arith) (sym e) in
      ap (λ (xs : List ℕ). nat_at xs i) next_is ∙ get_or-set_other now (nat_at part n) i (nat_at counts n) 0 apart ∙ so_far.others i (λ k l. away k (omega (arith, l)));
}
  where
    inside : nat_at part n < length now
    inside = omega (arith, once.each n h, so_far.long)

    member : (k : ℕ) → k < n + 1 → (k < n) ⊎ (n ≤ k) → nat_at (set now (nat_at part n) (nat_at counts n)) (nat_at part k) ≡ nat_at counts k
    member k l (inl less) =
        let away : nat_at part k ≢ nat_at part n = λ e. let same : k ≡ n = once.once k n (omega (arith, less, h)) h e in omega (arith, same, less) in
        get_or-set_other now (nat_at part n) (nat_at part k) (nat_at counts n) 0 away ∙ so_far.members k less
    member k l (inr more) =
        let same : k ≡ n = omega (arith, l, more) in
        rw same (get_or-set_same now (nat_at part n) (nat_at counts n) 0 inside)

-- the first parts have their counts
pub record IsJoinedTo (p : ProblemData) (parts counts : List (List ℕ)) (point : List ℕ) (n : ℕ) : Type 0 where
  pub each : length point ≡ variables p
  pub placed : (g k : ℕ) → g < n → k < length (part_at parts g) → nat_at point (nat_at (part_at parts g) k) ≡ nat_at (counts_at counts g) k

-- a part's members are members of the point
pub can_spread : (p : ProblemData) (parts : List (List ℕ)) (g : ℕ) (point item slice : List ℕ) → ArePartsOf p parts → g < length parts → item ≡ get_or parts g item → slice ≡ item → length point ≡ variables p → AreOnce slice (length point)
can_spread p parts g point item slice cut h item_is slice_is long =
    let part = each_is_part p parts g cut h in
    rw (slice_is ∙ get_or_read parts g item h item_is [], long) (record { each = part.each; once = part.once })

pub joined_more : (p : ProblemData) (parts counts : List (List ℕ)) (point next : List ℕ) (n : ℕ) (part given : List ℕ) → ArePartsOf p parts → n < length parts → part ≡ part_at parts n → given ≡ counts_at counts n → IsJoinedTo p parts counts point n → length next ≡ length point → IsSpread part given point next → IsJoinedTo p parts counts next (n + 1)
joined_more p parts counts point next n part given cut h part_is given_is so_far long spread = record {
  each = long ∙ so_far.each;
  placed = λ g k l m. placed g k l m (cases_lt g n);
}
  where
    placed : (g k : ℕ) → g < n + 1 → k < length (part_at parts g) → (g < n) ⊎ (n ≤ g) → nat_at next (nat_at (part_at parts g) k) ≡ nat_at (counts_at counts g) k
    placed g k l m (inl less) =
        let away : (j : ℕ) → j < length part → nat_at part j ≢ nat_at (part_at parts g) k = λ j inside same.
        let here : nat_at (part_at parts n) j ≡ nat_at (part_at parts g) k = rw part_is at same in
        let within : j < length (part_at parts n) = rw part_is at inside in
        let equal = (apart p parts cut n j g k h within (omega (arith, less, h)) m here).0 in
        omega (arith, equal, less) in
        spread.others (nat_at (part_at parts g) k) away ∙ so_far.placed g k less m
    placed g k l m (inr more) =
        let same : g ≡ n = omega (arith, l, more) in
        let within : k < length part = rw (part_is, ← same) m in
        rw (same, ← part_is, ← given_is) (spread.members k within)
