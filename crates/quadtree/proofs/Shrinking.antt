-- Lemmas on the parts of points: each has some points, and if the points don't agree, fewer than all.
use Rattle.std.proofs.Common.{◌≡◌, ℕ, zero, suc, ◌+◌, ◌<◌, ◌≤◌, ◌⊎◌, inl, inr, List, [], ◌∷◌, ◌++◌, length, map, All, Bool, true, false, not, cond, ◌&&◌, refl, sym, ap, ◌∙◌, arith, length-append}
use Rattle.std.specs.List.{filter, flat_map, list_all, range_with_len}
use Rattle.std.proofs.lemmas.Bool.{and_cases, true≢false}
use Rattle.std.proofs.lemmas.List.Elements.{All-nil, All-cons, All-head, All-tail, All-append, All-filter, All-weaker, filter_passes}
use Rattle.quadtree.specs.Points.{Point, floored_mean, is_above, agree, are_equal}
use Rattle.quadtree.specs.Groups.{halves, has_points, divided, tests_of, parts}
use Rattle.quadtree.specs.Places.{joined}
use Rattle.quadtree.proofs.Halving.{other}
use Rattle.quadtree.proofs.Means.{BothSides, both-sides}

-- what holds of each item that each list has holds of those of all
all-flat_map : {X Y : Type 0} (P : X → Type 0) (Q : Y → Type 0) (f : X → List Y) → ((x : X) → P x → All Q (f x)) → (xs : List X) → All P xs → All Q (flat_map f xs)
all-flat_map {X} {Y} P Q f each [] all = All-nil Q
all-flat_map {X} {Y} P Q f each (x ∷ xs) all = All-append Q (f x) (flat_map f xs) (each x (All-head P x xs all)) (all-flat_map P Q f each xs (All-tail P x xs all))

abbrev pub HasPoints : List Point → Type 0
HasPoints points = has_points points ≡ true

divided-some : (tests : List (Point → Bool)) (lists : List (List Point)) → All HasPoints lists → All HasPoints (divided tests lists)
divided-some [] lists all = all
divided-some (above ∷ tests) lists all =
    divided-some tests (flat_map (halves above) lists) (all-flat_map HasPoints HasPoints (halves above) (λ points _. filter_passes has_points (filter (other above) points ∷ filter above points ∷ [])) lists all)

pub parts-some : (columns : ℕ) (points : List Point) → HasPoints points → All HasPoints (parts columns points)
parts-some columns points some = divided-some (tests_of columns points) (points ∷ []) (All-cons HasPoints points [] some (All-nil HasPoints))

-- a list is all of the points, or has fewer of them
abbrev Within : List Point → List Point → Type 0
Within points list = (list ≡ points) ⊎ (length list < length points)

abbrev Shorter : List Point → List Point → Type 0
Shorter points list = length list < length points

filter-within : (test : Point → Bool) (points : List Point) → Within points (filter test points)
filter-within test [] = inl refl
filter-within test (point ∷ points) = step (test point) (filter-within test points)
  where
    step : (b : Bool) → Within points (filter test points) → Within (point ∷ points) (cond b (point ∷ filter test points) (filter test points))
    step true (inl same) = inl (ap (λ (xs : List Point). point ∷ xs) same)
    step true (inr less) = inr (omega (arith, less))
    step false (inl same) = inr (omega (arith, ap length same))
    step false (inr less) = inr (omega (arith, less))

filter-shorter : (test : Point → Bool) (points list : List Point) → Shorter points list → Shorter points (filter test list)
filter-shorter test points list less = step (filter-within test list)
  where
    step : Within list (filter test list) → Shorter points (filter test list)
    step (inl same) = omega (arith, less, ap length same)
    step (inr fewer) = omega (arith, less, fewer)

filter-still : (test : Point → Bool) (points list : List Point) → Within points list → Within points (filter test list)
filter-still test points list (inl same) = rw same (filter-within test points)
filter-still test points list (inr less) = inr (filter-shorter test points list less)

halves-all : (P : List Point → Type 0) (above : Point → Bool) (points : List Point) → P (filter (other above) points) → P (filter above points) → All P (halves above points)
halves-all P above points low high =
    All-filter has_points P (filter (other above) points ∷ filter above points ∷ []) (All-cons P (filter (other above) points) (filter above points ∷ []) low (All-cons P (filter above points) [] high (All-nil P)))

still-shorter : (points : List Point) (tests : List (Point → Bool)) (lists : List (List Point)) → All (Shorter points) lists → All (Shorter points) (divided tests lists)
still-shorter points [] lists all = all
still-shorter points (above ∷ tests) lists all =
    still-shorter points tests (flat_map (halves above) lists) (all-flat_map (Shorter points) (Shorter points) (halves above)
    (λ list less. halves-all (Shorter points) above list (filter-shorter (other above) points list less) (filter-shorter above points list less)) lists all)

-- a column in which the points don't agree makes each list shorter
parted-shorter : (column : ℕ) (points list : List Point) → BothSides column points → Within points list → All (Shorter points) (halves (is_above (floored_mean column points) column) list)
parted-shorter column points list sides (inl same) = rw same (halves-all (Shorter points) (is_above (floored_mean column points) column) points sides.others sides.above)
parted-shorter column points list sides (inr less) =
    halves-all (Shorter points) (is_above (floored_mean column points) column) list (filter-shorter (other (is_above (floored_mean column points) column)) points list less) (filter-shorter (is_above (floored_mean column points) column) points list less)

shorter : (points : List Point) (columns : List ℕ) (lists : List (List Point)) → All (Within points) lists → list_all (agree points) columns ≡ false → All (Shorter points) (divided (map (λ (column : ℕ). is_above (floored_mean column points) column) columns) lists)
shorter points [] lists all apart = absurd (true≢false apart)
shorter points (column ∷ columns) lists all apart = step (λ still later. shorter points columns (flat_map (halves (is_above (floored_mean column points) column)) lists) still later) (and_cases (agree points column) (list_all (agree points) columns) apart)
  where
    step : (All (Within points) (flat_map (halves (is_above (floored_mean column points) column)) lists) → list_all (agree points) columns ≡ false → All (Shorter points) (divided (map (λ (n : ℕ). is_above (floored_mean n points) n) columns) (flat_map (halves (is_above (floored_mean column points) column)) lists))) → (agree points column ≡ false) ⊎ (list_all (agree points) columns ≡ false) → All (Shorter points) (divided (map (λ (n : ℕ). is_above (floored_mean n points) n) columns) (flat_map (halves (is_above (floored_mean column points) column)) lists))
    step rest (inl here) =
        still-shorter points (map (λ (n : ℕ). is_above (floored_mean n points) n) columns) (flat_map (halves (is_above (floored_mean column points) column)) lists)
        (all-flat_map (Within points) (Shorter points) (halves (is_above (floored_mean column points) column)) (λ list within. parted-shorter column points list (both-sides column points here) within) lists all)
    step rest (inr later) =
        rest (all-flat_map (Within points) (Within points) (halves (is_above (floored_mean column points) column))
        (λ list within. halves-all (Within points) (is_above (floored_mean column points) column) list (filter-still (other (is_above (floored_mean column points) column)) points list within) (filter-still (is_above (floored_mean column points) column) points list within)) lists all) later

pub parts-shorter : (columns : ℕ) (points : List Point) → are_equal columns points ≡ false → All (λ (part : List Point). length part < length points) (parts columns points)
parts-shorter columns points apart = shorter points (range_with_len 0 columns) (points ∷ []) (All-cons (Within points) points [] (inl refl) (All-nil (Within points))) apart

-- lists that are each shorter than all of them together are two at least
pub two-lists : (n : ℕ) (lists : List (List Point)) → All (λ (list : List Point). length list < n) lists → length (joined lists) ≡ n → 0 < n → 2 ≤ length lists
two-lists n [] less whole some = absurd (omega (arith, whole))
two-lists n (list ∷ []) less whole some = absurd (omega (arith, whole, length-append list [], All-head (λ (one : List Point). length one < n) list [] less))
two-lists n (list ∷ next ∷ lists) less whole some = omega arith

-- lists that each have some points are at most as many as the points
pub few-lists : (lists : List (List Point)) → All HasPoints lists → length lists ≤ length (joined lists)
few-lists [] all = omega arith
few-lists ([] ∷ lists) all = absurd (true≢false (sym (All-head HasPoints [] lists all)))
few-lists ((point ∷ points) ∷ lists) all = omega (arith, length-append (point ∷ points) (joined lists), few-lists lists (All-tail HasPoints (point ∷ points) lists all))
