-- Lemmas on points at places, and on tests of all of them or of all columns.
use Rattle.std.proofs.Common.{◌≡◌, ℕ, ◌+◌, ◌<◌, ◌≤◌, ◌*◌, ◌^◌, List, [], ◌∷◌, ◌++◌, length, get_or, take, map, All, Bool, true, false, ◌&&◌, ℤ, pos, ◌+ℤ◌, unsigned_abs, refl, sym, ap, ◌∙◌, arith, rules, append-nil}
use Rattle.std.specs.List.{list_all, range_with_len}
use Rattle.std.proofs.lemmas.Int.{ints}
use Rattle.std.proofs.lemmas.Bool.{and_from}
use Rattle.std.proofs.lemmas.List.{map_more, get_or-map, map-id, length-map}
use Rattle.std.proofs.lemmas.List.Elements.{All-get_or}
use Rattle.std.proofs.lemmas.List.Folds.{list_all-append, list_all_at}
use Rattle.std.proofs.lemmas.List.FromFn.{map-range_with_len_more, length-range_with_len, get_or-range_with_len, get_or-map-range_with_len, length-map-range_with_len}
use Rattle.quadtree.specs.Points.{Point, coordinate, column_sum, agree, is_at, means, floored_mean}
use Rattle.quadtree.specs.Places.{ArePlaces, HasColumn, IsFit, point_at, points_at}

-- one place more
pub points_at-more : (points : List Point) (places : List ℕ) (i : ℕ) → i < length places → points_at points (take (i + 1) places) ≡ points_at points (take i places) ++ point_at points (get_or places i 0) ∷ []
points_at-more points places i h = map_more (point_at points) places i 0 h

-- a test that all passed so far, and that one more passes
pub all-more : (test : Point → Bool) (points : List Point) (places : List ℕ) (i : ℕ) → i < length places → list_all test (points_at points (take i places)) ≡ true → test (point_at points (get_or places i 0)) ≡ true → list_all test (points_at points (take (i + 1) places)) ≡ true
all-more test points places i h before here =
    let parts = list_all-append test (points_at points (take i places)) (point_at points (get_or places i 0) ∷ []) in
    let last : list_all test (point_at points (get_or places i 0) ∷ []) ≡ true = and_from _ _ here refl in
    ap (list_all test) (points_at-more points places i h) ∙ parts ∙ and_from _ _ before last

-- a test that one of them fails
pub all-fails : (test : Point → Bool) (points : List Point) (places : List ℕ) (i : ℕ) → i < length places → test (point_at points (get_or places i 0)) ≡ false → list_all test (points_at points places) ≡ false
all-fails test points places i h here =
    list_all_at test (points_at points places) i (point_at points (get_or places i 0)) (rw (length-map places (point_at points)) h) (ap test (get_or-map (point_at points) places i 0 (point_at points (get_or places i 0)) h) ∙ here)

pub range-more : (n : ℕ) → range_with_len 0 (n + 1) ≡ range_with_len 0 n ++ n ∷ []
range-more n = sym (map-id (range_with_len 0 (n + 1))) ∙ map-range_with_len_more (λ (k : ℕ). k) 0 n n (omega arith) ∙ ap (λ (front : List ℕ). front ++ n ∷ []) (map-id (range_with_len 0 n))

pub below-more : (test : ℕ → Bool) (n : ℕ) → list_all test (range_with_len 0 n) ≡ true → test n ≡ true → list_all test (range_with_len 0 (n + 1)) ≡ true
below-more test n before here =
    let last : list_all test (n ∷ []) ≡ true = and_from _ _ here refl in
    ap (list_all test) (range-more n) ∙ list_all-append test (range_with_len 0 n) (n ∷ []) ∙ and_from _ _ before last

pub below-fails : (test : ℕ → Bool) (n k : ℕ) → k < n → test k ≡ false → list_all test (range_with_len 0 n) ≡ false
below-fails test n k h here =
    let at : get_or (range_with_len 0 n) k 0 ≡ k = get_or-range_with_len 0 n k 0 h ∙ omega arith in
    list_all_at test (range_with_len 0 n) k 0 (rw (length-range_with_len 0 n) h) (ap test at ∙ here)

-- the sum of a column with one point more
pub column_sum-push : (column : ℕ) (points : List Point) (point : Point) → column_sum column (points ++ point ∷ []) ≡ column_sum column points +ℤ coordinate column point
column_sum-push column [] point = omega (arith, ints)
column_sum-push column (first ∷ points) point = omega (arith, ints, column_sum-push column points point)

pub sum-more : (column : ℕ) (points : List Point) (places : List ℕ) (i : ℕ) (sum : ℤ) → i < length places → sum ≡ column_sum column (points_at points (take i places)) → sum +ℤ coordinate column (point_at points (get_or places i 0)) ≡ column_sum column (points_at points (take (i + 1) places))
sum-more column points places i sum h is =
    ap (λ (z : ℤ). z +ℤ coordinate column (point_at points (get_or places i 0))) is
    ∙ sym (column_sum-push column (points_at points (take i places)) (point_at points (get_or places i 0)))
    ∙ ap (column_sum column) (sym (points_at-more points places i h))

-- the points that have all columns have each
pub has_column : (columns column : ℕ) (points : List Point) → column < columns → All (IsFit columns) points → All (HasColumn column) points
has_column columns column points h fit = λ k d within. let one = fit k d within in record { within = omega (arith, one.long); small = one.small column }

-- the point at the first place
pub first_point : (points : List Point) (places : List ℕ) → 0 < length places → get_or (points_at points places) 0 (0, []) ≡ point_at points (get_or places 0 0)
first_point points places some = get_or-map (point_at points) places 0 0 (0, []) some

-- whether all points agree in a column, by a number that is the first one's
module _ (points : List Point) (places : List ℕ) (some : 0 < length places) (column : ℕ) (number : ℤ) (is : number ≡ coordinate column (point_at points (get_or places 0 0))) where
  private_number : coordinate column (get_or (points_at points places) 0 (0, [])) ≡ number
  private_number = ap (coordinate column) (first_point points places some) ∙ sym is

  pub agree-fails : (i : ℕ) → i < length places → is_at number column (point_at points (get_or places i 0)) ≡ false → agree (points_at points places) column ≡ false
  agree-fails i within here = rw private_number (all-fails (is_at number column) points places i within here)

  pub agree-holds : list_all (is_at number column) (points_at points places) ≡ true → agree (points_at points places) column ≡ true
  agree-holds all = rw private_number all

-- the mean of a column in the list of all
pub means-at : (columns : ℕ) (points : List Point) (rep : List ℤ) (k : ℕ) → rep ≡ means columns points → k < columns → get_or rep k (pos 0) ≡ floored_mean k points
means-at columns points rep k is within =
    ap (λ (xs : List ℤ). get_or xs k (pos 0)) is ∙ get_or-map-range_with_len (λ (column : ℕ). floored_mean column points) 0 columns k k (pos 0) within (omega arith)

pub length-means : (columns : ℕ) (points : List Point) (rep : List ℤ) → rep ≡ means columns points → length rep ≡ columns
length-means columns points rep is = ap length is ∙ length-map-range_with_len (λ (column : ℕ). floored_mean column points) 0 columns

pub means-more : (columns : ℕ) (points : List Point) → means (columns + 1) points ≡ means columns points ++ floored_mean columns points ∷ []
means-more columns points = map-range_with_len_more (λ (column : ℕ). floored_mean column points) 0 columns columns (omega arith)
