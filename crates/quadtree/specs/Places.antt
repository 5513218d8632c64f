-- Private: the contracts of `src/columns.rt`, `src/dividing.rt` and `src/splitting.rt`.
-- Points as the code has them: places in the list of all points, in some order.
use Rattle.std.specs.Prelude.{◌≡◌, ℕ, ◌<◌, ◌≤◌, ◌^◌, List, [], ◌++◌, length, map, All, ℤ}
use Rattle.std.specs.Prelude.{Bool, true, false, not, unsigned_abs, slice_index_or}
use Rattle.std.specs.List.{filter, flat_map}
use Rattle.quadtree.specs.Points.{Point, int_at, is_above, are_equal}
use Rattle.quadtree.specs.Groups.{groups_of, is_group}
use Rattle.quadtree.specs.declared.group.Group.{Group}

-- a point has so many coordinates, each at most 10 to the power of 12
pub record IsFit (columns : ℕ) (point : Point) : Type 0 where
  pub long : length point.1 ≡ columns
  pub small : (column : ℕ) → unsigned_abs (int_at point.1 column) ≤ 10 ^ 12

-- a point has a coordinate in this column, of at most 10 to the power of 12
pub record HasColumn (column : ℕ) (point : Point) : Type 0 where
  pub within : column < length point.1
  pub small : unsigned_abs (int_at point.1 column) ≤ 10 ^ 12

-- the point at a place
abbrev pub point_at : List Point → ℕ → Point
point_at points place = slice_index_or points place (0, [])

-- the points at these places
abbrev pub points_at : List Point → List ℕ → List Point
points_at points places = map (point_at points) places

-- all of them are places of points
abbrev pub ArePlaces : List Point → List ℕ → Type 0
ArePlaces points places = All (λ (place : ℕ). place < length points) places

-- the places of points above a mean are after the others, each half in its old order
pub record IsParted (above : ℕ → Bool) (before : List ℕ) (middle : ℕ) (now : List ℕ)
    : Type 0 where
  pub order : now ≡ filter (λ (place : ℕ). not (above place)) before ++ filter above before
  pub others : middle ≡ length (filter (λ (place : ℕ). not (above place)) before)

abbrev pub is_place_above : List Point → ℤ → ℕ → ℕ → Bool
is_place_above points mean column place = is_above mean column (point_at points place)

abbrev pub joined : List (List Point) → List Point
joined lists = flat_map (λ (list : List Point). list) lists

-- points are these lists of points, one after another, and these are the lengths of the lists
pub record IsCut (points : List Point) (lengths : List ℕ) (lists : List (List Point))
    : Type 0 where
  pub whole : points ≡ joined lists
  pub each : lengths ≡ map length lists

abbrev pub HasCut : List Point → List ℕ → Type 0
HasCut points lengths = (lists : List (List Point)) × IsCut points lengths lists

-- the groups of points are added, or the points are to be divided
pub record IsAdded (size : ℕ) (radius : List ℤ) (points : List Point) (before : List Group)
    (is_done : Bool) (now : List Group) : Type 0 where
  pub done : is_done ≡ true → now ≡ before ++ groups_of size radius points
  pub not_done : is_done ≡ false → (now ≡ before) × (is_group size radius points ≡ false)
      × (are_equal (length radius) points ≡ false)
