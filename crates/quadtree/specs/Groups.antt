-- Private: `split_points` in `src/splitting.rt`.
-- The groups of points.
use Rattle.std.specs.Prelude.{ℕ, zero, suc, ◌*◌, List, [], ◌∷◌, length, map, take, drop, ℤ}
use Rattle.std.specs.Prelude.{Bool, true, false, not, ◌&&◌, nat_le, if◌then◌else◌}
use Rattle.std.specs.List.{filter, flat_map, range_with_len}
use Rattle.std.specs.Int.{div_ceil}
use Rattle.quadtree.specs.Points.{Point, means, floored_mean, is_above, are_near, are_equal}
use Rattle.quadtree.specs.declared.group.Group.{Group}

abbrev pub ids : List Point → List ℕ
ids points = map (λ (point : Point). point.0) points

abbrev pub group_of : List ℤ → List Point → Group
group_of rep points = record { members = ids points; rep = rep }

-- the points in runs of `size`, the last one shorter
abbrev pub run_of : ℕ → List Point → ℕ → List Point
run_of size points number = take size (drop (number * size) points)

abbrev pub runs : ℕ → List Point → List (List Point)
runs size points = map (run_of size points) (range_with_len 0 (div_ceil (length points) size))

abbrev pub has_points : List Point → Bool
has_points [] = false
has_points (point ∷ points) = true

-- the points that aren't above, and after them those that are; without an empty half
abbrev pub halves : (Point → Bool) → List Point → List (List Point)
halves above points = filter has_points
    (filter (λ (point : Point). not (above point)) points ∷ filter above points ∷ [])

-- lists of points, each divided by the first test, and then by those after it
abbrev pub divided : List (Point → Bool) → List (List Point) → List (List Point)
divided [] lists = lists
divided (above ∷ tests) lists = divided tests (flat_map (halves above) lists)

-- for each column whether a point is above its floored mean
abbrev pub tests_of : ℕ → List Point → List (Point → Bool)
tests_of columns points = map (λ (column : ℕ). is_above (floored_mean column points) column)
    (range_with_len 0 columns)

-- The points of each word of bits, one bit a column, words in ascending order: the bit of the first
-- column decides first.
abbrev pub parts : ℕ → List Point → List (List Point)
parts columns points = divided (tests_of columns points) (points ∷ [])

-- few enough, and near enough to their representative
abbrev pub is_group : ℕ → List ℤ → List Point → Bool
is_group size radius points = nat_le (length points) size && are_near radius points

-- the groups of points, by those of their parts
abbrev pub groups_by : (List Point → List Group) → ℕ → List ℤ → List Point → List Group
groups_by groups size radius points =
    if is_group size radius points then group_of (means (length radius) points) points ∷ []
    else (if are_equal (length radius) points
    then map (group_of (means (length radius) points)) (runs size points)
    else flat_map groups (parts (length radius) points))

-- The groups, if that many rounds of parts of parts are enough. They are, if they are as many as
-- the points: each part of points that don't agree has fewer of them.
abbrev pub groups_within : ℕ → ℕ → List ℤ → List Point → List Group
groups_within zero size radius points = []
groups_within (suc rounds) size radius [] = []
groups_within (suc rounds) size radius (first ∷ others) =
    groups_by (groups_within rounds size radius) size radius (first ∷ others)

abbrev pub groups_of : ℕ → List ℤ → List Point → List Group
groups_of size radius points = groups_within (length points) size radius points
