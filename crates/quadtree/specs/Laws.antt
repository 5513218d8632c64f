-- Private: the laws in `src/laws.rt`.
-- What the groups of points are.
use Rattle.std.specs.Prelude.{◌≡◌, ℕ, ◌<◌, ◌≤◌, List, length, All, ℤ, pos, ◌-ℤ◌, ◌≤ℤ◌}
use Rattle.std.specs.Prelude.{unsigned_abs, IsPermutation}
use Rattle.std.specs.List.{AllZip}
use Rattle.quadtree.specs.Points.{Point, coordinate, int_at}
use Rattle.quadtree.specs.Groups.{groups_of, ids}
use Rattle.quadtree.specs.Places.{joined}
use Rattle.quadtree.specs.declared.group.Group.{Group}

-- a point is within the radius of a representative in each column
abbrev pub IsWithin : List ℤ → List ℤ → Point → Type 0
IsWithin radius rep point = (column : ℕ) → column < length radius
    → pos (unsigned_abs (coordinate column point -ℤ int_at rep column)) ≤ℤ int_at radius column

-- a group is of these points
pub record IsGroupOf (size : ℕ) (radius : List ℤ) (group : Group) (points : List Point)
    : Type 0 where
  pub members : group.members ≡ ids points
  pub few : length points ≤ size
  pub near : All (IsWithin radius group.rep) points

-- each point is in one group, and there once
pub record AreGrouped (size : ℕ) (radius : List ℤ) (points : List Point) (groups : List Group)
    : Type 0 where
  pub lists : List (List Point)
  pub each : AllZip (IsGroupOf size radius) groups lists
  pub once : IsPermutation points (joined lists)

-- so are the groups of points, if a group may have a member and no radius is negative
abbrev pub PointsAreGrouped : Type 0
PointsAreGrouped = (size : ℕ) (radius : List ℤ) (points : List Point) → 0 < size
    → All (λ (r : ℤ). pos 0 ≤ℤ r) radius
    → AreGrouped size radius points (groups_of size radius points)
