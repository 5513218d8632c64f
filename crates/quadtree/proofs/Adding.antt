-- Lemmas on the groups of points that aren't divided.
use Rattle.std.proofs.Common.{◌≡◌, ℕ, ◌<◌, ◌≤◌, List, [], ◌∷◌, ◌++◌, length, map, Bool, true, false, ◌&&◌, leb, ℤ, refl, sym, ap, ◌∙◌, arith}
use Rattle.std.proofs.lemmas.Bool.{true≢false}
use Rattle.std.proofs.lemmas.List.{length-map}
use Rattle.quadtree.specs.declared.group.Group.{Group}
use Rattle.quadtree.specs.Points.{Point, means, are_near, are_equal}
use Rattle.quadtree.specs.Groups.{group_of, groups_of, is_group, runs}
use Rattle.quadtree.specs.Places.{IsAdded, point_at, points_at}
use Rattle.quadtree.proofs.Shrinking.{HasPoints}
use Rattle.quadtree.proofs.Rounds.{groups-one, groups-equal}

pub some-points : (points : List Point) (places : List ℕ) → 0 < length places → HasPoints (points_at points places)
some-points points [] some = absurd (omega (arith, some))
some-points points (place ∷ places) some = refl

module _ (size : ℕ) (radius : List ℤ) (points : List Point) (some : HasPoints points) (rep : List ℤ) (is : rep ≡ means (length radius) points) (before now : List Group) where
  pub added-one : (group : Group) → is_group size radius points ≡ true → group ≡ group_of rep points → now ≡ before ++ group ∷ [] → IsAdded size radius points before true now
  added-one group near made items = record {
    done = λ _. items ∙ ap (λ (one : Group). before ++ one ∷ []) (made ∙ ap (λ (xs : List ℤ). group_of xs points) is) ∙ ap (λ (xs : List Group). before ++ xs) (sym (groups-one size radius points some near));
    not_done = λ e. absurd (true≢false e);
  }

  pub added-runs : is_group size radius points ≡ false → are_equal (length radius) points ≡ true → now ≡ before ++ map (group_of rep) (runs size points) → IsAdded size radius points before true now
  added-runs far same items = record {
    done = λ _. items ∙ ap (λ (xs : List ℤ). before ++ map (group_of xs) (runs size points)) is ∙ ap (λ (xs : List Group). before ++ xs) (sym (groups-equal size radius points some far same));
    not_done = λ e. absurd (true≢false e);
  }
