-- Lemmas on the rounds of parts of parts: as many as the points are enough.
use Rattle.std.proofs.Common.{◌≡◌, ℕ, zero, suc, ◌<◌, ◌≤◌, List, [], ◌∷◌, ◌++◌, length, map, All, Bool, true, false, cond, ℤ, refl, sym, ap, ◌∙◌, arith, append-nil}
use Rattle.std.specs.List.{flat_map}
use Rattle.std.proofs.lemmas.List.Elements.{All-head, All-tail}
use Rattle.quadtree.specs.declared.group.Group.{Group}
use Rattle.quadtree.specs.Points.{Point, means, are_equal}
use Rattle.quadtree.specs.Groups.{group_of, groups_by, groups_of, groups_within, is_group, parts, runs}
use Rattle.quadtree.proofs.Shrinking.{parts-shorter, HasPoints}

flat_map-same : {X Y : Type 0} (P : X → Type 0) (f g : X → List Y) → ((x : X) → P x → f x ≡ g x) → (xs : List X) → All P xs → flat_map f xs ≡ flat_map g xs
flat_map-same {X} {Y} P f g same [] all = refl
flat_map-same {X} {Y} P f g same (x ∷ xs) all =
    ap (λ (ys : List Y). ys ++ flat_map f xs) (same x (All-head P x xs all)) ∙ ap (λ (ys : List Y). g x ++ ys) (flat_map-same P f g same xs (All-tail P x xs all))

cond-else : {X : Type 0} (b : Bool) (x y z : X) → (b ≡ false → y ≡ z) → cond b x y ≡ cond b x z
cond-else {X} true x y z same = refl
cond-else {X} false x y z same = same refl

-- groups by the groups of parts are the same, if those of shorter lists are
by-same : (f g : List Point → List Group) (size : ℕ) (radius : List ℤ) (points : List Point) → ((part : List Point) → length part < length points → f part ≡ g part) → groups_by f size radius points ≡ groups_by g size radius points
by-same f g size radius points same =
    cond-else (is_group size radius points) (group_of (means (length radius) points) points ∷ []) _ _ (λ _.
    cond-else (are_equal (length radius) points) (map (group_of (means (length radius) points)) (runs size points)) _ _ (λ apart.
    flat_map-same (λ (part : List Point). length part < length points) f g same (parts (length radius) points) (parts-shorter (length radius) points apart)))

rounds-same : (f g size : ℕ) (radius : List ℤ) (points : List Point) → length points ≤ f → length points ≤ g → groups_within f size radius points ≡ groups_within g size radius points
rounds-same zero zero size radius points short also = refl
rounds-same zero (suc g) size radius [] short also = refl
rounds-same zero (suc g) size radius (point ∷ points) short also = absurd (omega (arith, short))
rounds-same (suc f) zero size radius [] short also = refl
rounds-same (suc f) zero size radius (point ∷ points) short also = absurd (omega (arith, also))
rounds-same (suc f) (suc g) size radius [] short also = refl
rounds-same (suc f) (suc g) size radius (point ∷ points) short also =
    by-same (groups_within f size radius) (groups_within g size radius) size radius (point ∷ points) (λ part less. rounds-same f g size radius part (omega (arith, less, short)) (omega (arith, less, also)))

-- without rounds
pub groups-are : (size : ℕ) (radius : List ℤ) (points : List Point) → HasPoints points → groups_of size radius points ≡ groups_by (groups_of size radius) size radius points
groups-are size radius [] some = absurd (cc)
groups-are size radius (point ∷ points) some =
    by-same (groups_within (length points) size radius) (groups_of size radius) size radius (point ∷ points) (λ part less. rounds-same (length points) (length part) size radius part (omega (arith, less)) (omega arith))

module _ (size : ℕ) (radius : List ℤ) (points : List Point) (some : HasPoints points) where
  pub groups-one : is_group size radius points ≡ true → groups_of size radius points ≡ group_of (means (length radius) points) points ∷ []
  groups-one near = groups-are size radius points some ∙ ap (λ (b : Bool). cond b (group_of (means (length radius) points) points ∷ []) (cond (are_equal (length radius) points) (map (group_of (means (length radius) points)) (runs size points)) (flat_map (groups_of size radius) (parts (length radius) points)))) near

  pub groups-equal : is_group size radius points ≡ false → are_equal (length radius) points ≡ true → groups_of size radius points ≡ map (group_of (means (length radius) points)) (runs size points)
  groups-equal far same = groups-are size radius points some
      ∙ ap (λ (b : Bool). cond b (group_of (means (length radius) points) points ∷ []) (cond (are_equal (length radius) points) (map (group_of (means (length radius) points)) (runs size points)) (flat_map (groups_of size radius) (parts (length radius) points)))) far
      ∙ ap (λ (b : Bool). cond b (map (group_of (means (length radius) points)) (runs size points)) (flat_map (groups_of size radius) (parts (length radius) points))) same

  pub groups-parts : is_group size radius points ≡ false → are_equal (length radius) points ≡ false → groups_of size radius points ≡ flat_map (groups_of size radius) (parts (length radius) points)
  groups-parts far apart = groups-are size radius points some
      ∙ ap (λ (b : Bool). cond b (group_of (means (length radius) points) points ∷ []) (cond (are_equal (length radius) points) (map (group_of (means (length radius) points)) (runs size points)) (flat_map (groups_of size radius) (parts (length radius) points)))) far
      ∙ ap (λ (b : Bool). cond b (map (group_of (means (length radius) points)) (runs size points)) (flat_map (groups_of size radius) (parts (length radius) points))) apart
