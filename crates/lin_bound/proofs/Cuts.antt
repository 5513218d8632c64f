-- The box of a path, one branch after another.
use Rattle.std.proofs.Common.{◌≡◌, ℕ, ◌+◌, ◌≤◌, List, ◌∷◌, length, drop, ◌∙◌, ap, Some}
use Rattle.std.specs.Prelude.{slice_get}
use Rattle.std.proofs.lemmas.List.{drop_more, drop_all}
use Rattle.std.proofs.lemmas.Option.{slice_get_within, get_or_from_slice_get}
use Rattle.lin_bound.specs.Problem.{ProblemData}
use Rattle.lin_bound.specs.Box.{whole_box, half, cut, Splits, AllSplit, IsPath, IsTriedBox, IsRegion}
use Rattle.lin_bound.specs.declared.region.Region.{Region}
use Rattle.lin_bound.specs.declared.path.Branch.{Branch}
use Rattle.lin_bound.proofs.Halves.{halves_cover}

-- the box after the branches before a place: what is left of the path divides it to the path's box
pub record IsCutting (p : ProblemData) (path : List Branch) (box : Region) (place : ℕ) : Type 0 where
  pub cuts : cut box (drop place path) ≡ cut (whole_box p) path
  pub splits : AllSplit box (drop place path)
  pub region : IsRegion p box

-- the branch at a place, and what is left after it
left_at : (path : List Branch) (place : ℕ) (branch : Branch) → slice_get path place ≡ Some branch → drop place path ≡ branch ∷ drop (place + 1) path
left_at path place branch is =
    drop_more path place branch (slice_get_within path place branch is) ∙ ap (λ (b : Branch). b ∷ drop (place + 1) path) (get_or_from_slice_get path place branch branch is)

-- the next branch divides the box
pub divides : (p : ProblemData) (path : List Branch) (box : Region) (place : ℕ) (branch : Branch) → slice_get path place ≡ Some branch → IsCutting p path box place → Splits branch box
divides p path box place branch is cutting = (rw (left_at path place branch is) at cutting.splits).0

-- and its half is the next box
pub cut_more : (p : ProblemData) (path : List Branch) (box : Region) (place : ℕ) (branch : Branch) → slice_get path place ≡ Some branch → IsCutting p path box place → IsCutting p path (half branch box) (place + 1)
cut_more p path box place branch is cutting =
    let splits = rw (left_at path place branch is) at cutting.splits in
    record {
      cuts = rw (left_at path place branch is) at cutting.cuts;
      splits = splits.1;
      region = (halves_cover p box branch cutting.region splits.0).region;
    }

-- at the path's end the box is its own
pub cut_all : (p : ProblemData) (path : List Branch) (box : Region) (place : ℕ) → length path ≤ place → IsCutting p path box place → box ≡ cut (whole_box p) path
cut_all p path box place h cutting = rw (drop_all place path h) at cutting.cuts

-- the same of a path that may not have a box
pub record IsTrying (p : ProblemData) (path : List Branch) (box : Region) (place : ℕ) : Type 0 where
  pub cuts : cut box (drop place path) ≡ cut (whole_box p) path
  pub onward : IsPath p path → AllSplit box (drop place path)
  pub back : AllSplit box (drop place path) → IsPath p path
  pub region : IsRegion p box

-- a path whose next branch doesn't divide the box has none
pub not_tried : (p : ProblemData) (path : List Branch) (box : Region) (place : ℕ) (branch : Branch)
    → slice_get path place ≡ Some branch → ¬ Splits branch box → IsTrying p path box place → ¬ IsPath p path
not_tried p path box place branch is stuck trying splits =
    stuck (rw (left_at path place branch is) at (trying.onward splits)).0

-- and where it divides the box, its half is the next one
pub try_more : (p : ProblemData) (path : List Branch) (box : Region) (place : ℕ) (branch : Branch)
    → slice_get path place ≡ Some branch → Splits branch box → IsTrying p path box place
    → IsTrying p path (half branch box) (place + 1)
try_more p path box place branch is splits trying = record {
  cuts = rw (left_at path place branch is) at trying.cuts;
  onward = λ has. (rw (left_at path place branch is) at (trying.onward has)).1;
  back = λ rest. trying.back (rw (left_at path place branch is) (splits, rest));
  region = (halves_cover p box branch trying.region splits).region;
}

-- at the path's end the box is its own
pub try_all : (p : ProblemData) (path : List Branch) (box : Region) (place : ℕ)
    → length path ≤ place → IsTrying p path box place → IsTriedBox p path (Some box)
try_all p path box place h trying = (
  trying.back (rw (drop_all place path h) tt),
  rw (drop_all place path h) at trying.cuts,
  trying.region,
)
