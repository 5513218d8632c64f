-- The box of a path, one branch after another.
use Rattle.std.proofs.Common.{◌≡◌, ℕ, ◌+◌, List, ◌∷◌, drop, ◌∙◌, ap, Some}
use Rattle.std.specs.Prelude.{slice_get}
use Rattle.std.proofs.lemmas.List.{drop_more}
use Rattle.std.proofs.lemmas.Option.{slice_get_within, get_or_from_slice_get}
use Rattle.lin_bound.specs.Problem.{ProblemData}
use Rattle.lin_bound.specs.Box.{whole_box, half, cut, Splits, AllSplit, IsRegion}
use Rattle.lin_bound.specs.declared.region.Region.{Region}
use Rattle.lin_bound.specs.declared.path.Branch.{Branch}
use Rattle.lin_bound.proofs.Halves.{halves_cover}

-- the box after the branches before a place: what is left of the path divides it to the path's box
pub record IsMoving (p : ProblemData) (path : List Branch) (box : Region) (place : ℕ) : Type 0 where
  pub cuts : cut box (drop place path) ≡ cut (whole_box p) path
  pub splits : AllSplit box (drop place path)
  pub region : IsRegion p box

-- the branch at a place, and what is left after it
left_at : (path : List Branch) (place : ℕ) (branch : Branch) → slice_get path place ≡ Some branch → drop place path ≡ branch ∷ drop (place + 1) path
left_at path place branch is =
    drop_more path place branch (slice_get_within path place branch is) ∙ ap (λ (b : Branch). b ∷ drop (place + 1) path) (get_or_from_slice_get path place branch branch is)

-- the next branch divides the box
pub divides : (p : ProblemData) (path : List Branch) (box : Region) (place : ℕ) (branch : Branch) → slice_get path place ≡ Some branch → IsMoving p path box place → Splits branch box
divides p path box place branch is moving = (rw (left_at path place branch is) at moving.splits).0

-- and its half is the next box
pub moves_on : (p : ProblemData) (path : List Branch) (box : Region) (place : ℕ) (branch : Branch) → slice_get path place ≡ Some branch → IsMoving p path box place → IsMoving p path (half branch box) (place + 1)
moves_on p path box place branch is moving =
    let splits = rw (left_at path place branch is) at moving.splits in
    record {
      cuts = rw (left_at path place branch is) at moving.cuts;
      splits = splits.1;
      region = (halves_cover p box branch moving.region splits.0).region;
    }
