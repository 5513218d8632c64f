-- Private: the laws in `src/laws.rt`.
-- What those need who refine the parts of a sketch one after another.
use Rattle.std.specs.Prelude.{◌≡◌, ◌↔◌, ℕ, ◌<◌, List, length, map, ℤ, ◌+ℤ◌, ◌-ℤ◌, ◌≤ℤ◌}
use Rattle.std.specs.Prelude.{slice_set}
use Rattle.lin_bound.specs.Sums.{int_at, nat_at}
use Rattle.lin_bound.specs.Problem.{ProblemData, row_count, row_of, coefficient_of, cost_at}
use Rattle.lin_bound.specs.Problem.{row_at, IsLegal, IsFeasible}
use Rattle.sketch.specs.Parts.{IsEven, ArePartsOf, IsPartOf, part_at, mean, upper_sum}
use Rattle.sketch.specs.Sketched.{sketch_of}
use Rattle.sketch.specs.Held.{given, given_at, given_by_all, given_by_others, held_at, others_of}
use Rattle.sketch.specs.Held.{IsHeldOf, IsRealOf}
use Rattle.sketch.specs.Refined.{refine_of, AreSmall}
use Rattle.sketch.specs.Joined.{AreRealOf, IsJoined}
use Rattle.sketch.specs.declared.held.HeldPart.{HeldPart}
use Rattle.sketch.specs.declared.held.HeldPart.TheVariants.{Sketch, Real}

-- Each of a problem's parts is a part.
abbrev pub EachIsPart : Type 0
EachIsPart = (p : ProblemData) (parts : List (List ℕ)) (g : ℕ)
    → ArePartsOf p parts → g < length parts → IsPartOf p (part_at parts g)

-- The sketch's variable of a part has the means of the members' numbers and the sum of their
-- uppers.
pub record IsSketched (p : ProblemData) (parts : List (List ℕ)) (g : ℕ) : Type 0 where
  pub cost : int_at (sketch_of p parts).cost g ≡ mean p.cost (part_at parts g)
  pub rows : (j : ℕ) → j < row_count p
      → coefficient_of (sketch_of p parts) j g ≡ mean (row_of p j) (part_at parts g)
  pub upper : nat_at (sketch_of p parts).upper g ≡ upper_sum p.upper (part_at parts g)

abbrev pub EachIsSketched : Type 0
EachIsSketched = (p : ProblemData) (parts : List (List ℕ)) (g : ℕ)
    → g < length parts → IsSketched p parts g

-- all parts with such counts of the sketch's variables, and all with such real counts
abbrev pub all_sketched : List ℕ → List HeldPart
all_sketched counts = map (λ (count : ℕ). Sketch count) counts

abbrev pub all_real : List (List ℕ) → List HeldPart
all_real counts = map (λ (of_part : List ℕ). Real of_part) counts

-- The cost and the rows of a point are what the parts give together.
pub record AddsUp (p whole : ProblemData) (parts : List (List ℕ)) (held : List HeldPart)
    (point : List ℕ) : Type 0 where
  pub cost : cost_at p point ≡ given_by_all whole.cost parts held
  pub rows : (j : ℕ) → j < row_count whole
      → row_at p j point ≡ given_by_all (row_of whole j) parts held

-- So it is with the points of a sketch,
abbrev pub SketchAddsUp : Type 0
SketchAddsUp = (p : ProblemData) (parts : List (List ℕ)) (point : List ℕ)
    → length point ≡ length parts
    → AddsUp (sketch_of p parts) p parts (all_sketched point) point

-- and with real counts that are put together.
abbrev pub JoinedAddsUp : Type 0
JoinedAddsUp = (p : ProblemData) (parts counts : List (List ℕ)) (point : List ℕ)
    → ArePartsOf p parts → length counts ≡ length parts → IsJoined p parts counts point
    → AddsUp p p parts (all_real counts) point

-- Real counts within the uppers are a feasible point if what they give together keeps each row.
abbrev pub JoinedIsFeasible : Type 0
JoinedIsFeasible = (p : ProblemData) (parts counts : List (List ℕ)) (point : List ℕ)
    → ArePartsOf p parts → AreRealOf p parts counts → IsJoined p parts counts point
    → ((j : ℕ) → j < row_count p
    → given_by_all (row_of p j) parts (all_real counts) ≤ℤ int_at p.rhs j)
    → IsFeasible p point

-- There is one way to put them together.
abbrev pub OneIsJoined : Type 0
OneIsJoined = (p : ProblemData) (parts counts : List (List ℕ)) (one other : List ℕ)
    → ArePartsOf p parts → IsJoined p parts counts one → IsJoined p parts counts other
    → one ≡ other

-- What the others give to a row is what all give less what the part gives.
abbrev pub OthersAreTheRest : Type 0
OthersAreTheRest = (p : ProblemData) (parts : List (List ℕ)) (held : List HeldPart) (g j : ℕ)
    → g < length parts → j < row_count p → int_at (others_of p parts held g) j
    ≡ (given_by_all (row_of p j) parts held -ℤ given_at (row_of p j) parts held g)

-- If something else is held of a part, the others give what they gave.
abbrev pub OneIsHeldAnew : Type 0
OneIsHeldAnew = (numbers : List ℤ) (parts : List (List ℕ)) (held : List HeldPart) (g : ℕ)
    (new : HeldPart) → g < length parts → g < length held
    → given_by_all numbers parts (slice_set held g new)
    ≡ (given_by_others numbers parts held g +ℤ given numbers (part_at parts g) new)

-- What they give is small if what is held is within the uppers.
abbrev pub OthersAreSmall : Type 0
OthersAreSmall = (p : ProblemData) (parts : List (List ℕ)) (held : List HeldPart) (g : ℕ)
    → IsLegal p → IsEven p → ArePartsOf p parts
    → ((h : ℕ) → h < length parts → IsHeldOf p (part_at parts h) (held_at held h))
    → AreSmall (others_of p parts held g)

-- Counts of a part are feasible for its problem exactly if they are within the uppers and keep each
-- row together with what the others give.
pub record KeepsWith (p : ProblemData) (part : List ℕ) (others : List ℤ) (counts : List ℕ)
    : Type 0 where
  pub real : IsRealOf p part counts
  pub keeps : (j : ℕ) → j < row_count p
      → (int_at others j +ℤ given (row_of p j) part (Real counts)) ≤ℤ int_at p.rhs j

abbrev pub RefinedKeepsRows : Type 0
RefinedKeepsRows = (p : ProblemData) (part : List ℕ) (others : List ℤ) (counts : List ℕ)
    → IsLegal p → IsPartOf p part
    → IsFeasible (refine_of p part others) counts ↔ KeepsWith p part others counts
