-- Private: what a search finds, for the solver's answers.
-- What a search finds.
use Rattle.std.specs.Prelude.{◌≡◌, ℕ, List, ℤ, Option, None, Some}
use Rattle.lin_bound.specs.Problem.{ProblemData, cost_at, IsFeasible}

-- a cost, and a point that has it
abbrev pub Found : Type 0
Found = ℤ × List ℕ

-- what was found is feasible, with its cost
abbrev pub IsFound : ProblemData → Option Found → Type 0
IsFound p None = Unit {0}
IsFound p (Some found) = IsFeasible p found.1 × (cost_at p found.1 ≡ found.0)

-- its cost
abbrev pub value_in : Option Found → Option ℤ
value_in None = None
value_in (Some found) = Some found.0
