-- Private: `src/lines.rt`.
-- The cost and the rows of a problem, as lines of one number a variable.
use Rattle.std.specs.Prelude.{◌<◌, ⊤, List, ℤ}
use Rattle.lin_bound.specs.Problem.{ProblemData, row_of, row_count}
use Rattle.sketch.specs.declared.lines.Line.{Line}
use Rattle.sketch.specs.declared.lines.Line.TheVariants.{Cost, Row}

abbrev pub numbers_of : ProblemData → Line → List ℤ
numbers_of p Cost = p.cost
numbers_of p (Row j) = row_of p j

-- the problem has this line
abbrev pub IsLineOf : ProblemData → Line → Type 0
IsLineOf p Cost = ⊤
IsLineOf p (Row j) = j < row_count p
