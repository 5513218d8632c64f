-- Private: a lane of open paths, which the program does not use yet: the answers of a steal.
-- A fact by cases on what a steal answers.
use Rattle.std.specs.Prelude.{List}
use Rattle.lin_bound.specs.declared.path.Branch.{Branch}
use Rattle.sub_deque.specs.declared.lane.Stolen.{Stolen}
use Rattle.sub_deque.specs.declared.lane.Stolen.TheVariants.{Got, Empty, Retry}

abbrev pub MatchStolen : Stolen → (List Branch → Type 0) → Type 0 → Type 0 → Type 0
MatchStolen (Got path) got empty retry = got path
MatchStolen Empty got empty retry = empty
MatchStolen Retry got empty retry = retry
