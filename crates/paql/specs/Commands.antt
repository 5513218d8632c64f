-- Private: `src/top/commands.rt`.
-- What the words of a command line ask for.
use Rattle.std.specs.Prelude.{List, String, Option, Some, None}
use Rattle.std.specs.declared.alloc.Global.{Global}
use Rattle.paql.specs.Status.{IsRun, IsCheck}
use Rattle.paql.specs.declared.top.commands.Command.{Command}
use Rattle.paql.specs.declared.top.commands.Command.TheVariants.{Run, Check}

abbrev pub IsCommand : List (String Global) → Option Command → Type 0
IsCommand words (Some Run) = IsRun words
IsCommand words (Some Check) = IsCheck words
IsCommand words None = (¬ IsRun words) × (¬ IsCheck words)
