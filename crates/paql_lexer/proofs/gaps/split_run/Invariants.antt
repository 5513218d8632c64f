use Rattle.std.proofs.Common.{take}
use Rattle.paql_lexer.specs.Lexical.{AllIn, in_run}
use Rattle.paql_lexer.proofs.gaps.split_run.Given as goal

abbrev pub invariant-loop-at : goal.invariant-loop-at
invariant-loop-at l = AllIn (in_run l.run) (take l.at l.text)
