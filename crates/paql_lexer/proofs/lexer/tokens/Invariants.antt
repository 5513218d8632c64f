use Rattle.std.proofs.Common.{length}
use Rattle.paql_lexer.proofs.Reached.{IsReached}
use Rattle.paql_lexer.proofs.lexer.tokens.Given as goal

abbrev pub invariant-loop-rest : goal.invariant-loop-rest
invariant-loop-rest l = IsReached l.text l.tokens.items l.rest

abbrev pub decreases-loop-rest : goal.decreases-loop-rest
decreases-loop-rest l = length l.rest
