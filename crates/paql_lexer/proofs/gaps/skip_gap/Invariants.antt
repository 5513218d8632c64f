use Rattle.std.proofs.Common.{length}
use Rattle.paql_lexer.proofs.GapLemmas.{ExtendsGaps}
use Rattle.paql_lexer.proofs.gaps.skip_gap.Given as goal

abbrev pub invariant-loop-behind : goal.invariant-loop-behind
invariant-loop-behind l = ExtendsGaps l.text l.rest

abbrev pub decreases-loop-behind : goal.decreases-loop-behind
decreases-loop-behind l = length l.rest
