use Rattle.std.proofs.Common.{◌-◌, length}
use Rattle.paql_lexer.proofs.Quotes.{IsContentBefore}
use Rattle.paql_lexer.proofs.cuts.content_len.Given as goal

abbrev pub invariant-loop-at : goal.invariant-loop-at
invariant-loop-at l = IsContentBefore l.body l.at

abbrev pub decreases-loop-at : goal.decreases-loop-at
decreases-loop-at l = length l.body - l.at
