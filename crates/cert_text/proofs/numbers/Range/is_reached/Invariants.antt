use Rattle.cert_text.proofs.Decimals.{IsReaching}
use Rattle.cert_text.proofs.numbers.Range.is_reached.Given as goal

abbrev pub invariant-loop-high : goal.invariant-loop-high
invariant-loop-high l = IsReaching l.number l.low l.high l.initial.low l.initial.high

abbrev pub decreases-loop-high : goal.decreases-loop-high
decreases-loop-high l = l.low
