use Rattle.cert_text.proofs.Tries.{IsTrying}
use Rattle.cert_text.proofs.lines.row.Given as goal

abbrev pub invariant-loop-kind : goal.invariant-loop-kind
invariant-loop-kind l = IsTrying l.expect l.line l.kind-index
