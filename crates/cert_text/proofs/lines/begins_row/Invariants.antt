use Rattle.cert_text.proofs.Tries.{IsSeeking}
use Rattle.cert_text.proofs.lines.begins_row.Given as goal

abbrev pub invariant-loop-kind : goal.invariant-loop-kind
invariant-loop-kind l = IsSeeking l.expect l.text l.kind-index
