-- The pairs so far.
use Rattle.std.proofs.Common.{◌≡◌, take}
use Rattle.query_answer.proofs.answering.copied.Given as goal

abbrev pub invariant-loop-id : goal.invariant-loop-id
invariant-loop-id l = l.pairs ≡ take l.id-index l.id-items
