use Rattle.std.proofs.Common.{length, ◌-◌}
use Rattle.pq_base.specs.Shown.{shown}
use Rattle.session_server.proofs.Writing.{IsWriting}
use Rattle.session_server.proofs.streams.put_all.Given as goal

abbrev pub invariant-loop-at : goal.invariant-loop-at
invariant-loop-at g l = IsWriting (shown g.K.Sink.written g.K.Sink.faults l.fn.sink) (shown g.K.Sink.written g.K.Sink.faults l.sink) l.text l.at

abbrev pub decreases-loop-at : goal.decreases-loop-at
decreases-loop-at g l = length l.text - l.at
