use Rattle.std.proofs.Common.{◌-◌, ◌≡◌, length}
use Rattle.pq_base.specs.Shown.{shown}
use Rattle.paql_engine.specs.declared.ending.TheConstants.{MAX_BYTES, MAX_READ}
use Rattle.session_server.proofs.ReadingOn.{IsCollecting}
use Rattle.session_server.proofs.checking.reading_on.collect.Given as goal

abbrev pub invariant-loop-all : goal.invariant-loop-all
invariant-loop-all g l = IsCollecting (shown g.S.Source.left g.S.Source.faults l.fn.source) (shown g.S.Source.left g.S.Source.faults l.source) l.fn.taken l.taken l.fn.before.items l.all.items
    × (length l.buf ≡ MAX_READ)

abbrev pub decreases-loop-all : goal.decreases-loop-all
decreases-loop-all g l = MAX_BYTES - l.taken
