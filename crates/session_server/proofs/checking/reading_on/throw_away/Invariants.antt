use Rattle.std.proofs.Common.{◌-◌, ◌≡◌, length}
use Rattle.pq_base.specs.Shown.{shown}
use Rattle.paql_engine.specs.declared.ending.TheConstants.{MAX_BYTES, MAX_READ}
use Rattle.session_server.proofs.ReadingOn.{IsThrowing}
use Rattle.session_server.proofs.checking.reading_on.throw_away.Given as goal

abbrev pub invariant-loop-count : goal.invariant-loop-count
invariant-loop-count g l = IsThrowing (shown g.S.Source.left g.S.Source.faults l.fn.source) (shown g.S.Source.left g.S.Source.faults l.source) l.fn.taken l.taken
    × (length l.buf ≡ MAX_READ)

abbrev pub decreases-loop-count : goal.decreases-loop-count
decreases-loop-count g l = MAX_BYTES - l.taken
