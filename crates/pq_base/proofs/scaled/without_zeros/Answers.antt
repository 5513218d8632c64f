use Rattle.std.proofs.Common.{arith}
use Rattle.pq_base.proofs.SameNumbers.{strip_step}
use Rattle.pq_base.proofs.scaled.without_zeros.Goals as goal

pub loop-places-preserved : goal.loop-places-preserved
loop-places-preserved c = record {
  same = strip_step c.args.magnitude c.args.scale c.loop-places.rest c.loop-places.places (omega arith) (omega arith) c.loop-places.invariant.same;
  smaller = omega arith;
  fewer = omega arith;
}
