use Rattle.std.proofs.Common.{vec_len}
use Rattle.cert_checker.specs.Walk.{others}
use Rattle.cert_checker.proofs.Walks.{IsMending}
use Rattle.cert_checker.proofs.walk.next_place.Given as goal

abbrev pub invariant-loop-cut : goal.invariant-loop-cut
invariant-loop-cut l = IsMending (others l.fn.cuts.items l.fn.region) l.cuts.items l.region

abbrev pub decreases-loop-cut : goal.decreases-loop-cut
decreases-loop-cut l = vec_len l.cuts
