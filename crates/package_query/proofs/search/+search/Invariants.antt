use Rattle.std.proofs.Common.{length}
use Rattle.package_query.specs.Plain.{query_of}
use Rattle.package_query.specs.Search.{Improves}
use Rattle.package_query.proofs.Trials.{IsTriedBelow}
use Rattle.package_query.proofs.search.+search.Given as goal

abbrev pub decreases-search : goal.decreases-search
decreases-search l = length l.left.now

abbrev pub invariant-loop-count : goal.invariant-loop-count
invariant-loop-count l =
    Improves (query_of l.query) l.rows (IsTriedBelow l.count l.first.0 l.chosen l.others) l.fn.best l.best
