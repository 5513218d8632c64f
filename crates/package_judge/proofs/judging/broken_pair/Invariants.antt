-- The pairs so far break nothing.
use Rattle.std.proofs.Common.{◌≡◌, drop}
use Rattle.bound_query.specs.Asks.{asks}
use Rattle.package_judge.specs.Verdicts.{first, pairs_break}
use Rattle.package_judge.proofs.judging.broken_pair.Given as goal

abbrev pub invariant-loop-pair : goal.invariant-loop-pair
invariant-loop-pair l =
    first (pairs_break (asks l.query) l.rows (drop l.pair-index l.pairs)) ≡ first (pairs_break (asks l.query) l.rows l.pairs)
