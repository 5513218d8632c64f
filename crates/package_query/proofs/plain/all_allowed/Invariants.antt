use Rattle.std.proofs.Common.{◌↔◌, drop}
use Rattle.std.specs.List.{AllByRecursion}
use Rattle.package_query.specs.Meaning.{IsAllowed}
use Rattle.package_query.specs.Plain.{query_of}
use Rattle.package_query.proofs.plain.all_allowed.Given as goal

abbrev pub invariant-loop-pair : goal.invariant-loop-pair
invariant-loop-pair l =
    AllByRecursion (IsAllowed (query_of l.query) l.rows) (drop l.pair-index l.pairs)
    ↔ AllByRecursion (IsAllowed (query_of l.query) l.rows) l.pairs
