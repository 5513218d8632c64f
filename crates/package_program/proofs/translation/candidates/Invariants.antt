use Rattle.std.proofs.Common.{◌≡◌, take}
use Rattle.bound_query.specs.Asks.{asks}
use Rattle.package_program.specs.Program.{candidates}
use Rattle.package_program.specs.Translation.{entries_of}
use Rattle.package_program.proofs.translation.candidates.Given as goal

abbrev pub invariant-loop-row : goal.invariant-loop-row
invariant-loop-row l = entries_of l.found.items ≡ candidates (asks l.query) (take l.row-index l.rows)
