-- The kind is in the rest of the table just where it is in the whole.
use Rattle.std.proofs.Common.{◌≡◌, length, map}
use Rattle.paql_printer.specs.Spellings.{spelling_in}
use Rattle.paql_printer.proofs.spellings.spelling_in.Given as goal

abbrev pub invariant-loop-table : goal.invariant-loop-table
invariant-loop-table l =
    spelling_in (map (λ entry. (entry.0.now, entry.1)) l.table) l.kind ≡ spelling_in (map (λ entry. (entry.0.now, entry.1)) l.initial.table) l.kind

abbrev pub decreases-loop-table : goal.decreases-loop-table
decreases-loop-table l = length l.table
