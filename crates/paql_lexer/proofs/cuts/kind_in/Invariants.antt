use Rattle.std.proofs.Common.{◌≡◌, true, length, map}
use Rattle.paql_lexer.specs.Keywords.{kind_in, rises}
use Rattle.paql_lexer.proofs.cuts.kind_in.Given as goal

abbrev pub invariant-loop-table : goal.invariant-loop-table
invariant-loop-table l =
    (kind_in (map (λ entry. (entry.0.now, entry.1)) l.table) l.word ≡ kind_in (map (λ entry. (entry.0.now, entry.1)) l.initial.table) l.word)
    × (rises 0 (map (λ entry. (entry.0.now, entry.1)) l.table) ≡ true)

abbrev pub decreases-loop-table : goal.decreases-loop-table
decreases-loop-table l = length l.table
