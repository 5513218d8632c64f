use Rattle.std.proofs.Common.{◌≡◌, ◌≤◌, length, take}
use Rattle.paql_grammar.specs.Numerals.{without_zeros}
use Rattle.paql_reader.proofs.numbers.without_zeros.Given as goal

abbrev pub invariant-loop-len : goal.invariant-loop-len
invariant-loop-len l = (l.len ≤ length l.digits) × (without_zeros (take l.len l.digits) ≡ without_zeros l.digits)

abbrev pub decreases-loop-len : goal.decreases-loop-len
decreases-loop-len l = l.len
