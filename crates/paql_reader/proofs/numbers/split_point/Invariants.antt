use Rattle.std.proofs.Common.{◌≡◌, ◌++◌, take, drop}
use Rattle.paql_grammar.specs.Numerals.{before_point, behind_point}
use Rattle.paql_reader.proofs.numbers.split_point.Given as goal

abbrev pub invariant-loop-at : goal.invariant-loop-at
invariant-loop-at l = (before_point l.text ≡ take l.at l.text ++ before_point (drop l.at l.text))
    × (behind_point l.text ≡ behind_point (drop l.at l.text))
