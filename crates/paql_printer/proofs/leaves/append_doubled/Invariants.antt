-- The prefix so far has the bytes so far, with their quotes doubled.
use Rattle.std.proofs.Common.{◌≡◌, take}
use Rattle.paql_lexer.specs.Lexical.{doubled}
use Rattle.paql_printer.specs.Fronts.{more}
use Rattle.paql_printer.proofs.leaves.append_doubled.Given as goal

abbrev pub invariant-loop-byte : goal.invariant-loop-byte
invariant-loop-byte l = l.writer ≡ more l.fn.writer (doubled (take l.byte-index l.content))
