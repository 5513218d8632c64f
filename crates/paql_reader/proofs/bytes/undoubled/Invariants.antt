use Rattle.std.proofs.Common.{◌≡◌, ◌++◌, drop, false}
use Rattle.paql_grammar.specs.Lexemes.{undoubled}
use Rattle.paql_reader.proofs.bytes.undoubled.Given as goal

abbrev pub invariant-loop-byte : goal.invariant-loop-byte
invariant-loop-byte l = l.content ++ undoubled l.twin (drop l.byte-index l.bytes) ≡ undoubled false l.bytes
