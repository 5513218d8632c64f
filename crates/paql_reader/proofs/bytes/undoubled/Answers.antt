use Rattle.std.proofs.Common.{◌∙◌, sym, ap, ◌++◌, Bool, drop, arith}
use Rattle.paql_grammar.specs.Lexemes.{undoubled}
use Rattle.paql_reader.proofs.TextLemmas.{left_out}
use Rattle.paql_reader.proofs.bytes.undoubled.Goals as goal

pub loop-byte-preserved-then-twin : goal.loop-byte-preserved-then-twin
loop-byte-preserved-then-twin c =
    left_out c.loop-byte.content c.args.bytes.now c.loop-byte.byte-index (omega arith) ∙ (ap (λ (twin : Bool). c.loop-byte.content ++ undoubled twin (drop c.loop-byte.byte-index c.args.bytes.now)) (sym c.if-twin.true) ∙ c.loop-byte.invariant)
