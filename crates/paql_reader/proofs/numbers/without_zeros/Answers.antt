use Rattle.std.proofs.Common.{sym, ◌∙◌, arith}
use Rattle.paql_grammar.proofs.NumeralLemmas.{zeros_end, zeros_go}
use Rattle.paql_reader.proofs.numbers.without_zeros.Goals as goal

pub returns-then-digits-len-ne48 : goal.returns-then-digits-len-ne48
returns-then-digits-len-ne48 c =
    sym (zeros_end c.args.digits.now c.loop-len.len (omega arith) c.loop-len.invariant.0 (λ e. omega (arith, e))) ∙ c.loop-len.invariant.1

pub loop-len-preserved : goal.loop-len-preserved
loop-len-preserved c =
    (omega arith, zeros_go c.args.digits.now c.loop-len.len (omega arith) c.loop-len.invariant.0 (omega arith) ∙ c.loop-len.invariant.1)
