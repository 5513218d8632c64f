use Rattle.std.proofs.Common.{arith, sym}
use Rattle.paql_lexer.specs.Lexical.{in_run}
use Rattle.paql_lexer.proofs.Runs.{AllIn-more}
use Rattle.paql_lexer.proofs.gaps.split_run.Goals as goal

pub loop-at-preserved : goal.loop-at-preserved
loop-at-preserved c =
    AllIn-more (in_run c.args.run) c.args.text.now c.loop-at.at (omega arith) c.loop-at.invariant (sym c.if-not-is_in_run.ensures)
