use Rattle.paql_lexer.proofs.GapLemmas.{extends_more, gap_done}
use Rattle.paql_lexer.proofs.gaps.skip_gap.Goals as goal

pub loop-behind-preserved : goal.loop-behind-preserved
loop-behind-preserved c =
    let piece = c.in-Some.ensures in
    extends_more c.args.text.now c.loop-behind.rest.now c.in-Some.behind.now piece.0 c.loop-behind.invariant piece.1 piece.2

pub returns : goal.returns
returns c = gap_done c.args.text.now c.loop-behind.rest.now c.loop-behind.invariant c.in_default.ensures
