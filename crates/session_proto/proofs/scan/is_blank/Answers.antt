use Rattle.std.proofs.Common.{◌∙◌, arith}
use Rattle.session_proto.proofs.ScanSteps.{IsRead-more, is_blank-all}
use Rattle.session_proto.proofs.scan.is_blank.Goals as goal

pub loop-scan-preserved : goal.loop-scan-preserved
loop-scan-preserved c =
    rw c.behind-scan.ensures (omega (arith, c.loop-scan-test.true), IsRead-more c.loop-scan.scan c.args.left.now c.loop-scan-test.true c.loop-scan.invariant.1)

pub returns : goal.returns
returns c =
    c.is_blank.ensures ∙ is_blank-all c.loop-scan.scan c.args.left.now c.loop-scan-test.false c.loop-scan.invariant.1
