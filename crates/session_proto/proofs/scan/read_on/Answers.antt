use Rattle.std.proofs.Common.{◌∙◌, sym, arith}
use Rattle.session_proto.proofs.ScanSteps.{IsScan-more}
use Rattle.session_proto.proofs.scan.read_on.Goals as goal

pub loop-scan-preserved : goal.loop-scan-preserved
loop-scan-preserved c =
    rw c.behind-scan.ensures (IsScan-more c.loop-scan.scan c.args.left.now (omega arith) (omega arith) c.loop-scan.invariant (sym c.ends.ensures ∙ c.if-ends.false))
