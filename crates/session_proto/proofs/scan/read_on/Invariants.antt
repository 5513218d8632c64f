use Rattle.std.proofs.Common.{◌-◌, length}
use Rattle.session_proto.specs.Scans.{IsScan}
use Rattle.session_proto.proofs.scan.read_on.Given as goal

abbrev pub invariant-loop-scan : goal.invariant-loop-scan
invariant-loop-scan l = IsScan l.scan l.left

abbrev pub decreases-loop-scan : goal.decreases-loop-scan
decreases-loop-scan l = length l.left - l.scan.passed
