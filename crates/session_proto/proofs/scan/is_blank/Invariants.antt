use Rattle.std.proofs.Common.{◌-◌, ◌≤◌, length, take}
use Rattle.session_proto.specs.Scans.{IsRead}
use Rattle.session_proto.proofs.scan.is_blank.Given as goal

abbrev pub invariant-loop-scan : goal.invariant-loop-scan
invariant-loop-scan l = (l.scan.passed ≤ length l.left) × IsRead l.scan (take l.scan.passed l.left)

abbrev pub decreases-loop-scan : goal.decreases-loop-scan
decreases-loop-scan l = length l.left - l.scan.passed
