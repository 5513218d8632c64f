use Rattle.std.proofs.Common.{◌-◌, length, drop}
use Rattle.session_proto.specs.Frames.{Skips}
use Rattle.session_proto.specs.Scans.{IsAt}
use Rattle.session_proto.proofs.scan.seek.Given as goal

abbrev pub invariant-loop-scan : goal.invariant-loop-scan
invariant-loop-scan l = IsAt l.cursor l.held × Skips (drop l.fn.cursor.start l.held) (drop l.cursor.start l.held)

abbrev pub decreases-loop-scan : goal.decreases-loop-scan
decreases-loop-scan l = length l.held - l.cursor.start
