use Rattle.std.proofs.Common.{◌-◌, length, drop, take, sym, ◌∙◌}
use Rattle.session_proto.specs.Scans.{StandsAtEnd}
use Rattle.session_proto.proofs.FrameSteps.{skips_on}
use Rattle.session_proto.proofs.scan.seek.Goals as goal

pub loop-scan-preserved : goal.loop-scan-preserved
loop-scan-preserved c =
    let start = c.loop-scan.cursor.start in
    let at_end : StandsAtEnd c.read_on-whole.result.0 (take (length c.args.held.now - start) (drop start c.args.held.now)) =
    rw c.if-not-whole.false at c.read_on-whole.ensures.ends in
    let on = skips_on c.args.held.now c.args.cursor.start start c.new-cursor.result.start c.read_on-whole.result.0 c.loop-scan.invariant.0.within c.new-cursor.ensures.start c.loop-scan.invariant.1 c.read_on-whole.ensures.scan at_end (sym c.is_blank.ensures ∙ c.if-not-is_blank.false) in
    (record { within = on.0; scan = c.new-cursor.ensures.scan _ }, on.1)
