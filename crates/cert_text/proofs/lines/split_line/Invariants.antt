use Rattle.std.proofs.Common.{take}
use Rattle.cert_text.specs.Rules.{HasNoFeed}
use Rattle.cert_text.proofs.lines.split_line.Given as goal

abbrev pub invariant-loop-at : goal.invariant-loop-at
invariant-loop-at l = HasNoFeed (take l.at l.text)
