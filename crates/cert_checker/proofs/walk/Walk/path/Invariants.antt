use Rattle.std.proofs.Common.{◌≡◌, take}
use Rattle.cert_checker.specs.Walk.{path_to}
use Rattle.cert_checker.proofs.walk.Walk.path.Given as goal

abbrev pub invariant-loop-cut : goal.invariant-loop-cut
invariant-loop-cut l = l.halves ≡ path_to (take l.cut-index l.self.cuts.items)
