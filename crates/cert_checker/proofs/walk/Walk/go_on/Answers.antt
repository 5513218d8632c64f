use Rattle.std.proofs.Common.{reverse}
use Rattle.lin_bound.specs.Box.{Splits, lower}
use Rattle.cert_checker.proofs.Walks.{undo_same, into_lower}
use Rattle.cert_checker.proofs.walk.Walk.go_on.Goals as goal

pub go_into-requires-clause-same : goal.go_into-requires-clause-same
go_into-requires-clause-same c = undo_same (reverse c.args.self.now.cuts.items) c.args.self.now.region c.requires.undoes

pub returns : goal.returns
returns c =
    let splits : Splits (lower c.in-Split.var c.in-Split.at) c.args.self.now.region = rw c.in-Split.is at c.requires.divided in
    rw c.in-Split.is
    (into_lower c.in-Split.var c.in-Split.at c.args.self.now.cuts.items c.go_into.new.cuts.items c.args.self.now.region c.go_into.new.region
    c.in_ok-go_into.ensures.region c.in_ok-go_into.ensures.cuts splits c.requires.undoes)
