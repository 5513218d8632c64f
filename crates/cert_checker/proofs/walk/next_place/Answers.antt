use Rattle.cert_checker.specs.Walk.{others}
use Rattle.cert_checker.proofs.Walks.{taken, turns, not_is_true}
use Rattle.cert_checker.proofs.walk.next_place.Goals as goal

pub returns-then-not-cut : goal.returns-then-not-cut
returns-then-not-cut c =
    let places = others c.args.cuts.now.items c.args.region.now in
    turns places c.in-Some.cut c.pop.new.self.items c.go_into.new.cuts.items c.loop-cut.region c.undo.new.region c.go_into.new.region
    (not_is_true _ c.if-not-cut.true) c.undo.ensures
    (taken places c.loop-cut.cuts.items c.pop.new.self.items c.in-Some.cut c.loop-cut.region c.in-Some.ensures.items c.loop-cut.invariant)
    c.in_ok-go_into.ensures.region c.in_ok-go_into.ensures.cuts
