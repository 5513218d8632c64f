use Rattle.std.proofs.Common.{◌≡◌, sym, ◌∙◌, ap}
use Rattle.std.proofs.lemmas.List.{reverse-reverse}
use Rattle.cert_checker.specs.Walk.{path_to, here}
use Rattle.cert_checker.specs.Faults.{IsRight, IsWrong}
use Rattle.cert_checker.proofs.FirstFaults.{wrong_here, walks_off, walks_on}
use Rattle.cert_checker.proofs.checking.check_nodes.Goals as goal

pub returns-in-Some : goal.returns-in-Some
returns-in-Some c =
    let cuts = c.loop-node.walk.cuts.items in
    let box = c.loop-node.walk.region in
    let path_is : c.in_ok-path.field-0 ≡ (here cuts box).path = c.in_ok-path.ensures ∙ ap path_to (sym (reverse-reverse cuts)) in
    let wrong : IsWrong c.args.problem.now c.args.best box c.node-item.result c.in-Some.reason = rw c.region.ensures at c.in-Some.ensures in
    wrong_here c.args.problem.now c.args.best c.args.nodes.now cuts box c.loop-node.node-index c.node-item.result c.in_ok-path.field-0 c.in-Some.reason
    c.loop-node-test.true c.node-item.is path_is wrong c.loop-node.invariant

pub returns-then-not-branch : goal.returns-then-not-branch
returns-then-not-branch c =
    let box = c.loop-node.walk.region in
    let right : IsRight c.args.problem.now c.args.best box c.node-item.result = rw c.region.ensures at c.in_default.ensures in
    walks_off c.args.problem.now c.args.best c.args.nodes.now c.loop-node.walk.cuts.items c.go_on.new.self.cuts.items box c.go_on.new.self.region c.loop-node.node-index c.node-item.result
    c.loop-node-test.true c.node-item.is right (rw c.if-not-branch.true at c.in_ok-go_on.ensures) c.loop-node.invariant

pub loop-node-preserved : goal.loop-node-preserved
loop-node-preserved c =
    let box = c.loop-node.walk.region in
    let right : IsRight c.args.problem.now c.args.best box c.node-item.result = rw c.region.ensures at c.in_default.ensures in
    walks_on c.args.problem.now c.args.best c.args.nodes.now c.loop-node.walk.cuts.items c.go_on.new.self.cuts.items box c.go_on.new.self.region c.loop-node.node-index c.node-item.result
    c.loop-node-test.true c.node-item.is right (rw c.if-not-branch.false at c.in_ok-go_on.ensures) c.loop-node.invariant
