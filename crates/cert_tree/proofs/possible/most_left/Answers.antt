use Rattle.std.proofs.Common.{◌≡◌, [], rules}
use Rattle.std.proofs.lemmas.Int.{to_z-of_z}
use mir.Syntax.{w64}
use mir.Val.{SFits, to_z, of_z}
use Rattle.cert_tree.specs.Places.{raised}
use Rattle.cert_tree.proofs.Walking.{place_is_there, walking_turn}
use Rattle.cert_tree.proofs.possible.most_left.Goals as goal

pub unreachable-requires : goal.unreachable-requires
unreachable-requires c =
    let empty : c.loop-number.pending.items ≡ [] = search rules in
    place_is_there c.args.problem.now c.args.best c.nodes-nodes.result.now c.loop-number.pending.items _ c.loop-number.number c.loop-number-test.true empty c.loop-number.invariant

pub loop-number-preserved : goal.loop-number-preserved
loop-number-preserved c =
    let fits : SFits w64 c.in_ok-most.most = search rules in
    let made = c.in_ok-most.ensures in
    let more : to_z w64 (of_z w64 c.in_ok-most.most) ≡ raised c.args.problem.now c.nodes-nodes.result.now c.in-Some.place (to_z w64 c.loop-number.most-bits) c.index-nodes-number.result = simp to_z-of_z made in
    walking_turn c.args.problem.now c.args.best c.nodes-nodes.result.now c.loop-number.pending.items c.pop.new.self.items c.put_halves.new.pending.items c.in-Some.place _ _ c.loop-number.number c.index-nodes-number.result c.loop-number-test.true c.index-nodes-number.is c.in-Some.ensures.items more c.in_ok-put_halves.ensures c.loop-number.invariant
