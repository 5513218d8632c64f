use Rattle.std.proofs.Common.{◌≡◌, [], rules}
use Rattle.cert_tree.proofs.Laying.{path_found, laying_turn, laying_ended, laid_is_whole}
use Rattle.cert_tree.proofs.assembly.lay.Goals as goal

pub place_of-place-requires : goal.place_of-place-requires
place_of-place-requires c =
    path_found c.args.pieces.items c.loop-path.pending.items c.pop.new.self.items c.in-Some.path c.loop-path.nodes c.loop-path.pieces.items c.deref.result.now c.in-Some.ensures.items c.deref.ensures.value c.loop-path.invariant

pub loop-path-preserved : goal.loop-path-preserved
loop-path-preserved c =
    laying_turn c.args.pieces.items c.loop-path.pending.items c.pop.new.self.items c.node_of.new.pending.items c.in-Some.path c.loop-path.nodes c.push-in-Some.new.self c.loop-path.pieces.items c.deref.result.now c.remove-piece.new.self.items c.place_of-place.result c.remove-piece.result c.in_ok-node.node c.in-Some.ensures.items c.deref.ensures.value c.place_of-place.ensures.within c.place_of-place.ensures.found c.remove-piece.ensures.value c.remove-piece.ensures.items c.in_ok-node.ensures.pending c.in_ok-node.ensures.node c.in_ok-push-2.ensures.ok c.loop-path.invariant

pub new-requires-2 : goal.new-requires-2
new-requires-2 c =
    let empty : c.loop-path.pending.items ≡ [] = search rules in
    laid_is_whole c.args.pieces.items c.loop-path.nodes (laying_ended c.args.pieces.items c.loop-path.pending.items c.loop-path.nodes c.loop-path.pieces.items empty c.loop-path.invariant)

pub returns : goal.returns
returns c =
    let empty : c.loop-path.pending.items ≡ [] = search rules in
    rw c.new-2.ensures (laying_ended c.args.pieces.items c.loop-path.pending.items c.loop-path.nodes c.loop-path.pieces.items empty c.loop-path.invariant)
