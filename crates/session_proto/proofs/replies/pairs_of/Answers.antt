use Rattle.std.proofs.Common.{ap, map, ◌∙◌}
use Rattle.std.proofs.lemmas.List.{take_all}
use Rattle.serde_json.specs.View.{items_of}
use Rattle.session_proto.specs.Replies.{pair_data}
use Rattle.session_proto.proofs.replies.pairs_of.Goals as goal

pub returns : goal.returns
returns c =
    ap items_of (c.loop-pair.invariant ∙ ap (map pair_data) (take_all c.loop-pair.pair-index c.args.pairs.now c.loop-pair-test.false))
