use Rattle.std.proofs.Common.{◌∙◌}
use Rattle.groups.proofs.PairLemmas.{put_last, value_ok}
use Rattle.groups.proofs.pairs.put.Goals as goal

pub returns : goal.returns
returns c = value_ok c.insert.result _ c.insert.ensures.entries (c.insert.ensures.succeeds c.requires.room) ∙ put_last c.args.key c.args.groups c.args.pairs.now.entries c.requires.absent
