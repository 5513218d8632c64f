use Rattle.groups.specs.Kept.{entry_kept}
use Rattle.groups.proofs.PairLemmas.{added}
use Rattle.groups.proofs.cache.GroupCache.add.Goals as goal

pub returns-clause-ok : goal.returns-clause-ok
returns-clause-ok c =
    let both = added entry_kept c.self.inside.kept.entries c.reserve.new.self.entries c.make_room.new.pairs.entries c.put.new.pairs.entries (c.args.key, c.args.groups) c.args.self.now c.len-place.result c.self.view_is c.reserve.ensures.entries c.make_room.ensures.entries c.put.ensures c.len-place.ensures.len in
    record { kept = both.0; at = both.1 }
