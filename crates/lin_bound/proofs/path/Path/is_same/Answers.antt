use Rattle.std.proofs.Common.{◌≡◌, rules}
use Rattle.lin_bound.proofs.Paths.{front_more}
use Rattle.lin_bound.proofs.path.Path.is_same.Goals as goal

pub loop-place-preserved : goal.loop-place-preserved
loop-place-preserved c =
    let same : c.branch-self.result ≡ c.branch-other.result = search rules in
    front_more c.args.self.now c.args.other.now c.loop-place.place c.branch-self.result c.branch-other.result c.branch-self.ensures c.branch-other.ensures same c.loop-place.invariant
