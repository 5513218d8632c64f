use Rattle.lin_bound.proofs.Sizes.{product_small}
use Rattle.lin_bound.proofs.bounds.share.Goals as goal

pub returns-clause-small : goal.returns-clause-small
returns-clause-small c =
    product_small c.args.multiplier c.args.number _ _ c.from.ensures c.from-2.ensures c.requires c.ranges.number
