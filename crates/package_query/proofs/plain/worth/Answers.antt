use Rattle.package_query.proofs.Table.{IsSmallPackage-allowed}
use Rattle.package_query.proofs.plain.worth.Goals as goal

pub goal_worth-requires-clause-pairs : goal.goal_worth-requires-clause-pairs
goal_worth-requires-clause-pairs c =
    IsSmallPackage-allowed c.args.query.now c.args.rows.now c.args.pairs.now c.requires.small c.requires.ascends c.requires.rises c.requires.each
