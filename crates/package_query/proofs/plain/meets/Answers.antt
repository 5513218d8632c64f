use Rattle.package_query.proofs.Table.{IsSmallPackage-allowed}
use Rattle.package_query.proofs.plain.meets.Goals as goal

pub keeps_all-requires-clause-pairs : goal.keeps_all-requires-clause-pairs
keeps_all-requires-clause-pairs c =
    IsSmallPackage-allowed c.args.query.now c.args.rows.now c.args.pairs.now c.requires.small c.requires.ascends (c.is_package.ensures.0 c.if-not-is_package.false) (c.all_allowed.ensures.0 c.if-not-all_allowed.false)
