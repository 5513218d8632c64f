use Rattle.std.proofs.Common.{rules}
use Rattle.std.proofs.lemmas.Int.{to_z-of_z}
use Rattle.std.specs.Int.{w128}
use Rattle.std.specs.Int.RustNames.{FitsSigned}
use Rattle.answer_check.proofs.Programs.{total_small}
use Rattle.answer_check.proofs.packages.judge_package.Goals as goal

pub worth-requires : goal.worth-requires
worth-requires c =
    let fits : FitsSigned w128 c.in-Meets.total = search rules in
    let said = rw c.in-Meets.is at c.in_ok-place.ensures in
    simp to_z-of_z
    (total_small c.args.query.now c.args.rows.now c.args.pairs.now c.in-Meets.total c.requires.asked c.requires.program said.1 said.2)
