use Rattle.std.proofs.Common.{refl, length}
use Rattle.groups.proofs.WorkedLemmas.{worked_cut}
use Rattle.groups.proofs.tests.cut_table.Goals as goal

pub returns : goal.returns
returns c =
    worked_cut _ _ (length c.args.numbers.now) c.in_ok-schema.ensures refl c.in_ok-rows.ensures c.requires.few c.requires.some c.requires.size c.requires.fine c.requires.near
