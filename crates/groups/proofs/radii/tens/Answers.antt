use Rattle.std.proofs.Common.{rules, SFits}
use Rattle.std.specs.Int.{w128}
use Rattle.std.proofs.lemmas.Int.{to_z-of_z}
use Rattle.groups.proofs.NumberLemmas.{ten_to_most}
use Rattle.groups.proofs.radii.tens.Goals as goal

pub returns-clause-small : goal.returns-clause-small
returns-clause-small c =
    let fits : SFits w128 c.from-2.result = search rules in
    simp to_z-of_z (rw (c.from-2.ensures, c.pow.ensures, c.from.ensures) (ten_to_most c.args.places c.requires))
