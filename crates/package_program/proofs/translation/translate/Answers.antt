use Rattle.std.proofs.Common.{◌≡◌, ◌≤◌, ◌∙◌, ap, length, arith}
use Rattle.std.proofs.lemmas.List.{length-map}
use Rattle.bound_query.specs.Asks.{asks}
use Rattle.package_program.specs.Program.{candidates}
use Rattle.package_program.specs.Translation.{entries_of}
use Rattle.package_program.proofs.FormSteps.{are_candidates}
use Rattle.package_program.proofs.translation.translate.Goals as goal

pub program_of-requires : goal.program_of-requires
program_of-requires c =
    let found : entries_of c.deref.result.now ≡ candidates (asks c.args.query.now) c.args.rows.now = ap entries_of c.deref.ensures.value ∙ c.in_ok-candidates.ensures in
    let few : length c.deref.result.now ≤ 100000 = omega (arith, c.deref.ensures.len, c.len.ensures, c.if-len-gt-MOST_CANDIDATES.false) in
    are_candidates c.args.query.now c.args.rows.now (entries_of c.deref.result.now) c.requires found (rw length-map few)
