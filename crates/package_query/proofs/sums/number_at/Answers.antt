use Rattle.std.proofs.Common.{◌≡◌, pos, ◌∙◌, rules, w64}
use Rattle.std.proofs.lemmas.Int.{to_z-of_z}
use Rattle.std.proofs.lemmas.Option.{unwrap_or-slice_get}
use Rattle.package_query.specs.Plain.{number_at}
use Rattle.package_query.proofs.sums.number_at.Goals as goal
use mir.Val.{SFits}

pub returns : goal.returns
returns c =
    let fits : SFits w64 c.unwrap_or.result = search rules in
    let value : c.unwrap_or.result ≡ number_at c.args.place c.args.row.now =
    cc (c.get.ensures.value, c.copied.ensures, c.unwrap_or.ensures, unwrap_or-slice_get c.args.row.now c.args.place (pos 0)) in
    to_z-of_z w64 c.unwrap_or.result fits ∙ value
