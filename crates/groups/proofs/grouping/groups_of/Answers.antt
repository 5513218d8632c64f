use Rattle.std.proofs.Common.{◌∙◌, ap, sym}
use Rattle.std.specs.Option.{option_copied}
use Rattle.groups.proofs.grouping.groups_of.Goals as goal

pub split_table-requires : goal.split_table-requires
split_table-requires c =
    c.requires c.args.table.now c.in-Some.found.now c.in-Some-as_ref.cut.now
    (sym c.table.ensures ∙ ap option_copied c.in-Some.is)
    (sym c.as_ref.ensures.value ∙ ap option_copied c.in-Some-as_ref.is)
