use Rattle.std.proofs.Common.{sym}
use Rattle.version_store.proofs.Judging.{group_absent, group_text, group_twice, group_fine}
use Rattle.version_store.proofs.partitioning.check_group.Goals as goal

pub returns-in_default : goal.returns-in_default
returns-in_default c = group_absent c.args.schema.now c.args.before.now c.args.name.now c.no_column.result c.in_default.ensures.value c.no_column.ensures

pub returns-then-is_text : goal.returns-then-is_text
returns-then-is_text c = group_text c.args.schema.now c.args.before.now c.args.name.now c.in-Some.column.now c.wrong_kind.result c.in-Some.ensures.value (sym c.if-is_text.ensures) c.wrong_kind.ensures

pub returns-then-is_named : goal.returns-then-is_named
returns-then-is_named c = group_twice c.args.schema.now c.args.before.now c.args.name.now c.in-Some.column.now c.named_twice.result c.in-Some.ensures.value (sym c.if-is_text.ensures) (sym c.if-is_named.ensures) c.named_twice.ensures

pub returns : goal.returns
returns c = group_fine c.args.schema.now c.args.before.now c.args.name.now c.in-Some.column.now c.in-Some.ensures.value (sym c.if-is_text.ensures) (sym c.if-is_named.ensures)
