use Rattle.version_store.specs.Performing.{set_names}
use Rattle.std.proofs.Common.{sym}
use Rattle.version_store.proofs.Judging.{set_absent, set_twice, set_unfit, set_fine}
use Rattle.version_store.proofs.setting.check_set.Goals as goal

pub returns-in_default : goal.returns-in_default
returns-in_default c = set_absent c.args.schema.now (set_names c.args.before.now) c.args.set.now c.no_column.result c.in_default.ensures.value c.no_column.ensures

pub returns-then-is_set : goal.returns-then-is_set
returns-then-is_set c = set_twice c.args.schema.now (set_names c.args.before.now) c.args.set.now c.in-Some.column.now c.named_twice.result c.in-Some.ensures.value (sym c.if-is_set.ensures) c.named_twice.ensures

pub returns-in-Some-cell_fault : goal.returns-in-Some-cell_fault
returns-in-Some-cell_fault c = set_unfit c.args.schema.now (set_names c.args.before.now) c.args.set.now c.in-Some.column.now c.in-Some-cell_fault.fault c.set_kind.result c.in-Some.ensures.value (sym c.if-is_set.ensures) c.in-Some-cell_fault.ensures c.set_kind.ensures

pub returns-in-None : goal.returns-in-None
returns-in-None c = set_fine c.args.schema.now (set_names c.args.before.now) c.args.set.now c.in-Some.column.now c.in-Some.ensures.value (sym c.if-is_set.ensures) c.in-None.ensures
