use Rattle.version_store.proofs.Judging.{put_absent, put_found}
use Rattle.version_store.proofs.updating.put.Goals as goal

pub returns-in_default : goal.returns-in_default
returns-in_default c = put_absent c.args.schema.now c.args.set.now c.args.row.now c.in_default.ensures.value

pub returns : goal.returns
returns c = put_found c.args.schema.now c.args.set.now c.in-Some.column.now c.place_or_zero-place.result c.in_ok-copied_lit.field-0 c.args.row.now c.put_cell.new.row c.in-Some.ensures.value c.place_or_zero-place.ensures c.in_ok-copied_lit.ensures c.put_cell.ensures
