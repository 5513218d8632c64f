use Rattle.std.proofs.Common.{inr, [], ◌++◌}
use Rattle.std.proofs.lemmas.Result.{err_from_is_err_and}
use Rattle.snapshots.specs.declared.tables.Table.{Table}
use Rattle.version_store.specs.Faults.{set_faults, condition_faults}
use Rattle.version_store.proofs.Drafting.{away_due, on_due, rows_at, update_performed}
use Rattle.version_store.proofs.draft.Draft.update.Goals as goal

pub returns-in_err-place : goal.returns-in_err-place
returns-in_err-place c = λ high.
    let p = err_from_is_err_and c.from_residual.result c.from_residual.ensures.1 in
    rw (p.1, p.2) (away_due c.args.table.now c.args.self.now (λ (found : Table). set_faults found.columns [] c.args.sets.now ++ condition_faults found c.args.filter.now) c.in_err-place.field-0.0 c.in_err-place.ensures.0 c.in_err-place.ensures.1)

pub returns-in_err-done : goal.returns-in_err-done
returns-in_err-done c = λ high.
    let p = err_from_is_err_and c.from_residual-in_err-done.result c.from_residual-in_err-done.ensures.1 in
    rw (p.1, p.2) (on_due c.args.table.now c.args.self.now c.in_ok-place.place c.table_at.result.now (λ (found : Table). set_faults found.columns [] c.args.sets.now ++ condition_faults found c.args.filter.now) c.in_err-done.field-0.0 c.in_ok-place.ensures c.table_at.ensures c.in_err-done.ensures.judged)

pub returns-in_err-put : goal.returns-in_err-put
returns-in_err-put c = λ high.
    let p = err_from_is_err_and c.from_residual-in_err-put.result c.from_residual-in_err-put.ensures.1 in
    rw (p.1, p.2) (inr c.in_err-put.ensures)

pub returns : goal.returns
returns c = λ high.
    update_performed high c.args.version c.args.self.now c.put.new.self c.args.table.now c.args.sets.now c.args.filter.now c.in_ok-place.place c.in_ok-done.done.1 c.table_at.result.now c.in_ok-done.done.0 c.in_ok-place.ensures c.table_at.ensures c.in_ok-done.ensures.judged c.in_ok-done.ensures.new c.in_ok-done.ensures.rows c.in_ok-put.ensures

pub updated-requires : goal.updated-requires
updated-requires c = rows_at c.args.self.now.tables c.in_ok-place.place c.table_at.result.now c.requires c.in_ok-place.ensures.within c.table_at.ensures
