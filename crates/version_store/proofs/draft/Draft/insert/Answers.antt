use Rattle.std.proofs.Common.{refl, inr}
use Rattle.std.proofs.lemmas.Result.{err_from_is_err_and}
use Rattle.snapshots.specs.declared.tables.Table.{Table}
use Rattle.version_store.specs.Faults.{insert_faults}
use Rattle.version_store.proofs.Drafting.{away_due, on_due, insert_performed}
use Rattle.version_store.proofs.draft.Draft.insert.Goals as goal

pub returns-in_err-place : goal.returns-in_err-place
returns-in_err-place c = λ high.
    let p = err_from_is_err_and c.from_residual.result c.from_residual.ensures.1 in
    rw (p.1, p.2) (away_due c.args.table.now c.args.self.now (λ (found : Table). insert_faults found.columns 1 c.args.rows.now) c.in_err-place.field-0.0 c.in_err-place.ensures.0 c.in_err-place.ensures.1)

pub returns-in_err-made : goal.returns-in_err-made
returns-in_err-made c = λ high.
    let p = err_from_is_err_and c.from_residual-in_err-made.result c.from_residual-in_err-made.ensures.1 in
    rw (p.1, p.2) (on_due c.args.table.now c.args.self.now c.in_ok-place.place c.table_at.result.now (λ (found : Table). insert_faults found.columns 1 c.args.rows.now) c.in_err-made.field-0.0 c.in_ok-place.ensures c.table_at.ensures c.in_err-made.ensures.judged)

pub returns-in_err-put : goal.returns-in_err-put
returns-in_err-put c = λ high.
    let p = err_from_is_err_and c.from_residual-in_err-put.result c.from_residual-in_err-put.ensures.1 in
    rw (p.1, p.2) (inr c.in_err-put.ensures)

pub returns : goal.returns
returns c = λ high.
    insert_performed high c.args.version c.args.self.now c.put.new.self c.args.table.now c.args.rows.now c.in_ok-place.place _ c.table_at.result.now c.in_ok-made.made c.in_ok-place.ensures c.table_at.ensures c.in_ok-made.ensures.judged c.in_ok-made.ensures.new c.in_ok-put.ensures refl
