use Rattle.std.proofs.Common.{inr, ◌++◌}
use Rattle.std.specs.Prelude.{map}
use Rattle.std.proofs.lemmas.Result.{err_from_is_err_and}
use Rattle.table_schema.specs.Columns.{schema_faults}
use Rattle.version_store.specs.Faults.{made_fault, exists_faults, tables_faults}
use Rattle.version_store.proofs.Performed.{due_left, due_right}
use Rattle.version_store.proofs.Drafting.{create_performed}
use Rattle.version_store.proofs.draft.Draft.create.Goals as goal

pub returns-in_err-made : goal.returns-in_err-made
returns-in_err-made c = λ high version.
    let p = err_from_is_err_and c.from_residual.result c.from_residual.ensures.1 in
    rw (p.1, p.2) (due_left (map (made_fault c.args.columns.now) (schema_faults c.args.columns.now)) (exists_faults c.args.self.now.tables c.args.table.now ++ tables_faults c.args.self.now.tables) c.in_err-made.field-0.0 c.in_err-made.ensures.judged)

pub returns-in_err-check_name : goal.returns-in_err-check_name
returns-in_err-check_name c = λ high version.
    let p = err_from_is_err_and c.from_residual-in_err-check_name.result c.from_residual-in_err-check_name.ensures.1 in
    rw (p.1, p.2) (due_right (map (made_fault c.args.columns.now) (schema_faults c.args.columns.now)) (exists_faults c.args.self.now.tables c.args.table.now ++ tables_faults c.args.self.now.tables) c.in_err-check_name.field-0.0 c.in_ok-made.ensures.judged
    (due_left (exists_faults c.args.self.now.tables c.args.table.now) (tables_faults c.args.self.now.tables) c.in_err-check_name.field-0.0 c.in_err-check_name.ensures))

pub returns-in_err-check_count : goal.returns-in_err-check_count
returns-in_err-check_count c = λ high version.
    let p = err_from_is_err_and c.from_residual-in_err-check_count.result c.from_residual-in_err-check_count.ensures.1 in
    rw (p.1, p.2) (due_right (map (made_fault c.args.columns.now) (schema_faults c.args.columns.now)) (exists_faults c.args.self.now.tables c.args.table.now ++ tables_faults c.args.self.now.tables) c.in_err-check_count.field-0.0 c.in_ok-made.ensures.judged
    (due_right (exists_faults c.args.self.now.tables c.args.table.now) (tables_faults c.args.self.now.tables) c.in_err-check_count.field-0.0 c.in_ok-check_name.ensures c.in_err-check_count.ensures))

pub returns-in_err-push : goal.returns-in_err-push
returns-in_err-push c = λ high version.
    let p = err_from_is_err_and c.from_residual-in_err-push.result c.from_residual-in_err-push.ensures.1 in
    rw (p.1, p.2) (inr c.in_err-push.ensures)

pub returns : goal.returns
returns c = λ high version. create_performed high version c.args.self.now c.push.new.self c.args.table.now c.args.columns.now c.in_ok-made.made c.in_ok-made.ensures.judged c.in_ok-check_name.ensures c.in_ok-check_count.ensures c.in_ok-made.ensures.new c.in_ok-push.ensures
