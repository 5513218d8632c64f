use Rattle.std.proofs.Common.{◌≡◌, None, Some, rules}
use Rattle.session_proto.specs.Input.{content_of}
use Rattle.session_proto.specs.Refusals as refusals
use Rattle.paql_engine.specs.Loading.{Gives, columns_in, load_cause, no_table, in_body}
use Rattle.paql_engine.proofs.LoadedRows.{fault_given}
use Rattle.paql_engine.proofs.loading.find.Goals as goal

pub returns-in_default : goal.returns-in_default
returns-in_default c =
    let none : columns_in c.args.snapshot.now.tables c.args.table.now ≡ None = search rules in
    (refusals.no_table None c.args.table.now, no_table none, c.in_ok-no_table.ensures)

pub returns-in_ok-told-in-Err : goal.returns-in_ok-told-in-Err
returns-in_ok-told-in-Err c =
    let columns = c.in-Some.schema.now in
    let there : columns_in c.args.snapshot.now.tables c.args.table.now ≡ Some columns = search rules in
    let told = c.in_ok-told-in-Err.ensures in
    let given = fault_given (Gives columns (content_of c.args.body.now)) c.in-Err.fault c.in-Err.ensures told.0 in
    (load_cause columns c.in-Err.fault, in_body columns c.in-Err.fault there given, told.1)
