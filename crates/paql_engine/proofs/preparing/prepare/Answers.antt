use Rattle.std.proofs.lemmas.Result.{err_from_is_err_and}
use Rattle.paql_engine.proofs.MadeReady.{prepared_on, refused_on, unkept_told}
use Rattle.paql_engine.proofs.preparing.prepare.Goals as goal

pub returns-in_err-bound-in-Ok-clause-gives : goal.returns-in_err-bound-in-Ok-clause-gives
returns-in_err-bound-in-Ok-clause-gives g c =
    let p = err_from_is_err_and c.from_residual.result c.from_residual.ensures.1 in
    let told = refused_on (g.V.Vault.held c.look.new.vault) c.args.query.now c.in-Ok.snapshot c.in_err-bound-in-Ok.field-0.0 c.in-Ok.ensures.looks c.in_err-bound-in-Ok.ensures in
    rw (p.1, p.2) told

pub returns-in_ok-bound-in-Ok-clause-gives : goal.returns-in_ok-bound-in-Ok-clause-gives
returns-in_ok-bound-in-Ok-clause-gives g c =
    prepared_on (g.V.Vault.held c.look.new.vault) c.args.query.now c.in-Ok.snapshot c.in_ok-bound-in-Ok.bound c.in_ok-bound-in-Ok.linear c.in-Ok.ensures.looks c.in_ok-bound-in-Ok.ensures

pub returns-in-Err-Unkept-clause-gives : goal.returns-in-Err-Unkept-clause-gives
returns-in-Err-Unkept-clause-gives g c =
    let looks = rw c.in-Err-Unkept.field-0-is at c.in-Err-Unkept.ensures.looks in
    unkept_told (g.V.Vault.held c.look.new.vault) c.args.query.now c.in-Err-Unkept.asked c.in-Err-Unkept.low c.in-Err-Unkept.high c.told.result looks c.told.ensures
