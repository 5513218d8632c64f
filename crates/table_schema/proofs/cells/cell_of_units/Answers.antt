use Rattle.std.proofs.Common.{Ok, Err, ap, ◌∙◌, rules, SFits, w64}
use Rattle.std.proofs.lemmas.Int.{to_z-of_z}
use Rattle.table_schema.specs.Cells.{number_cell}
use Rattle.table_schema.proofs.UnitLemmas.{units_are_one}
use Rattle.table_schema.proofs.cells.cell_of_units.Goals as goal

pub returns-in-Ok : goal.returns-in-Ok
returns-in-Ok c =
    let number = c.args.number.now in
    let fits : SFits w64 c.in-Ok.units = search rules in
    simp to_z-of_z (ap number_cell (units_are_one number.mant number.scale c.args.scale (Ok c.in-Ok.units) c.in-Ok.ensures))

pub returns-in-Err : goal.returns-in-Err
returns-in-Err c =
    let number = c.args.number.now in
    ap Err c.number_fault.ensures ∙ ap number_cell (units_are_one number.mant number.scale c.args.scale (Err c.in-Err.fault) c.in-Err.ensures)
