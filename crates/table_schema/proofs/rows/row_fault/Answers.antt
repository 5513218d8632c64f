use Rattle.std.proofs.Common.{◌<◌, ◌∷◌, [], ◌++◌, ◌∙◌, length, Ok, arith}
use Rattle.table_schema.proofs.RowLemmas.{given_is, cell_at, cell_given}
use Rattle.table_schema.proofs.rows.row_fault.Goals as goal

pub loop-place-preserved : goal.loop-place-preserved
loop-place-preserved c =
    let done = c.loop-place.invariant.0 in
    let place = c.loop-place.place in
    let columns = c.columns-columns.result.now in
    let lits = c.args.lits.now in
    let column = c.index-columns-place.result in
    let lit = c.index-lits-place.result in
    let within : place < length columns = omega arith in
    let among : place < length lits = omega (arith, c.if-lits-columns.false) in
    let cell = given_is _ c.in_default.ensures in
    (done ++ cell.0 ∷ [], c.loop-place.invariant.1 ∙ cell_given done place columns lits column lit cell.0 within among (cell_at place columns lits column lit (Ok cell.0) c.index-columns-place.is c.index-lits-place.is cell.1))
