use Rattle.std.proofs.Common.{◌<◌, sym, ◌∙◌, arith}
use Rattle.std.proofs.lemmas.Bool.{false≢true}
use Rattle.lin_bound.specs.Problem.{row_count}
use Rattle.lin_bound.proofs.PlainBounds.{first_closing, not_closing}
use Rattle.lin_bound.proofs.plain.plain_closing.Goals as goal

pub returns-then-row_closes : goal.returns-then-row_closes
returns-then-row_closes c =
    let below : c.loop-row.row < row_count c.args.problem.now = omega (arith, c.row_count-row-end.ensures.count, c.loop-row-test.true) in
    first_closing c.args.problem.now c.args.region.now c.args.best c.loop-row.row below c.loop-row.invariant (c.row_closes.ensures.0 c.if-row_closes.true)

pub loop-row-preserved : goal.loop-row-preserved
loop-row-preserved c =
    let below : c.loop-row.row < row_count c.args.problem.now = omega (arith, c.row_count-row-end.ensures.count, c.loop-row-test.true) in
    not_closing c.args.problem.now c.args.region.now c.args.best c.loop-row.row below c.loop-row.invariant
    (λ broken. false≢true (sym c.if-row_closes.false ∙ c.row_closes.ensures.1 broken))

pub returns : goal.returns
returns c = λ n h. c.loop-row.invariant n (omega (arith, h, c.row_count-row-end.ensures.count, c.loop-row-test.false))
