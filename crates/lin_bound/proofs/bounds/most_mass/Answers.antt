use Rattle.std.proofs.Common.{◌≡◌, ◌*◌, ◌^◌, ◌<◌, ◌≤◌, arith, mul-le-mul}
use Rattle.lin_bound.specs.Sums.{nat_at}
use Rattle.lin_bound.specs.Problem.{row_count}
use Rattle.lin_bound.proofs.Weights.{mass_next}
use Rattle.lin_bound.proofs.bounds.most_mass.Goals as goal

pub loop-row-preserved : goal.loop-row-preserved
loop-row-preserved c =
    let below : c.loop-row.row < row_count c.args.problem.now = omega (arith, c.row_count-row-end.ensures.count, c.loop-row-test.true) in
    let part_is : c.product-total-in-loop-row.result ≡ nat_at c.args.mult.now.lambda c.loop-row.row * c.row_size.result = rw c.as_slice-multipliers.ensures at c.product-total-in-loop-row.ensures in
    let size : c.row_size.result ≤ 2 ^ 64 = omega (arith, c.row_size.type_inv) in
    let small : nat_at c.args.mult.now.lambda c.loop-row.row * c.row_size.result ≤ 2 ^ 30 * 2 ^ 64 = mul-le-mul (c.requires.small c.loop-row.row below) size in (
      mass_next c.args.problem.now c.args.mult.now c.loop-row.row c.loop-row.total c.product-total-in-loop-row.result c.row_size.result c.loop-row.invariant.0 c.row_size.ensures part_is,
      omega (arith, part_is, small, c.loop-row.invariant.1),
    )
