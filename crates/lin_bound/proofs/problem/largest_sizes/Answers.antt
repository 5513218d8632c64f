use Rattle.std.proofs.Common.{◌≡◌, ◌∙◌, ℕ, get_or, [], arith}
use Rattle.std.proofs.lemmas.List.{get_or_default, length-set}
use Rattle.lin_bound.proofs.Weights.{sizes_more}
use Rattle.lin_bound.proofs.problem.largest_sizes.Goals as goal

pub loop-row-preserved : goal.loop-row-preserved
loop-row-preserved c =
    let row_is : c.as_slice.result.now ≡ get_or c.args.rows.now c.loop-row.row [] =
    c.as_slice.ensures ∙ (c.index-rows-row.is ∙ get_or_default c.args.rows.now c.loop-row.row c.index-rows-row.result [] c.loop-row-test.true) in (
      sizes_more c.args.rows.now c.loop-row.sizes c.loop-row.row c.largest_size.result (omega (arith, c.loop-row.invariant.1, c.requires)) c.loop-row.invariant.0 (rw row_is at c.largest_size.ensures),
      omega (arith, length-set {A = ℕ}, c.loop-row.invariant.1),
    )
