use Rattle.std.proofs.Common.{◌∙◌, ap, length, All, List, ℕ, sym, subst}
use Rattle.std.specs.List.{AllByRecursion}
use Rattle.std.proofs.lemmas.List.{length-map}
use Rattle.table_schema.specs.Rows.{FitsSchema}
use Rattle.table_schema.specs.declared.cells.Cell.{Cell}
use Rattle.quadtree.specs.Places.{IsFit}
use Rattle.groups.specs.Points.{radius_at}
use Rattle.groups.proofs.PointLemmas.{points_fit}
use Rattle.groups.proofs.grouping.split_table.Goals as goal

pub split_points-requires-clause-points : goal.split_points-requires-clause-points
split_points-requires-clause-points c =
    let radii = ap length c.deref-2.ensures.value ∙ ap length (c.in_ok-radii.ensures) ∙ length-map c.as_slice-columns.result.now (radius_at c.columns.result.now c.args.cut.now.radius) in
    let points = c.deref.ensures.value ∙ c.in_ok-points.ensures in
    subst (All (IsFit (length c.deref-2.result.now))) (sym points)
    (points_fit c.args.table.now.columns c.as_slice-columns.result.now (length c.deref-2.result.now) c.rows.result.now radii
    (subst (AllByRecursion (λ (row : ℕ × List Cell). FitsSchema c.args.table.now.columns row.1)) (sym c.rows.ensures) c.requires.rows))
