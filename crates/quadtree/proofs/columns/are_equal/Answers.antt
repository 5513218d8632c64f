use Rattle.std.proofs.Common.{sym, rules}
use Rattle.quadtree.specs.Points.{agree}
use Rattle.quadtree.specs.Places.{points_at}
use Rattle.quadtree.proofs.Lists.{below-more, below-fails, has_column}
use Rattle.quadtree.proofs.columns.are_equal.Goals as goal

pub agree-requires-clause-points : goal.agree-requires-clause-points
agree-requires-clause-points c = has_column c.args.columns c.loop-column.column c.args.points.now c.loop-column-test.true c.requires.points

pub returns-then-not-agree : goal.returns-then-not-agree
returns-then-not-agree c =
    sym (below-fails (agree (points_at c.args.points.now c.args.places.now)) c.args.columns c.loop-column.column c.loop-column-test.true (sym c.if-not-agree.ensures))

pub loop-column-preserved : goal.loop-column-preserved
loop-column-preserved c =
    below-more (agree (points_at c.args.points.now c.args.places.now)) c.loop-column.column c.loop-column.invariant (sym c.if-not-agree.ensures)
