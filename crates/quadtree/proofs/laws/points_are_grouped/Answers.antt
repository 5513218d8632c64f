use Rattle.quadtree.proofs.Grouped.{points-grouped}
use Rattle.quadtree.proofs.laws.points_are_grouped.Goals as goal

pub returns : goal.returns
returns c = points-grouped
