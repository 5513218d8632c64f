use Rattle.std.proofs.Common.{◌≡◌, take, map}
use Rattle.groups.specs.Points as spec
use Rattle.groups.proofs.points.numbers_of.Given as goal

abbrev pub invariant-loop-place : goal.invariant-loop-place
invariant-loop-place l = l.numbers.items ≡ map (spec.number_at l.row) (take l.place-index l.columns)
