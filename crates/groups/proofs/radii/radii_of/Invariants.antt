use Rattle.std.proofs.Common.{◌≡◌, take, map}
use Rattle.groups.specs.Points as spec
use Rattle.groups.proofs.radii.radii_of.Given as goal

abbrev pub invariant-loop-place : goal.invariant-loop-place
invariant-loop-place l = l.radii.items ≡ map (spec.radius_at l.columns l.radius) (take l.place-index l.places)
