use Rattle.std.proofs.Common.{◌≡◌, take}
use Rattle.std.specs.Prelude.{map}
use Rattle.version_store.specs.Changes.{place_or_zero}
use Rattle.version_store.proofs.partitioning.places_of.Given as goal

abbrev pub invariant-loop-name : goal.invariant-loop-name
invariant-loop-name l = l.places.items ≡ map (place_or_zero l.schema) (take l.name-index l.names)
