use Rattle.std.proofs.Common.{◌≡◌, [], take, drop}
use Rattle.version_store.specs.Faults.{group_faults}
use Rattle.version_store.proofs.partitioning.check_groups.Given as goal

abbrev pub invariant-loop-place : goal.invariant-loop-place
invariant-loop-place l = group_faults l.schema [] l.names ≡ group_faults l.schema (take l.place l.names) (drop l.place l.names)
