use Rattle.std.proofs.Common.{◌≡◌, [], take, drop}
use Rattle.version_store.specs.Faults.{set_faults}
use Rattle.version_store.specs.Performing.{set_names}
use Rattle.version_store.proofs.setting.check_sets.Given as goal

abbrev pub invariant-loop-place : goal.invariant-loop-place
invariant-loop-place l = set_faults l.schema [] l.sets ≡ set_faults l.schema (set_names (take l.place l.sets)) (drop l.place l.sets)
