use Rattle.std.proofs.Common.{◌≡◌, drop}
use Rattle.version_store.specs.Faults.{is_among}
use Rattle.version_store.specs.Performing.{set_names}
use Rattle.version_store.proofs.setting.is_set.Given as goal

abbrev pub invariant-loop-set : goal.invariant-loop-set
invariant-loop-set l = is_among l.name (set_names l.before) ≡ is_among l.name (set_names (drop l.set-index l.before))
