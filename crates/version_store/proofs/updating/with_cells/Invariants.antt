use Rattle.std.proofs.Common.{◌≡◌, drop}
use Rattle.version_store.specs.Changes.{put_all}
use Rattle.version_store.proofs.updating.with_cells.Given as goal

abbrev pub invariant-loop-set : goal.invariant-loop-set
invariant-loop-set l = put_all l.schema l.sets l.row ≡ put_all l.schema (drop l.set-index l.sets) l.new
