use Rattle.std.specs.Prelude.{[], ◌∷◌}
use Rattle.snapshots.specs.States.{nothing}
use Rattle.version_store.proofs.Longer.{states_more, replay_more}
use Rattle.version_store.proofs.laws.longer_histories.Goals as goal

pub returns : goal.returns
returns c = λ history commit. record { states = states_more (nothing ∷ []) history commit; last = replay_more history commit }
