use Rattle.std.proofs.Common.{refl, sym}
use Rattle.search_core.proofs.Table.{looked}
use Rattle.search_core.proofs.state.State.look.Goals as goal

pub returns : goal.returns
returns c =
    rw (sym c.self.view_is)
    (looked _ _ c.args.worker c.in-Some.place c.index_mut.result.now c.best_value.result (rw c.deref.ensures.value at c.in-Some.ensures) c.index_mut.ensures.value c.best_value.ensures refl refl refl refl refl)
