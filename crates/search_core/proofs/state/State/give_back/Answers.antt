use Rattle.std.proofs.Common.{refl, ap, sym, ◌++◌, ◌∷◌, [], ◌∙◌, List}
use Rattle.lin_bound.specs.declared.path.Branch.{Branch}
use Rattle.search_core.proofs.Table.{dropped}
use Rattle.search_core.proofs.state.State.give_back.Goals as goal

pub returns-clause-ok : goal.returns-clause-ok
returns-clause-ok c =
    rw (sym c.self.view_is)
    (dropped _ _ c.args.worker c.in-Some.place c.remove-hand.result (rw c.deref.ensures.value at c.in-Some.ensures) c.remove-hand.ensures.value c.remove-hand.ensures.items
    (c.push_reserved.ensures.items ∙ ap (λ (paths : List (List Branch)). paths ++ c.remove-hand.result.path ∷ []) (c.in_ok-reserve.ensures.items)) refl refl refl)
