use Rattle.std.proofs.Common.{refl, sym, ap, ◌∙◌, ◌++◌, ◌∷◌, [], List}
use Rattle.search_core.specs.Core.{in_hand}
use Rattle.search_core.specs.declared.event.Hand.{Hand}
use Rattle.search_core.specs.declared.event.Seen.TheVariants.{NotLooked}
use Rattle.search_core.proofs.Table.{taken_last}
use Rattle.search_core.proofs.state.State.take_last.Goals as goal

pub returns-clause-ok : goal.returns-clause-ok
returns-clause-ok c =
    rw (sym c.self.view_is)
    (taken_last _ _ c.args.worker c.in-Some.path c.in-Some.ensures.items (c.push_reserved.ensures.items ∙ ap (λ (hands : List Hand). hands ++ in_hand c.args.worker c.in-Some.path NotLooked ∷ []) c.in_ok-reserve.ensures.items) refl refl refl)
