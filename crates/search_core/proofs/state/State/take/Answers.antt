use Rattle.std.proofs.Common.{refl, sym, ap, arith, ◌∙◌, ◌≤◌, ◌++◌, ◌∷◌, [], List}
use Rattle.std.proofs.lemmas.Bool.{false≢true}
use Rattle.std.proofs.lemmas.Option.{get_or_from_slice_get}
use Rattle.lin_bound.specs.declared.path.Branch.{Branch}
use Rattle.search_core.specs.Core.{begun, IsBusy, in_hand}
use Rattle.search_core.specs.declared.event.Hand.{Hand}
use Rattle.search_core.specs.declared.event.Seen.TheVariants.{NotLooked}
use Rattle.search_core.proofs.Table.{taken, found_at}
use Rattle.search_core.proofs.state.State.take.Goals as goal

pub returns-clause-ok : goal.returns-clause-ok
returns-clause-ok c =
    let there = rw c.deref-2.ensures.value at c.in-Some.ensures in
    let unspent : ¬ (c.args.self.now.budget ≤ begun c.args.self.now) = λ spent. false≢true (sym c.if-is_spent.false ∙ c.is_spent.ensures.1 spent) in
    let idle : ¬ IsBusy c.self.inside.hands.items c.args.worker = rw c.deref.ensures.value at c.in-None.ensures in
    let same = c.remove-path.ensures.value ∙ get_or_from_slice_get c.self.inside.left.items c.in-Some.place c.args.path c.remove-path.result there in
    let hands = c.push_reserved.ensures.items
    ∙ (ap (λ (hands : List Hand). hands ++ in_hand c.args.worker c.remove-path.result NotLooked ∷ []) c.in_ok-reserve.ensures.items
    ∙ ap (λ (path : List Branch). c.self.inside.hands.items ++ in_hand c.args.worker path NotLooked ∷ []) same) in
    rw (sym c.self.view_is) (
      (found_at c.self.inside.left.items c.in-Some.place c.args.path there, idle, omega (arith, rw (sym c.self.view_is) at unspent)),
      taken _ _ c.args.worker c.in-Some.place c.args.path there c.remove-path.ensures.items hands refl refl refl,
    )
