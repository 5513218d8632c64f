use Rattle.std.proofs.Common.{sym, subst}
use Rattle.std.proofs.lemmas.Result.{IfOk-weaker}
use Rattle.search_core.specs.Core.{CoreState}
use Rattle.search_core.specs.Kept.{IsKept}
use Rattle.search_core.specs.Moves.{IsLowOf}
use Rattle.search_core.specs.Solo.{IsAlone, IsAdvanced}
use Rattle.search_core.proofs.Going.{at_informed, handles_node, goes_on, keeps_node}
use Rattle.search_core.proofs.solver.settle.Goals as goal

pub handle-requires-clause-kept : goal.handle-requires-clause-kept
handle-requires-clause-kept c = keeps_node c.args.problem.now c.args.state.now c.next_plan.new.state c.requires.kept (at_informed c.args.problem.now c.args.state.now c.next_plan.new.state c.in_ok-plan.ensures.informed)

pub handle-requires-clause-shown : goal.handle-requires-clause-shown
handle-requires-clause-shown c = c.in_ok-plan.ensures.informed.same c.args.region.now c.requires.shown

pub offer_and_close-requires-clause-kept : goal.offer_and_close-requires-clause-kept
offer_and_close-requires-clause-kept c =
    let same = (rw c.in-NotEnabled.is at c.in_ok-handle.ensures.ok).1 in
    subst (IsKept c.args.problem.now) (sym same) (keeps_node c.args.problem.now c.args.state.now c.next_plan.new.state c.requires.kept (at_informed c.args.problem.now c.args.state.now c.next_plan.new.state c.in_ok-plan.ensures.informed))

pub offer_and_close-requires-clause-alone : goal.offer_and_close-requires-clause-alone
offer_and_close-requires-clause-alone c =
    let same = (rw c.in-NotEnabled.is at c.in_ok-handle.ensures.ok).1 in
    subst IsAlone (sym same) c.in_ok-plan.ensures.informed.alone

pub returns-in-Done-clause-advanced : goal.returns-in-Done-clause-advanced
returns-in-Done-clause-advanced c =
    handles_node c.args.problem.now c.args.state.now c.next_plan.new.state c.handle.new.self c.in_ok-plan.plan.proposal (at_informed c.args.problem.now c.args.state.now c.next_plan.new.state c.in_ok-plan.ensures.informed) (rw c.in-Done.is at c.in_ok-handle.ensures.ok)

pub returns-clause-advanced : goal.returns-clause-advanced
returns-clause-advanced c =
    let same = (rw c.in-NotEnabled.is at c.in_ok-handle.ensures.ok).1 in
    IfOk-weaker c.offer_and_close.result
    (λ (_x : Unit {0}). IsAdvanced c.args.problem.now c.handle.new.self c.offer_and_close.new.state)
    (λ (_x : Unit {0}). IsAdvanced c.args.problem.now c.args.state.now c.offer_and_close.new.state)
    (λ done advanced. goes_on c.args.problem.now c.args.state.now c.next_plan.new.state c.offer_and_close.new.state (at_informed c.args.problem.now c.args.state.now c.next_plan.new.state c.in_ok-plan.ensures.informed) (subst (λ (s : CoreState). IsAdvanced c.args.problem.now s c.offer_and_close.new.state) same advanced))
    c.offer_and_close.ensures.advanced

pub offer_and_close-requires-clause-point : goal.offer_and_close-requires-clause-point
offer_and_close-requires-clause-point c =
    let same = (rw c.in-NotEnabled.is at c.in_ok-handle.ensures.ok).1 in
    subst (λ (s : CoreState). IsLowOf c.args.problem.now s 0 c.handle.new.work.point) (sym same) (c.in_ok-handle.ensures.point c.in-NotEnabled.is)
