use Rattle.std.proofs.Common.{sym, subst}
use Rattle.std.proofs.lemmas.Result.{IfOk-weaker}
use Rattle.search_core.specs.Core.{CoreState}
use Rattle.search_core.specs.Kept.{IsKept}
use Rattle.search_core.specs.Moves.{IsBoxOf, without_place}
use Rattle.search_core.specs.Solo.{IsAlone, IsAdvanced}
use Rattle.search_core.proofs.Handling.{ready_once}
use Rattle.search_core.proofs.Going.{at_begun, handles_node, goes_on, keeps_node}
use Rattle.search_core.proofs.solver.do_next.Goals as goal

pub show_box-requires-clause-kept : goal.show_box-requires-clause-kept
show_box-requires-clause-kept c = keeps_node c.args.problem.now c.args.state.now c.begin.new.state c.requires.kept (at_begun c.args.problem.now c.args.state.now c.begin.new.state c.in_ok-begin.ensures)

pub close_at_once-requires-clause-kept : goal.close_at_once-requires-clause-kept
close_at_once-requires-clause-kept c = keeps_node c.args.problem.now c.args.state.now c.begin.new.state c.requires.kept (at_begun c.args.problem.now c.args.state.now c.begin.new.state c.in_ok-begin.ensures)

pub returns-in-Done-clause-advanced : goal.returns-in-Done-clause-advanced
returns-in-Done-clause-advanced c =
    let steps = rw c.in-Done.is at c.in_ok-close_at_once.ensures.ok in
    handles_node c.args.problem.now c.args.state.now c.begin.new.state c.close_at_once.new.self (without_place c.args.guide.now.mult) (at_begun c.args.problem.now c.args.state.now c.begin.new.state c.in_ok-begin.ensures)
    (ready_once c.args.problem.now c.begin.new.state 0 c.args.guide.now.mult steps.0, steps.1)

pub settle-requires-clause-kept : goal.settle-requires-clause-kept
settle-requires-clause-kept c =
    let same = (rw c.in-NotEnabled.is at c.in_ok-close_at_once.ensures.ok).1 in
    subst (IsKept c.args.problem.now) (sym same) (keeps_node c.args.problem.now c.args.state.now c.begin.new.state c.requires.kept (at_begun c.args.problem.now c.args.state.now c.begin.new.state c.in_ok-begin.ensures))

pub settle-requires-clause-alone : goal.settle-requires-clause-alone
settle-requires-clause-alone c =
    let same = (rw c.in-NotEnabled.is at c.in_ok-close_at_once.ensures.ok).1 in
    subst IsAlone (sym same) c.in_ok-begin.ensures.alone

pub settle-requires-clause-shown : goal.settle-requires-clause-shown
settle-requires-clause-shown c =
    let same = (rw c.in-NotEnabled.is at c.in_ok-close_at_once.ensures.ok).1 in
    subst (λ (s : CoreState). IsBoxOf c.args.problem.now s 0 c.show_box.new.region) (sym same) c.show_box.ensures.shown

pub returns-in-NotEnabled-clause-advanced : goal.returns-in-NotEnabled-clause-advanced
returns-in-NotEnabled-clause-advanced c =
    let same = (rw c.in-NotEnabled.is at c.in_ok-close_at_once.ensures.ok).1 in
    IfOk-weaker c.settle.result
    (λ (_x : Unit {0}). IsAdvanced c.args.problem.now c.close_at_once.new.self c.settle.new.state)
    (λ (_x : Unit {0}). IsAdvanced c.args.problem.now c.args.state.now c.settle.new.state)
    (λ done advanced. goes_on c.args.problem.now c.args.state.now c.begin.new.state c.settle.new.state (at_begun c.args.problem.now c.args.state.now c.begin.new.state c.in_ok-begin.ensures) (subst (λ (s : CoreState). IsAdvanced c.args.problem.now s c.settle.new.state) same advanced))
    c.settle.ensures.advanced
