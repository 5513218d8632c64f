use Rattle.std.proofs.Common.{◌≡◌, subst}
use Rattle.std.proofs.lemmas.Result.{IfOk-weaker}
use Rattle.search_core.specs.Core.{CoreState}
use Rattle.search_core.specs.Runs.{going_on}
use Rattle.search_core.specs.Solo.{Reaches}
use Rattle.search_core.specs.Solver.{IsEndOf, IsSearched}
use Rattle.search_core.specs.declared.solved.Solved.{Solved}
use Rattle.search_core.proofs.Ending.{may_begin, goes_further}
use Rattle.search_core.proofs.solver.go_on.Goals as goal

pub loop-state-init : goal.loop-state-init
loop-state-init c = (
  may_begin c.args.problem.now c.args.budget c.args.records.items c.args.left.items c.args.best c.new-state.result (rw c.in_ok-left.ensures at c.new-state.ensures) c.requires.few c.requires.balanced c.requires.found c.requires.right c.requires.legal,
  c.in_ok-work.ensures,
  c.in_ok-region.ensures.region,
  c.in_ok-guide.ensures,
)

pub loop-state-preserved : goal.loop-state-preserved
loop-state-preserved c = (
  goes_further c.args.problem.now c.args.budget c.new-state.result c.loop-state.state c.do_next.new.state c.loop-state.invariant.0 c.in_ok-do_next.ensures.advanced,
  c.in_ok-do_next.ensures.work,
  c.in_ok-do_next.ensures.region,
  c.in_ok-do_next.ensures.guide,
)

pub returns-clause-searched : goal.returns-clause-searched
returns-clause-searched c =
    let before : CoreState = going_on c.args.budget c.args.records.items c.args.left.items c.args.best in
    let start_is : c.new-state.result ≡ before = rw c.in_ok-left.ensures at c.new-state.ensures in
    let reaches : Reaches c.args.problem.now before c.loop-state.state = subst (λ (s : CoreState). Reaches c.args.problem.now s c.loop-state.state) start_is c.loop-state.invariant.0.reaches in
    IfOk-weaker c.finish.result (λ (solved : Solved). IsEndOf c.loop-state.state solved) (λ (solved : Solved). IsSearched c.args.problem.now before solved)
    (λ solved ended. (c.loop-state.state, reaches, ended)) c.finish.ensures.ended
