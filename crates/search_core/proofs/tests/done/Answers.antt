use Rattle.std.proofs.Common.{ap, ◌∙◌}
use Rattle.search_core.specs.Runs.{CoreData}
use Rattle.search_core.proofs.tests.done.Goals as goal

pub loop-worker-init : goal.loop-worker-init
loop-worker-init c = ap (λ (core : CoreData). core.problem) c.in_ok-core.ensures ∙ c.in_ok-some_fives.ensures

pub step-requires : goal.step-requires
step-requires c = rw c.loop-worker.invariant c.in_ok-event.ensures

pub loop-worker-preserved : goal.loop-worker-preserved
loop-worker-preserved c = c.in_ok-step.ensures.problem ∙ c.loop-worker.invariant
