use Rattle.std.proofs.Common.{sym}
use Rattle.search_core.proofs.Keeping.{keeps_call}
use Rattle.search_core.proofs.machine.Core.step.Goals as goal

pub invariant_of-self : goal.invariant_of-self
invariant_of-self c = (
  keeps_call c.self.inside.problem c.self.inside.state c.perform.new.state c.args.event c.perform.result c.self.invariant.0 c.perform.ensures.steps c.perform.ensures.err,
  c.perform.ensures.work,
  c.perform.ensures.region,
)

pub returns-clause-steps : goal.returns-clause-steps
returns-clause-steps c = rw (sym c.self.view_is) c.perform.ensures.steps

pub returns-clause-kept : goal.returns-clause-kept
returns-clause-kept c = keeps_call c.self.inside.problem c.self.inside.state c.perform.new.state c.args.event c.perform.result c.self.invariant.0 c.perform.ensures.steps c.perform.ensures.err
