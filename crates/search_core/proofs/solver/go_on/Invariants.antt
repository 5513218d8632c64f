use Rattle.std.proofs.Common.{◌-◌, length}
use Rattle.lin_bound.specs.Box.{IsRegion}
use Rattle.lin_bound.specs.Bound.{IsMult}
use Rattle.search_core.specs.Nodes.{IsWork}
use Rattle.search_core.proofs.Ending.{IsGoing}
use Rattle.search_core.proofs.solver.go_on.Given as goal

abbrev pub invariant-loop-state : goal.invariant-loop-state
invariant-loop-state l = IsGoing l.problem l.budget l.initial.state l.state × IsWork l.problem l.work × IsRegion l.problem l.region × IsMult l.problem l.guide.mult

abbrev pub decreases-loop-state : goal.decreases-loop-state
decreases-loop-state l = l.budget - length l.state.records
