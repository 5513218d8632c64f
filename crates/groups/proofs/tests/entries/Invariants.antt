use Rattle.groups.specs.Worked.{AreWorked}
use Rattle.groups.proofs.tests.entries.Given as goal

abbrev pub invariant-loop-units : goal.invariant-loop-units
invariant-loop-units l = AreWorked l.list l.units-index
