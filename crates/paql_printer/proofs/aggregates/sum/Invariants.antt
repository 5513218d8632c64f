-- The prefix so far has the terms so far.
use Rattle.std.proofs.Common.{◌≡◌, take}
use Rattle.paql_printer.specs.Print as print
use Rattle.paql_printer.specs.Fronts.{written}
use Rattle.paql_printer.proofs.aggregates.sum.Given as goal

abbrev pub invariant-loop-at : goal.invariant-loop-at
invariant-loop-at l = l.writer ≡ written l.fn.writer (print.sum l.«package» (take l.at l.items))
