-- The prefix so far has the parts so far.
use Rattle.std.proofs.Common.{◌≡◌, take}
use Rattle.paql_printer.specs.Print as print
use Rattle.paql_printer.specs.Fronts.{written}
use Rattle.paql_printer.specs.Parts.{part}
use Rattle.paql_printer.proofs.conditions.+conditions.Given as goal

abbrev pub invariant-joined-loop-at : goal.invariant-joined-loop-at
invariant-joined-loop-at l = l.writer ≡ written l.fn.writer (print.listed l.word (part l.level) (take l.at l.preds))
