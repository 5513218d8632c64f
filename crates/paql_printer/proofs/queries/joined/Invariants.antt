-- The prefix so far has the constraints so far.
use Rattle.std.proofs.Common.{◌≡◌, take}
use Rattle.paql_lexer.specs.declared.vocabulary.Kind.TheVariants as kinds
use Rattle.paql_printer.specs.Print as print
use Rattle.paql_printer.specs.Fronts.{written}
use Rattle.paql_printer.proofs.queries.joined.Given as goal

abbrev pub invariant-loop-at : goal.invariant-loop-at
invariant-loop-at l = l.writer ≡ written l.fn.writer (print.listed kinds.And (print.conjunct l.«package») (take l.at l.conjuncts))
