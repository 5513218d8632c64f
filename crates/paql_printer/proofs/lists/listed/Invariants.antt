-- The prefix so far has the entries so far.
use Rattle.std.proofs.Common.{◌≡◌, take}
use Rattle.paql_lexer.specs.declared.vocabulary.Kind.TheVariants as kinds
use Rattle.paql_printer.specs.Print as print
use Rattle.paql_printer.specs.Fronts.{written}
use Rattle.paql_printer.proofs.lists.listed.Given as goal

abbrev pub invariant-loop-at : goal.invariant-loop-at
invariant-loop-at g l = l.writer ≡ written l.fn.writer (print.listed kinds.Comma g.T.Entry.lexemes (take l.at l.entries))
