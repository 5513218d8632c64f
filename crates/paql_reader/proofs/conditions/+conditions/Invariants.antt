use Rattle.std.proofs.Common.{◌≡◌, ◌+◌, ◌*◌, ◌++◌, length}
use Rattle.paql_lexer.specs.declared.vocabulary.Kind.TheVariants.{And, Or}
use Rattle.formal_grammar.specs.Parse.{repeat}
use Rattle.formal_grammar.proofs.Loops.{fold_front}
use Rattle.paql_grammar.specs.Lexemes.{is}
use Rattle.paql_grammar.specs.Conditions.{and_parts, or_parts}
use Rattle.paql_grammar.specs.ConditionReading as read
use Rattle.paql_reader.specs.Sources.{left}
use Rattle.paql_reader.proofs.conditions.+conditions.Given as goal

abbrev pub decreases-opened : goal.decreases-opened
decreases-opened l = 11 * l.depth + 10

abbrev pub decreases-negation : goal.decreases-negation
decreases-negation l = 11 * l.depth + 9

abbrev pub decreases-bracketed : goal.decreases-bracketed
decreases-bracketed l = 11 * l.depth + 9

abbrev pub decreases-condition : goal.decreases-condition
decreases-condition l = 11 * l.depth + 8

abbrev pub decreases-or_rest : goal.decreases-or_rest
decreases-or_rest l = 11 * l.depth + 7

abbrev pub decreases-more_or : goal.decreases-more_or
decreases-more_or l = 11 * l.depth + 6

abbrev pub decreases-next_or : goal.decreases-next_or
decreases-next_or l = 11 * l.depth + 5

abbrev pub decreases-both : goal.decreases-both
decreases-both l = 11 * l.depth + 4

abbrev pub decreases-and_rest : goal.decreases-and_rest
decreases-and_rest l = 11 * l.depth + 3

abbrev pub decreases-more_and : goal.decreases-more_and
decreases-more_and l = 11 * l.depth + 2

abbrev pub decreases-next_and : goal.decreases-next_and
decreases-next_and l = 11 * l.depth + 1

abbrev pub decreases-single : goal.decreases-single
decreases-single l = 11 * l.depth

abbrev pub invariant-more_and-parts : goal.invariant-more_and-parts
invariant-more_and-parts l =
    fold_front (λ w a. w ++ and_parts a) l.items (repeat (is And) (read.next_and (read.single l.depth)) (left l.rest)) ≡ read.more_and l.fn.first (read.single l.depth) (left l.fn.source)

abbrev pub decreases-more_and-parts : goal.decreases-more_and-parts
decreases-more_and-parts l = length (left l.rest)

abbrev pub invariant-more_or-parts : goal.invariant-more_or-parts
invariant-more_or-parts l =
    fold_front (λ w a. w ++ or_parts a) l.items (repeat (is Or) (read.next_or (read.both (read.single l.depth))) (left l.rest)) ≡ read.more_or l.fn.first (read.both (read.single l.depth)) (left l.fn.source)

abbrev pub decreases-more_or-parts : goal.decreases-more_or-parts
decreases-more_or-parts l = length (left l.rest)
