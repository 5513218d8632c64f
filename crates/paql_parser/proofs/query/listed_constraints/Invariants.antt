use Rattle.std.proofs.Common.{◌≡◌, length}
use Rattle.std.specs.List.{push}
use Rattle.paql_lexer.specs.declared.vocabulary.Kind.TheVariants.{And}
use Rattle.formal_grammar.specs.Parse.{repeat, separated}
use Rattle.formal_grammar.proofs.Loops.{fold_front}
use Rattle.paql_grammar.specs.Lexemes.{is}
use Rattle.paql_grammar.specs.ConditionReading.{pred}
use Rattle.paql_grammar.specs.AggregateReading.{constraint}
use Rattle.paql_grammar.specs.QueryReading.{next_constraint}
use Rattle.paql_reader.specs.Sources.{left}
use Rattle.paql_parser.proofs.query.listed_constraints.Given as goal

abbrev pub invariant-conjuncts : goal.invariant-conjuncts
invariant-conjuncts l =
    fold_front push l.conjuncts (repeat (is And) (next_constraint (constraint l.package_name (pred l.depth))) (left l.rest)) ≡ separated (is And) (constraint l.package_name (pred l.depth)) (left l.fn.source)

abbrev pub decreases-conjuncts : goal.decreases-conjuncts
decreases-conjuncts l = length (left l.rest)
