use Rattle.std.proofs.Common.{◌≡◌, length}
use Rattle.std.specs.List.{push}
use Rattle.paql_lexer.specs.declared.vocabulary.Kind.TheVariants.{Comma}
use Rattle.formal_grammar.specs.Parse.{repeat, separated}
use Rattle.formal_grammar.proofs.Loops.{fold_front}
use Rattle.paql_grammar.specs.Lexemes.{is}
use Rattle.paql_grammar.specs.StatementReading.{defined_column, next_column}
use Rattle.paql_reader.specs.Sources.{left}
use Rattle.paql_parser.proofs.tables.defined_columns.Given as goal

abbrev pub invariant-parts : goal.invariant-parts
invariant-parts l =
    fold_front push l.items (repeat (is Comma) next_column (left l.rest)) ≡ separated (is Comma) defined_column (left l.fn.source)

abbrev pub decreases-parts : goal.decreases-parts
decreases-parts l = length (left l.rest)
