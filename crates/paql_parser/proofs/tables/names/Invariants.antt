use Rattle.std.proofs.Common.{◌≡◌, length}
use Rattle.std.specs.List.{push}
use Rattle.paql_lexer.specs.declared.vocabulary.Kind.TheVariants.{Comma}
use Rattle.formal_grammar.specs.Parse.{accept, repeat, separated}
use Rattle.formal_grammar.proofs.Loops.{fold_front}
use Rattle.paql_grammar.specs.Lexemes.{is, name_of}
use Rattle.paql_grammar.specs.StatementReading.{next_name}
use Rattle.paql_reader.specs.Sources.{left}
use Rattle.paql_parser.proofs.tables.names.Given as goal

abbrev pub invariant-parts : goal.invariant-parts
invariant-parts l =
    fold_front push l.items (repeat (is Comma) next_name (left l.rest)) ≡ separated (is Comma) (accept name_of) (left l.fn.source)

abbrev pub decreases-parts : goal.decreases-parts
decreases-parts l = length (left l.rest)
