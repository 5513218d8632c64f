use Rattle.std.proofs.Common.{◌≡◌, length}
use Rattle.std.specs.List.{push}
use Rattle.formal_grammar.specs.Parse.{repeat}
use Rattle.formal_grammar.proofs.Loops.{fold_front}
use Rattle.paql_grammar.specs.Lexemes.{among}
use Rattle.paql_grammar.specs.Aggregates.{sign_kinds}
use Rattle.paql_grammar.specs.ConditionReading.{pred}
use Rattle.paql_grammar.specs.AggregateReading as read
use Rattle.paql_reader.specs.Sources.{left}
use Rattle.paql_parser.proofs.aggregates.more_items.Given as goal

abbrev pub invariant-items : goal.invariant-items
invariant-items l =
    fold_front push l.items (repeat (among sign_kinds) (read.next_item (read.summand l.numbers l.package_name (pred l.depth))) (left l.rest)) ≡ read.more_items l.fn.first (read.summand l.numbers l.package_name (pred l.depth)) (left l.fn.source)

abbrev pub decreases-items : goal.decreases-items
decreases-items l = length (left l.rest)
