use Rattle.std.proofs.Common.{◌≡◌, [], ◌∷◌, ◌++◌, sym, ap, ◌∙◌}
use Rattle.std.specs.List.{push}
use Rattle.paql_lexer.specs.declared.vocabulary.Kind.TheVariants.{Comma}
use Rattle.formal_grammar.specs.Parse.{separated}
use Rattle.formal_grammar.proofs.Loops.{more_items, all_items, goes_on_by}
use Rattle.paql_grammar.specs.Lexemes.{is}
use Rattle.paql_grammar.specs.StatementReading.{tuple, next_tuple}
use Rattle.paql_grammar.proofs.StatementRules.{tuple_shrinks}
use Rattle.paql_reader.specs.Sources.{left}
use Rattle.paql_parser.proofs.tables.tuples.Goals as goal

pub parts-init : goal.parts-init
parts-init c =
    let source = left c.args.source in
    let one = c.in_ok-first.first in
    let e : c.push.new.self ≡ one ∷ [] = c.in_ok-push.ensures.ok ∙ ap (λ z. z ++ one ∷ []) c.new-items.ensures in
    rw e (more_items push (is Comma) tuple [] source one (left c.in_ok-first.rest) c.in_ok-first.ensures ∙ all_items (separated (is Comma) tuple source))

pub parts-smaller : goal.parts-smaller
parts-smaller c = tuple_shrinks.less (left c.parts.rest) c.in_ok-next.next (left c.in_ok-next.after) c.in_ok-next.ensures

pub parts-preserved : goal.parts-preserved
parts-preserved c =
    rw c.in_ok-push-2.ensures.ok (goes_on_by push (is Comma) next_tuple tuple_shrinks c.parts.items (left c.parts.rest) c.in_ok-next.next (left c.in_ok-next.after) (separated (is Comma) tuple (left c.args.source)) (sym c.sees.ensures ∙ c.parts-test.true) c.in_ok-next.ensures c.parts.invariant)
