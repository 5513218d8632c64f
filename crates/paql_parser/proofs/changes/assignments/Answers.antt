use Rattle.std.proofs.Common.{◌≡◌, [], ◌∷◌, ◌++◌, sym, ap, ◌∙◌}
use Rattle.std.specs.List.{push}
use Rattle.paql_lexer.specs.declared.vocabulary.Kind.TheVariants.{Comma}
use Rattle.formal_grammar.specs.Parse.{separated}
use Rattle.formal_grammar.proofs.Loops.{more_items, all_items, goes_on_by}
use Rattle.paql_grammar.specs.Lexemes.{is}
use Rattle.paql_grammar.specs.StatementReading.{assignment, next_assignment}
use Rattle.paql_grammar.proofs.StatementRules.{assignment_shrinks}
use Rattle.paql_reader.specs.Sources.{left}
use Rattle.paql_parser.proofs.changes.assignments.Goals as goal

pub parts-init : goal.parts-init
parts-init c =
    let source = left c.args.source in
    let one = c.in_ok-first.first in
    let e : c.push.new.self ≡ one ∷ [] = c.in_ok-push.ensures.ok ∙ ap (λ z. z ++ one ∷ []) c.new-items.ensures in
    rw e (more_items push (is Comma) assignment [] source one (left c.in_ok-first.rest) c.in_ok-first.ensures ∙ all_items (separated (is Comma) assignment source))

pub parts-smaller : goal.parts-smaller
parts-smaller c = assignment_shrinks.less (left c.parts.rest) c.in_ok-next.next (left c.in_ok-next.after) c.in_ok-next.ensures

pub parts-preserved : goal.parts-preserved
parts-preserved c =
    rw c.in_ok-push-2.ensures.ok (goes_on_by push (is Comma) next_assignment assignment_shrinks c.parts.items (left c.parts.rest) c.in_ok-next.next (left c.in_ok-next.after) (separated (is Comma) assignment (left c.args.source)) (sym c.sees.ensures ∙ c.parts-test.true) c.in_ok-next.ensures c.parts.invariant)
