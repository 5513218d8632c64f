use Rattle.std.proofs.Common.{◌≡◌, [], ◌∷◌, ◌++◌, sym, ap, ◌∙◌}
use Rattle.std.specs.List.{push}
use Rattle.paql_lexer.specs.declared.vocabulary.Kind.TheVariants.{And}
use Rattle.formal_grammar.specs.Parse.{separated}
use Rattle.formal_grammar.proofs.Loops.{more_items, all_items, goes_on_by}
use Rattle.paql_grammar.specs.Lexemes.{is}
use Rattle.paql_grammar.specs.ConditionReading.{pred}
use Rattle.paql_grammar.specs.AggregateReading.{constraint}
use Rattle.paql_grammar.specs.QueryReading.{next_constraint}
use Rattle.paql_grammar.proofs.QueryRules.{constraint_shrinks}
use Rattle.paql_reader.specs.Sources.{left}
use Rattle.paql_parser.proofs.query.listed_constraints.Goals as goal

pub conjuncts-init : goal.conjuncts-init
conjuncts-init c =
    let source = left c.args.source in
    let conj = constraint c.args.package_name.now (pred c.args.depth) in
    let one = c.in_ok-first.first in
    let e : c.push.new.self ≡ one ∷ [] = c.in_ok-push.ensures.ok ∙ ap (λ z. z ++ one ∷ []) c.new-conjuncts.ensures in
    rw e (more_items push (is And) conj [] source one (left c.in_ok-first.rest) c.in_ok-first.ensures ∙ all_items (separated (is And) conj source))

pub conjuncts-smaller : goal.conjuncts-smaller
conjuncts-smaller c =
    (constraint_shrinks c.args.package_name.now c.args.depth).less (left c.conjuncts.rest) c.in_ok-next.next (left c.in_ok-next.after) c.in_ok-next.ensures

pub conjuncts-preserved : goal.conjuncts-preserved
conjuncts-preserved c =
    let conj = constraint c.args.package_name.now (pred c.args.depth) in
    rw c.in_ok-push-2.ensures.ok (goes_on_by push (is And) (next_constraint conj) (constraint_shrinks c.args.package_name.now c.args.depth) c.conjuncts.conjuncts (left c.conjuncts.rest) c.in_ok-next.next (left c.in_ok-next.after) (separated (is And) conj (left c.args.source)) (sym c.sees.ensures ∙ c.conjuncts-test.true) c.in_ok-next.ensures c.conjuncts.invariant)
