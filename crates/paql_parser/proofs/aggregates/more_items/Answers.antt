use Rattle.std.proofs.Common.{◌≡◌, [], ◌∷◌, ◌++◌, sym, ap, ◌∙◌}
use Rattle.std.specs.List.{push}
use Rattle.formal_grammar.proofs.Loops.{goes_on_by}
use Rattle.paql_grammar.specs.Lexemes.{among}
use Rattle.paql_grammar.specs.Aggregates.{sign_kinds}
use Rattle.paql_grammar.specs.ConditionReading.{pred}
use Rattle.paql_grammar.specs.AggregateReading as read
use Rattle.paql_grammar.proofs.QueryRules.{summand_shrinks}
use Rattle.paql_reader.specs.Sources.{left}
use Rattle.paql_parser.proofs.SumLemmas.{begins_sum}
use Rattle.paql_parser.proofs.aggregates.more_items.Goals as goal

pub items-init : goal.items-init
items-init c =
    let e : c.push.new.self ≡ c.args.first ∷ [] = c.in_ok-push.ensures.ok ∙ ap (λ z. z ++ c.args.first ∷ []) c.new-items.ensures in
    rw e (begins_sum c.args.first (read.summand c.args.numbers c.args.package_name.now (pred c.args.depth)) (left c.args.source))

pub items-smaller : goal.items-smaller
items-smaller c =
    (summand_shrinks c.args.numbers c.args.package_name.now c.args.depth).less (left c.items.rest) c.in_ok-next.next (left c.in_ok-next.after) c.in_ok-next.ensures

pub items-preserved : goal.items-preserved
items-preserved c =
    let term = read.summand c.args.numbers c.args.package_name.now (pred c.args.depth) in
    rw c.in_ok-push-2.ensures.ok (goes_on_by push (among sign_kinds) (read.next_item term) (summand_shrinks c.args.numbers c.args.package_name.now c.args.depth) c.items.items (left c.items.rest) c.in_ok-next.next (left c.in_ok-next.after) (read.more_items c.args.first term (left c.args.source)) (sym c.sees_sign.ensures ∙ c.items-test.true) c.in_ok-next.ensures c.items.invariant)
