use Rattle.std.proofs.Common.{◌≡◌, [], ◌∷◌, ◌++◌, sym, ap, ◌∙◌}
use Rattle.std.specs.List.{push}
use Rattle.formal_grammar.specs.declared.sample.Sign.TheVariants.{Plus}
use Rattle.formal_grammar.specs.Parse.{separated}
use Rattle.formal_grammar.specs.SampleReading.{is, next_item, item}
use Rattle.formal_grammar.proofs.Loops.{more_items, all_items, goes_on_by}
use Rattle.formal_grammar.proofs.SampleRules.{next_shrinks}
use Rattle.formal_grammar.proofs.sample.+sums.Goals as goal

pub items-parts-init : goal.items-parts-init
items-parts-init t c =
    let one = c.in_ok-first.first in
    let e : c.push.new.self ≡ one ∷ [] = c.in_ok-push.ensures.ok ∙ ap (λ z. z ++ one ∷ []) c.new-items.ensures in
    rw e (more_items push (is Plus) (item c.args.depth) [] c.args.tokens.now one c.in_ok-first.rest.now c.in_ok-first.ensures ∙ all_items (separated (is Plus) (item c.args.depth) c.args.tokens.now))

pub items-parts-smaller : goal.items-parts-smaller
items-parts-smaller t c = (next_shrinks c.args.depth).less c.parts.rest.now c.in_ok-next.next c.in_ok-next.after.now c.in_ok-next.ensures

pub items-parts-preserved : goal.items-parts-preserved
items-parts-preserved t c = rw c.in_ok-push-2.ensures.ok (goes_on_by push (is Plus) (next_item (item c.args.depth)) (next_shrinks c.args.depth) c.parts.items c.parts.rest.now c.in_ok-next.next c.in_ok-next.after.now (separated (is Plus) (item c.args.depth) c.args.tokens.now) (sym c.sees.ensures ∙ c.parts-test.true) c.in_ok-next.ensures c.parts.invariant)
