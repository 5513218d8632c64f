use Rattle.std.proofs.Common.{◌≡◌, ◌++◌, sym, ap, ◌∙◌}
use Rattle.paql_lexer.specs.declared.vocabulary.Kind.TheVariants.{And, Or}
use Rattle.formal_grammar.specs.Parse.{repeat}
use Rattle.formal_grammar.proofs.Loops.{flat_items, goes_on_by}
use Rattle.paql_grammar.specs.Lexemes.{is}
use Rattle.paql_grammar.specs.Conditions.{and_parts, or_parts}
use Rattle.paql_grammar.specs.ConditionReading as read
use Rattle.paql_grammar.proofs.ConditionRules.{and_shrinks, or_shrinks}
use Rattle.paql_reader.specs.Sources.{left}
use Rattle.paql_reader.proofs.conditions.+conditions.Goals as goal

pub more_and-parts-init : goal.more_and-parts-init
unfolding read.more_and
more_and-parts-init t c =
    let source = left c.args.source in
    let begun : c.append_and.new.items ≡ and_parts c.args.first = c.in_ok-append_and.ensures ∙ ap (λ z. z ++ and_parts c.args.first) (c.from_vec-items.ensures ∙ c.in_ok-with_capacity.ensures.items) in
    rw begun (flat_items and_parts (and_parts c.args.first) (repeat (is And) (read.next_and (read.single c.args.depth)) source))

pub more_and-parts-smaller : goal.more_and-parts-smaller
more_and-parts-smaller t c = (and_shrinks c.args.depth).less (left c.parts.rest) c.in_ok-next.next (left c.in_ok-next.after) c.in_ok-next.ensures

pub more_and-parts-preserved : goal.more_and-parts-preserved
more_and-parts-preserved t c =
    rw c.in_ok-append_and-2.ensures (goes_on_by (λ w a. w ++ and_parts a) (is And) (read.next_and (read.single c.args.depth)) (and_shrinks c.args.depth) c.parts.items (left c.parts.rest) c.in_ok-next.next (left c.in_ok-next.after) (read.more_and c.args.first (read.single c.args.depth) (left c.args.source)) (sym c.sees.ensures ∙ c.parts-test.true) c.in_ok-next.ensures c.parts.invariant)

pub more_or-parts-init : goal.more_or-parts-init
unfolding read.more_or
more_or-parts-init t c =
    let source = left c.args.source in
    let begun : c.append_or.new.items ≡ or_parts c.args.first = c.in_ok-append_or.ensures ∙ ap (λ z. z ++ or_parts c.args.first) (c.from_vec-items.ensures ∙ c.in_ok-with_capacity.ensures.items) in
    rw begun (flat_items or_parts (or_parts c.args.first) (repeat (is Or) (read.next_or (read.both (read.single c.args.depth))) source))

pub more_or-parts-smaller : goal.more_or-parts-smaller
more_or-parts-smaller t c = (or_shrinks c.args.depth).less (left c.parts.rest) c.in_ok-next.next (left c.in_ok-next.after) c.in_ok-next.ensures

pub more_or-parts-preserved : goal.more_or-parts-preserved
more_or-parts-preserved t c =
    rw c.in_ok-append_or-2.ensures (goes_on_by (λ w a. w ++ or_parts a) (is Or) (read.next_or (read.both (read.single c.args.depth))) (or_shrinks c.args.depth) c.parts.items (left c.parts.rest) c.in_ok-next.next (left c.in_ok-next.after) (read.more_or c.args.first (read.both (read.single c.args.depth)) (left c.args.source)) (sym c.sees.ensures ∙ c.parts-test.true) c.in_ok-next.ensures c.parts.invariant)
