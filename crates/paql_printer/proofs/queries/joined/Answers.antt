-- One constraint more, after its AND.
use Rattle.std.proofs.Common.{ap, ◌∙◌, arith}
use Rattle.paql_lexer.specs.declared.vocabulary.Kind.TheVariants as kinds
use Rattle.paql_ast.specs.declared.queries.Conjunct.{Conjunct}
use Rattle.paql_printer.specs.Print as print
use Rattle.paql_printer.specs.Fronts.{written}
use Rattle.paql_printer.proofs.ListLemmas.{listed_step}
use Rattle.paql_printer.proofs.queries.joined.Goals as goal

pub loop-at-preserved : goal.loop-at-preserved
loop-at-preserved c =
    let printed = print.conjunct c.args.package.now in
    let one = c.in_ok-conjunct.ensures ∙ ap (λ (of : Conjunct). written c.separate.new.writer (print.conjunct c.args.package.now of)) c.index-conjuncts-at.is in
    listed_step kinds.And printed c.args.writer.now c.loop-at.writer c.separate.new.writer c.conjunct.new.writer c.args.conjuncts.now c.loop-at.at c.index-conjuncts-at.result (omega arith) c.loop-at.invariant c.in_ok-separate.ensures one
