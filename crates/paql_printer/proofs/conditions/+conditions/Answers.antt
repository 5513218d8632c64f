-- The parts of an AND or of an OR are what the fold over the condition prints.
use Rattle.std.proofs.Common.{sym, ap, ◌∙◌, arith}
use Rattle.std.proofs.lemmas.Result.{on_ok_weaker}
use Rattle.paql_lexer.specs.declared.vocabulary.Kind.TheVariants as kinds
use Rattle.paql_ast.specs.declared.conditions.Pred.{Pred}
use Rattle.paql_printer.specs.Print as print
use Rattle.paql_printer.specs.Fronts.{written}
use Rattle.paql_printer.specs.Parts as parts
use Rattle.paql_printer.proofs.ListLemmas.{listed_step}
use Rattle.paql_printer.proofs.ConditionLemmas.{pred_or, pred_and}
use Rattle.paql_printer.proofs.conditions.+conditions.Goals as goal

pub joined-loop-at-preserved : goal.joined-loop-at-preserved
joined-loop-at-preserved t c =
    let one = c.in_ok-part.ensures ∙ ap (λ (of : Pred). written c.separate.new.writer (parts.part c.args.level of)) c.index-preds-at.is in
    listed_step c.args.word (parts.part c.args.level) c.args.writer.now c.loop-at.writer c.separate.new.writer c.part.new.writer c.args.preds.now c.loop-at.at c.index-preds-at.result (omega arith) c.loop-at.invariant c.in_ok-separate.ensures one

pub condition-returns-in-Or : goal.condition-returns-in-Or
condition-returns-in-Or t c =
    let is = c.in-Or.is in
    let printed = ap print.pred c.in-Or.is ∙ (pred_or c.in-Or.parts ∙ ap (print.listed kinds.Or (parts.part 1)) (sym c.as_slice.ensures)) in
    on_ok_weaker c.joined.result (λ e. e ∙ ap (written c.args.writer.now) (sym printed)) c.joined.ensures

pub condition-returns-in-And : goal.condition-returns-in-And
condition-returns-in-And t c =
    let printed = ap print.pred c.in-And.is ∙ (pred_and c.in-And.parts ∙ ap (print.listed kinds.And (parts.part 2)) (sym c.as_slice-in-And.ensures)) in
    on_ok_weaker c.joined-in-And.result (λ e. e ∙ ap (written c.args.writer.now) (sym printed)) c.joined-in-And.ensures
