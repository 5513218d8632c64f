use Rattle.std.proofs.Common.{sym, ◌∙◌, refl, inr}
use Rattle.std.proofs.lemmas.Bool.{false≢true}
use Rattle.search_core.proofs.Nodes.{plainly_open, is_better, closed_not_better}
use Rattle.search_core.proofs.node.handle_node.Goals as goal

pub returns-then-closes-clause-better : goal.returns-then-closes-clause-better
returns-then-closes-clause-better c = (
  λ e. cc,
  λ better.
      absurd (closed_not_better c.args.problem.now c.args.region.now c.args.proposal.now.mult c.args.seen c.requires.region (c.closes.ensures.0 c.if-closes.true) better),
)

pub returns-then-is_closed-clause-better : goal.returns-then-is_closed-clause-better
returns-then-is_closed-clause-better c = (
  λ e. cc,
  λ better.
      absurd (closed_not_better c.args.problem.now c.args.region.now c.is_closed.new.mult c.args.seen c.requires.region c.if-is_closed.ensures.yes.closes better),
)

pub returns-then-is_closed-clause-handled : goal.returns-then-is_closed-clause-handled
returns-then-is_closed-clause-handled c = inr (
  λ closes. false≢true (sym c.if-closes.false ∙ c.closes.ensures.1 closes),
  c.if-is_closed.ensures.yes,
)

pub returns-in_default-clause-handled : goal.returns-in_default-clause-handled
returns-in_default-clause-handled c = is_better c.args.problem.now c.args.region.now c.args.seen c.requires.region c.if-is_closed.ensures.yes c.in_default.ensures

pub returns-in_default-clause-better : goal.returns-in_default-clause-better
returns-in_default-clause-better c = (λ e. is_better c.args.problem.now c.args.region.now c.args.seen c.requires.region c.if-is_closed.ensures.yes c.in_default.ensures, λ better. refl)

pub returns-clause-handled : goal.returns-clause-handled
returns-clause-handled c = record {
  chosen_is = c.copy_from-2.ensures;
  unclosed = λ closes. false≢true (sym c.if-closes.false ∙ c.closes.ensures.1 closes);
  plainly = plainly_open c.args.problem.now c.args.region.now c.args.seen c.args.proposal.now c.in-Some.var c.in-Some.at c.requires.region c.if-is_closed.ensures.yes c.in-Some.ensures;
  place = c.in-Some.ensures;
}
