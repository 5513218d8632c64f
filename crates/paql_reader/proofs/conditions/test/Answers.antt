use Rattle.std.proofs.Common.{◌≡◌, sym, ◌∙◌}
use Rattle.paql_grammar.specs.ConditionReading as read
use Rattle.paql_reader.proofs.conditions.test.Goals as goal

pub returns-then-sees_operator : goal.returns-then-sees_operator
unfolding read.test
returns-then-sees_operator c = rw (sym c.sees_operator.ensures ∙ c.if-sees_operator.true) c.compared.ensures

pub returns-then-sees : goal.returns-then-sees
unfolding read.test
returns-then-sees c = rw (sym c.sees_operator.ensures ∙ c.if-sees_operator.false, sym c.sees.ensures ∙ c.if-sees.true) c.ranged.ensures

pub returns : goal.returns
unfolding read.test
returns c = rw (sym c.sees_operator.ensures ∙ c.if-sees_operator.false, sym c.sees.ensures ∙ c.if-sees.false) c.listed_in.ensures
