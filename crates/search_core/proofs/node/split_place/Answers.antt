use Rattle.std.proofs.Common.{sym, ◌∙◌, inr}
use Rattle.std.proofs.lemmas.Bool.{false≢true}
use Rattle.search_core.proofs.node.split_place.Goals as goal

pub returns : goal.returns
returns c = inr (
  λ splits. false≢true (sym c.if-is_split_by.false ∙ (rw c.lower_of.ensures at c.is_split_by.ensures).1 splits),
  record {
    first = c.in_ok-variable.ensures;
    middle = c.middle_of.ensures;
  },
)
