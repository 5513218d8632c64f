use Rattle.groups.proofs.LawLemmas.{tables_grouped}
use Rattle.groups.proofs.laws.tables_are_grouped.Goals as goal

pub returns : goal.returns
returns c = tables_grouped
