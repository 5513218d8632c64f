use Rattle.paql_printer.proofs.CanonicalConditions.{canonical_statements}
use Rattle.paql_printer.proofs.laws.statements_are_canonical.Goals as goal

pub returns : goal.returns
returns c = canonical_statements
