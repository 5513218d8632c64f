use Rattle.paql_printer.proofs.ReadBack.{canonical_text_is_one}
use Rattle.paql_printer.proofs.laws.canonical_is_one.Goals as goal

pub returns : goal.returns
returns c = canonical_text_is_one
