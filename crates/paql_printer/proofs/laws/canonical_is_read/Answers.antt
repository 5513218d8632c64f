use Rattle.paql_printer.proofs.ReadBack.{canonical_text_is_read}
use Rattle.paql_printer.proofs.laws.canonical_is_read.Goals as goal

pub returns : goal.returns
returns c = canonical_text_is_read
