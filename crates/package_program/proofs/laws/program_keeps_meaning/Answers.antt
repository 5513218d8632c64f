use Rattle.std.proofs.Common.{List}
use Rattle.table_schema.specs.declared.cells.Cell.{Cell}
use Rattle.package_program.proofs.Translated.{translated}
use Rattle.package_program.proofs.laws.program_keeps_meaning.Goals as goal

pub returns : goal.returns
returns c = translated (List Cell)
