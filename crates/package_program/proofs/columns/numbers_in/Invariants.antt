use Rattle.std.proofs.Common.{◌≡◌, take}
use Rattle.package_program.specs.Columns.{numbers_in}
use Rattle.package_program.specs.Translation.{entries_of}
use Rattle.package_program.proofs.columns.numbers_in.Given as goal

abbrev pub invariant-loop-candidate : goal.invariant-loop-candidate
invariant-loop-candidate l = l.numbers.items ≡ numbers_in l.column (entries_of (take l.candidate-index l.candidates))
