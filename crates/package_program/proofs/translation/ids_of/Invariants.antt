use Rattle.std.proofs.Common.{◌≡◌, take}
use Rattle.package_program.specs.Program.{ids_of}
use Rattle.package_program.specs.Translation.{entries_of}
use Rattle.package_program.proofs.translation.ids_of.Given as goal

abbrev pub invariant-loop-candidate : goal.invariant-loop-candidate
invariant-loop-candidate l = l.ids.items ≡ ids_of (entries_of (take l.candidate-index l.candidates))
