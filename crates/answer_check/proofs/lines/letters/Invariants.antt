-- A letter for each half so far.
use Rattle.std.proofs.Common.{◌≡◌, map, take}
use Rattle.std.specs.Prelude.{string_bytes}
use Rattle.answer_check.specs.Lines.{letter}
use Rattle.answer_check.proofs.lines.letters.Given as goal

abbrev pub invariant-loop-upper : goal.invariant-loop-upper
invariant-loop-upper l = string_bytes l.text ≡ map letter (take l.upper-index l.path)
