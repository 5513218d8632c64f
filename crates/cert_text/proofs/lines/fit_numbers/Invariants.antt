use Rattle.cert_text.specs.Expected.{ranges}
use Rattle.cert_text.proofs.Fits.{IsFitting}
use Rattle.cert_text.proofs.lines.fit_numbers.Given as goal

abbrev pub invariant-loop-place : goal.invariant-loop-place
invariant-loop-place l = IsFitting (ranges l.expect l.kind) l.text l.fn.numbers.items l.place l.rest l.numbers.items
