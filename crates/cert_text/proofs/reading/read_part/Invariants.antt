use Rattle.std.proofs.Common.{◌-◌, length}
use Rattle.cert_text.proofs.Readings.{IsReading}
use Rattle.cert_text.proofs.reading.read_part.Given as goal

abbrev pub invariant-lines : goal.invariant-lines
invariant-lines l = IsReading l.text l.expect l.cert l.end l.count

abbrev pub decreases-lines : goal.decreases-lines
decreases-lines l = length l.text - l.end
