use Rattle.std.proofs.Common.{◌≡◌, ◌++◌, take}
use Rattle.std.specs.Fmt.{decimal}
use Rattle.cert_text.specs.Numbers.{blanked}
use Rattle.cert_text.proofs.writing.put_mult.Given as goal

abbrev pub invariant-loop-multiplier : goal.invariant-loop-multiplier
invariant-loop-multiplier l = l.out.items ≡ l.fn.out.items ++ (decimal l.mult.d ++ blanked (take l.multiplier-index l.mult.lambda))
