use Rattle.std.proofs.Common.{◌≡◌, ◌^◌, min, take}
use Rattle.std.specs.Str.Parse.{digits_value_after}
use Rattle.paql_reader.proofs.numbers.append_digits.Given as goal

abbrev pub invariant-loop-digit : goal.invariant-loop-digit
invariant-loop-digit l =
    l.number ≡ min (digits_value_after 10 l.start (take l.digit-index l.digits)) (10 ^ 30)
