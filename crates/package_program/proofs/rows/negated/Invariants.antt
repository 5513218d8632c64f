use Rattle.std.proofs.Common.{◌≡◌, ◌++◌, map, take, drop, neg_ℤ}
use Rattle.package_program.proofs.rows.negated.Given as goal

abbrev pub invariant-loop-place : goal.invariant-loop-place
invariant-loop-place l = l.numbers ≡ map neg_ℤ (take l.place l.initial.numbers) ++ drop l.place l.initial.numbers
