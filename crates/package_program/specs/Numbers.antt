-- Private: `negated` and what calls it.
-- Numbers that can be negated.
use Rattle.std.specs.Prelude.{◌≤◌, ℤ, unsigned_abs}
use Rattle.package_program.specs.Program.{most_sum}

-- small enough that it can be negated
abbrev pub IsSmall : ℤ → Type 0
IsSmall number = unsigned_abs number ≤ most_sum
