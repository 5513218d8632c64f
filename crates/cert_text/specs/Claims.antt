-- The value that a certificate claims.
use Rattle.std.specs.Prelude.{ℤ, Option, None, Some}
use Rattle.cert_text.specs.declared.value.Claim.{Claim}
use Rattle.cert_text.specs.declared.value.Claim.TheVariants.{Optimal, Infeasible, Undecided}

-- if one is claimed
abbrev pub claimed : Claim → Option ℤ
claimed (Optimal value) = Some value
claimed Infeasible = None
claimed (Undecided value) = value
