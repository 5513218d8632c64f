-- Powers of ten, and numbers that aren't refused.
use Rattle.std.proofs.Common.{◌≡◌, ℕ, ◌^◌, ◌≤◌, [], refl, lit<}
use Rattle.std.proofs.Math.Nat.{one-le-pow, pow-le-pow_right}
use Rattle.paql_ast.specs.declared.aggregates.Term.{Term}
use Rattle.paql_ast.specs.declared.aggregates.Term.TheVariants as terms
use Rattle.paql_bind.specs.Names.{Scope}
use Rattle.paql_bind.specs.Sums.{term_faults, number_faults_of}

pub ten_to_most : (places most : ℕ) → places ≤ most → 10 ^ places ≤ 10 ^ most
ten_to_most places most h = pow-le-pow_right {n = 10} (lit< tt) h

pub ten_to_some : (places : ℕ) → 1 ≤ 10 ^ places
ten_to_some places = one-le-pow places 10 (lit< tt)

pub number_of_good : (scope : Scope) (term : Term) → term_faults scope term ≡ [] → number_faults_of term ≡ []
number_of_good scope (terms.Number number) h = h
number_of_good scope (terms.Agg factor agg) h = refl
