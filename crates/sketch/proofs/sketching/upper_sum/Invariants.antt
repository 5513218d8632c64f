use Rattle.std.proofs.Common.{◌≡◌, ℕ}
use Rattle.lin_bound.specs.Sums.{count_below, nat_at}
use Rattle.sketch.proofs.sketching.upper_sum.Given as goal

abbrev pub invariant-loop-member : goal.invariant-loop-member
invariant-loop-member l = l.sum ≡ count_below (λ (k : ℕ). nat_at l.problem.upper (nat_at l.part k)) l.member-index
