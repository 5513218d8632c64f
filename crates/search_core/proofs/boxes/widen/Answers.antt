use Rattle.std.proofs.Common.{◌≡◌, ℕ, ◌∙◌, ap, refl, replicate}
use Rattle.lin_bound.specs.Problem.{variables}
use Rattle.cert_tree.proofs.Soundness.{whole_region}
use Rattle.search_core.proofs.boxes.widen.Goals as goal

pub returns-clause-value : goal.returns-clause-value
returns-clause-value c =
    let low_is : c.clear.new.counts ≡ replicate (variables c.args.problem.now) 0 = c.clear.ensures ∙ ap (λ (n : ℕ). replicate n 0) c.requires.low_each in
    let high_is : c.overwrite.new.into ≡ c.args.problem.now.upper = c.overwrite.ensures ∙ c.uppers.ensures.value in
    rw (low_is, high_is) refl

pub returns-clause-region : goal.returns-clause-region
returns-clause-region c =
    let low_is : c.clear.new.counts ≡ replicate (variables c.args.problem.now) 0 = c.clear.ensures ∙ ap (λ (n : ℕ). replicate n 0) c.requires.low_each in
    let high_is : c.overwrite.new.into ≡ c.args.problem.now.upper = c.overwrite.ensures ∙ c.uppers.ensures.value in
    rw (low_is, high_is) (whole_region c.args.problem.now c.uppers.ensures.legal)
