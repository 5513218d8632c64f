use Rattle.std.proofs.Common.{◌≡◌, ℤ, neg_ℤ, [], ◌∷◌, ◌++◌, ap, ◌∙◌}
use Rattle.std.proofs.lemmas.Int.{to_z-of_z}
use Rattle.package_program.specs.Program.{held}
use Rattle.package_program.proofs.RowSteps.{on_ok-to, one_more}
use Rattle.package_program.proofs.rows.Rows.between.Goals as goal
use mir.Syntax.{w128}

pub returns-clause-rhs : goal.returns-clause-rhs
returns-clause-rhs c =
    let first : c.at_most.new.self.rhs ≡ c.args.self.now.rhs ++ held c.args.most ∷ [] =
    c.in_ok-at_most.ensures.rhs ∙ ap (λ (z : ℤ). c.args.self.now.rhs ++ held z ∷ []) (to_z-of_z w128 c.args.most c.ranges.most) in
    let least = ap (λ (z : ℤ). c.at_most.new.self.rhs ++ held (neg_ℤ z) ∷ []) (to_z-of_z w128 c.args.least c.ranges.least) in
    on_ok-to c.at_least.result _ _ (λ e. e ∙ least ∙ one_more c.args.self.now.rhs c.at_most.new.self.rhs (held c.args.most) (held (neg_ℤ c.args.least)) first) c.at_least.ensures.rhs
