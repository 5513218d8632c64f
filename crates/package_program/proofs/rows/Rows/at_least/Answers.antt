use Rattle.std.proofs.Common.{◌≡◌, List, ℤ, [], ◌∷◌, ◌++◌, map, ap, ◌∙◌, false, true}
use Rattle.package_program.specs.Program.{signed}
use Rattle.package_program.proofs.RowSteps.{on_ok-to, map-turned}
use Rattle.package_program.proofs.rows.Rows.at_least.Goals as goal

pub returns-clause-rows : goal.returns-clause-rows
returns-clause-rows c =
    let turned : map (signed false) c.negated.result ≡ map (signed true) c.args.sum = ap (map (signed false)) c.negated.ensures ∙ map-turned c.args.sum in
    on_ok-to c.at_most.result _ _ (λ e. e ∙ ap (λ (l : List ℤ). c.args.self.now.rows ++ l ∷ []) turned) c.at_most.ensures.rows
