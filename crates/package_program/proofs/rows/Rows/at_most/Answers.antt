use Rattle.std.proofs.Common.{List, ℤ, [], ◌∷◌, ◌++◌, sym, ap, ◌∙◌}
use Rattle.package_program.proofs.RowSteps.{on_ok, map-kept}
use Rattle.package_program.proofs.rows.Rows.at_most.Goals as goal

pub returns-clause-rows : goal.returns-clause-rows
returns-clause-rows c = on_ok _ _ (c.in_ok-push.ensures.ok ∙ ap (λ (l : List ℤ). c.args.self.now.rows ++ l ∷ []) (sym (map-kept c.args.sum)))
