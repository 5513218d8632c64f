use Rattle.std.proofs.lemmas.Result.{IfOk-weaker}
use Rattle.package_query.proofs.Trials.{best_of_all}
use Rattle.package_query.proofs.plain.best.Goals as goal

pub returns : goal.returns
returns c =
    IfOk-weaker _ _ _ (λ found improves. best_of_all c.args.query.now c.args.rows.now found c.requires.ascends improves) c.search.ensures
