-- The row that was found passes, or doesn't.
use Rattle.std.proofs.Common.{◌≡◌, false, true, ap, sym, ◌∙◌}
use Rattle.bound_query.specs.Rows.{true_on}
use Rattle.bound_query.specs.Asks.{asks, IsAskedOf}
use Rattle.package_judge.specs.Verdicts.{first}
use Rattle.package_judge.proofs.Lookups.{all_found}
use Rattle.package_judge.proofs.Breaks.{pair_breaks-count, pair_breaks-where}
use Rattle.package_judge.proofs.judging.broken_in.Goals as goal

pub eval-requires-clause-fits : goal.eval-requires-clause-fits
eval-requires-clause-fits c =
    rw c.as_slice.ensures (all_found (IsAskedOf c.args.query.now) c.args.rows.now c.args.pair.now.0 c.in-Some.row.now c.requires.each (sym c.in-Some.ensures)).filter

pub returns-then-not-eval : goal.returns-then-not-eval
returns-then-not-eval c =
    let query = c.args.query.now in
    let fails : true_on query.filter c.in-Some.row.now ≡ false = ap (true_on query.filter) (sym c.as_slice.ensures) ∙ (sym c.eval.ensures ∙ c.if-not-eval.true) in
    sym (ap first (pair_breaks-where (asks query) c.args.rows.now c.args.pair.now c.in-Some.row.now (sym c.in-Some.ensures) fails))

pub returns-else-not-eval : goal.returns-else-not-eval
returns-else-not-eval c =
    let query = c.args.query.now in
    let passes : true_on query.filter c.in-Some.row.now ≡ true = ap (true_on query.filter) (sym c.as_slice.ensures) ∙ (sym c.eval.ensures ∙ c.if-not-eval.false) in
    c.broken_repeat.ensures ∙ sym (ap first (pair_breaks-count (asks query) c.args.rows.now c.args.pair.now c.in-Some.row.now (sym c.in-Some.ensures) passes))
