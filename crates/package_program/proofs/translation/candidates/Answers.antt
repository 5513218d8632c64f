use Rattle.std.proofs.Common.{◌≡◌, ◌∙◌, sym, ap, true, false}
use Rattle.bound_query.specs.Rows.{true_on}
use Rattle.package_program.proofs.FormSteps.{candidate_more, entry_pushed, none_pushed}
use Rattle.package_program.proofs.translation.candidates.Goals as goal
use Rattle.package_program.proofs.translation.candidates.Goals.{then-eval+in_ok-push, else-eval}

pub loop-row-preserved : goal.loop-row-preserved
loop-row-preserved c =
    let query = c.args.query.now in
    let row = c.row-item.result in
    let told : c.eval.result ≡ true_on query.filter row.1 = c.eval.ensures ∙ ap (true_on query.filter) c.as_slice.ensures in
    elim c.if-eval.branch [
      | then-eval+in_ok-push w ↦
          candidate_more query c.args.rows.now c.loop-row.row-index row true c.loop-row.found.items c.if-eval.found.items c.loop-row-test.true c.row-item.is
          (sym w.if-eval.true ∙ told) c.loop-row.invariant (entry_pushed c.loop-row.found.items c.if-eval.found.items _ (ap (λ v. v.items) w.found-is ∙ w.in_ok-push.ensures.items))
      | else-eval w ↦
          candidate_more query c.args.rows.now c.loop-row.row-index row false c.loop-row.found.items c.if-eval.found.items c.loop-row-test.true c.row-item.is
          (sym w.if-eval.false ∙ told) c.loop-row.invariant (none_pushed c.loop-row.found.items c.if-eval.found.items (ap (λ v. v.items) w.found-is))
    ]
