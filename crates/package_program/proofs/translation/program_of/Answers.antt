use Rattle.std.proofs.Common.{◌≡◌, ◌∙◌, sym, ap, ℕ, length, replicate}
use Rattle.std.proofs.lemmas.List.{length-map}
use Rattle.std.proofs.lemmas.Result.{err_from_is_err_and}
use Rattle.bound_query.specs.Asks.{asks}
use Rattle.package_program.specs.Program.{AreSumsSmall}
use Rattle.package_program.specs.Translation.{entries_of}
use Rattle.package_program.proofs.FormSteps.{rows_fail}
use Rattle.package_program.proofs.Legal.{program_legal, program_linear}
use Rattle.package_program.proofs.translation.program_of.Goals as goal

pub returns-in_err-rows : goal.returns-in_err-rows
returns-in_err-rows c =
    let p = err_from_is_err_and c.from_residual-in_err-rows.result c.from_residual-in_err-rows.ensures.1 in
    rw (p.1, p.2) (rows_fail c.args.query.now (entries_of c.args.candidates.now) c.in_err-rows.field-0.0 c.in_ok-cost.ensures.1 c.in_err-rows.ensures)

pub new-requires-2 : goal.new-requires-2
new-requires-2 c =
    let query = c.args.query.now in
    let rows = entries_of c.args.candidates.now in
    let upper : c.in_ok-upper.upper ≡ replicate (length rows) query.row_bound = c.in_ok-upper.ensures ∙ ap (λ (n : ℕ). replicate n query.row_bound) (sym (length-map _ _)) in
    let small : AreSumsSmall (asks query) query.row_bound rows = (c.in_ok-cost.ensures.1, c.in_ok-rows.ensures.2) in
    rw (c.in_ok-cost.ensures.0, c.in_ok-rows.ensures.0, c.in_ok-rows.ensures.1, upper) (program_legal query rows c.requires.few small)

pub new-requires-3 : goal.new-requires-3
new-requires-3 c =
    let query = c.args.query.now in
    let rows = entries_of c.args.candidates.now in
    let upper : c.in_ok-upper.upper ≡ replicate (length rows) query.row_bound = c.in_ok-upper.ensures ∙ ap (λ (n : ℕ). replicate n query.row_bound) (sym (length-map _ _)) in
    rw (c.new-2.ensures, c.in_ok-ids.ensures, c.in_ok-cost.ensures.0, c.in_ok-rows.ensures.0, c.in_ok-rows.ensures.1, upper) (program_linear query rows c.requires.ascending)
