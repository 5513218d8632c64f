use Rattle.std.proofs.Common.{◌≡◌, ℕ, List, [], None, Some, refl, ap, sym, ◌∙◌, subst, rules}
use Rattle.std.specs.Int.{w64}
use Rattle.std.specs.Int.RustNames.{FitsSigned}
use Rattle.std.proofs.lemmas.Int.{to_z-of_z}
use Rattle.cert_text.specs.declared.value.Claim.TheVariants as claims
use Rattle.cert_tree.specs.declared.nodes.TreeNode.{TreeNode}
use Rattle.package_program.specs.Linear.{LinearData}
use Rattle.search_core.specs.Search.{value_in}
use Rattle.search_core.specs.Solver.{IsProven, IsUndecided}
use Rattle.session_proto.specs.Answers as answers
use Rattle.query_answer.specs.Answers.{program_of, shown}
use Rattle.query_answer.specs.Searched.{pairs_in, shows}
use Rattle.query_answer.proofs.Solved.{ids, means_of, pairs_of, infeasible_answer, optimal_answer, told_answers, undecided_answer}
use Rattle.query_answer.proofs.answering.solve.Goals as goal

pub returns-in-NoneExists : goal.returns-in-NoneExists
returns-in-NoneExists g c =
    let query = c.args.query.now in
    let rows = c.args.rows.now in
    let version = c.args.version in
    let tree = c.in-NoneExists.tree in
    let problem : c.args.linear.problem ≡ program_of query rows = ap (λ (l : LinearData). l.problem) c.requires.linear in
    let legal = rw (c.problem-2.ensures.value ∙ problem) at c.variables-legal.ensures.legal in
    let solved = rw c.in-NoneExists.is at c.in_ok-solved.ensures.solved in
    let none = rw (c.problem.ensures.value ∙ problem) at solved in
    let told = rw c.requires.linear at c.infeasible.ensures in
    told_answers query rows version c.infeasible.result (answers.infeasible version) claims.Infeasible [] tree c.requires.program
    (λ kept keeps same. infeasible_answer query rows version (answers.infeasible version) kept (means_of query rows c.requires.asked c.requires.program) legal
    (subst (λ (nodes : List TreeNode). IsProven query.budget (program_of query rows) nodes None) (sym same) none) keeps refl) told

pub returns-in-Best : goal.returns-in-Best
returns-in-Best g c =
    let query = c.args.query.now in
    let rows = c.args.rows.now in
    let version = c.args.version in
    let value = c.in-Best.value in
    let point = c.in-Best.point in
    let tree = c.in-Best.tree in
    let problem : c.args.linear.problem ≡ program_of query rows = ap (λ (l : LinearData). l.problem) c.requires.linear in
    let legal = rw (c.problem-2.ensures.value ∙ problem) at c.variables-legal.ensures.legal in
    let solved = rw c.in-Best.is at c.in_ok-solved.ensures.solved in
    let best = rw (c.problem.ensures.value ∙ problem) at solved in
    let fits : FitsSigned w64 c.in-Best.value = search rules in
    let told = rw c.requires.linear at (simp to_z-of_z at c.optimal.ensures) in
    let reply = answers.optimal (shown query.goal value) (pairs_of query rows point) version in
    told_answers query rows version c.optimal.result reply (claims.Optimal value) (pairs_of query rows point) tree c.requires.program
    (λ kept keeps same. optimal_answer query rows point value version reply kept (means_of query rows c.requires.asked c.requires.program) legal best.0 best.1
    (subst (λ (nodes : List TreeNode). IsProven query.budget (program_of query rows) nodes (Some value)) (sym same) best.2) keeps refl) told

pub returns-in-Undecided : goal.returns-in-Undecided
returns-in-Undecided g c =
    let query = c.args.query.now in
    let rows = c.args.rows.now in
    let version = c.args.version in
    let best = c.in-Undecided.best in
    let bound = c.in-Undecided.bound in
    let tree = c.in-Undecided.tree in
    let problem : c.args.linear.problem ≡ program_of query rows = ap (λ (l : LinearData). l.problem) c.requires.linear in
    let legal = rw (c.problem-2.ensures.value ∙ problem) at c.variables-legal.ensures.legal in
    let solved = rw c.in-Undecided.is at c.in_ok-solved.ensures.solved in
    let left = rw (c.problem.ensures.value ∙ problem) at solved in
    let fits : FitsSigned w64 c.in-Undecided.bound = search rules in
    let told = rw c.requires.linear at (simp to_z-of_z at c.undecided.ensures) in
    let reply = shows query (ids query rows) bound best version in
    told_answers query rows version c.undecided.result reply (claims.Undecided (value_in best)) (pairs_in (ids query rows) best) tree c.requires.program
    (λ kept keeps same. undecided_answer query rows best bound version reply kept (means_of query rows c.requires.asked c.requires.program) legal
    (subst (λ (nodes : List TreeNode). IsUndecided query.budget (program_of query rows) best bound nodes) (sym same) left) keeps refl) told
