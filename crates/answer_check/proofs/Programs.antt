-- The program of a query means it, and no package that meets the query is worth much.
use Rattle.std.proofs.Common.{◌≡◌, ℕ, zero, suc, ◌+◌, ◌^◌, ◌<◌, ◌≤◌, List, [], ◌∷◌, length, Bool, true, false, sym, subst, ap, ◌∙◌, refl, arith}
use Rattle.std.proofs.lemmas.Int.{ints}
use Rattle.std.proofs.lemmas.List.Elements.{All-from_recursion}
use Rattle.std.specs.Prelude.{All, ℤ, pos, Option, None, Some, neg_ℤ, if◌then◌else◌, unsigned_abs}
use Rattle.std.specs.List.{AllByRecursion}
use Rattle.bound_query.specs.Asks.{asks, AreAskedOf}
use Rattle.bound_query.specs.Terms.{goal_of}
use Rattle.bound_query.specs.declared.queries.BoundGoal.{BoundGoal}
use Rattle.bound_query.specs.declared.queries.BoundQuery.{BoundQuery}
use Rattle.cert_text.specs.Certs as texts
use Rattle.cert_tree.specs.Multipliers.{HasLegalMult}
use Rattle.cert_tree.specs.declared.nodes.TreeNode.{TreeNode}
use Rattle.cert_tree.specs.declared.nodes.TreeNode.TheVariants.{Leaf, Split, Open}
use Rattle.lin_bound.proofs.Sizes.{value_small}
use Rattle.lin_bound.specs.Bound.{IsMult}
use Rattle.lin_bound.specs.Problem.{ProblemData, variables, row_count, cost_at, IsLegal, IsWithin}
use Rattle.lin_bound.specs.Sums.{nat_at}
use Rattle.lin_bound.specs.declared.mult.Mult.{Mult}
use Rattle.package_judge.specs.Verdicts.{goal_total}
use Rattle.package_program.specs.Meaning.{IsTranslated}
use Rattle.package_program.specs.Program.{candidates}
use Rattle.package_program.proofs.Counts.{row_bound_is}
use Rattle.package_program.proofs.Legal.{program_legal}
use Rattle.package_program.proofs.Translated.{translated}
use Rattle.package_query.specs.Meaning.{Meets, goal_worth}
use Rattle.package_query.specs.Query.{PackageQuery}
use Rattle.table_schema.specs.declared.cells.Cell.{Cell}
use Rattle.answer_check.specs.Verdicts.{Rows, HasProgram, program_of, worth_of}
use Rattle.answer_check.specs.Packages.{signed_by}

-- the program means the query
abbrev pub Means : BoundQuery → Rows → Type 0
Means query rows = IsTranslated (asks query) query.row_bound rows

pub means_of : (query : BoundQuery) (rows : Rows) → AreAskedOf query rows → HasProgram query rows → Means query rows
means_of query rows asked has = translated (List Cell) (asks query) query.row_bound rows
    (record { ascending = asked.ascending; repeat = query.copies.repeat; bounds = row_bound_is query rows; small = has.small })

pub legal_program : (query : BoundQuery) (rows : Rows) → HasProgram query rows → IsLegal (program_of query rows)
legal_program query rows has = program_legal query (candidates (asks query) rows) has.few has.small

-- ---- what a package is worth

worth_small : (query : BoundQuery) (rows : Rows) (pairs : List (ℕ × ℕ)) → AreAskedOf query rows → HasProgram query rows → Meets (asks query) rows pairs → unsigned_abs (worth_of query rows pairs) ≤ 2 ^ 60
worth_small query rows pairs asked has meets =
    let p = program_of query rows in
    let means = means_of query rows asked has in
    let found = means.covers pairs meets in
    let within : IsWithin p found.0 = found.1.within in
    let legal = legal_program query rows has in
    let size : unsigned_abs (cost_at p found.0) ≤ 2 ^ 60 = omega (arith, value_small p.upper found.0 p.cost (variables p) within.within, legal.cost_load) in
    let costs : cost_at p found.0 ≡ worth_of query rows pairs = means.worth found.0 within ∙ ap (worth_of query rows) found.1.same in
    subst (λ (z : ℤ). unsigned_abs z ≤ 2 ^ 60) costs size

-- the goal's total, with the sign of its goal, is the worth
pub signed_worth : (query : BoundQuery) (rows : Rows) (pairs : List (ℕ × ℕ)) → signed_by query.goal (goal_total (asks query).goal rows pairs) ≡ worth_of query rows pairs
signed_worth query rows pairs = by_goal query.goal
  where
    by_goal : (goal : Option BoundGoal) → signed_by goal (goal_total (goal_of goal) rows pairs) ≡ goal_worth (goal_of goal) rows pairs
    by_goal None = refl
    by_goal (Some goal) = refl

size_signed : (goal : Option BoundGoal) (total : ℤ) → unsigned_abs (signed_by goal total) ≤ 2 ^ 60 → unsigned_abs total ≤ 2 ^ 60
size_signed None total small = small
size_signed (Some goal) total small = by_sense goal.maximize small
  where
    by_sense : (maximize : Bool) → unsigned_abs (if maximize then total else neg_ℤ total) ≤ 2 ^ 60 → unsigned_abs total ≤ 2 ^ 60
    by_sense true size = size
    by_sense false size = omega (arith, ints, size)

pub total_small : (query : BoundQuery) (rows : Rows) (pairs : List (ℕ × ℕ)) (sum : ℤ) → AreAskedOf query rows → HasProgram query rows → Meets (asks query) rows pairs
    → sum ≡ goal_total (asks query).goal rows pairs → unsigned_abs sum ≤ 2 ^ 60
total_small query rows pairs sum asked has meets is =
    size_signed query.goal sum (subst (λ (z : ℤ). unsigned_abs z ≤ 2 ^ 60)
    (sym (ap (signed_by query.goal) is ∙ signed_worth query rows pairs)) (worth_small query rows pairs asked has meets))

-- ---- the multipliers of a certificate of the program's shape

at_place : (most : ℕ) (xs : List ℕ) → AllByRecursion (λ (x : ℕ). x ≤ most) xs → (j : ℕ) → j < length xs → nat_at xs j ≤ most
at_place most [] all j h = absurd (omega (arith, h))
at_place most (x ∷ xs) all zero h = all.0
at_place most (x ∷ xs) all (suc j) h = at_place most xs all.1 j (omega (arith, h))

legal_mult : (p : ProblemData) (rows : ℕ) (mult : Mult) → rows ≡ row_count p → texts.IsMult rows mult → IsMult p mult
legal_mult p rows mult same is = record {
  each = is.each ∙ same;
  cost = is.cost;
  small = λ j h. at_place (2 ^ 30) mult.lambda is.small j (omega (arith, h, is.each, same));
}

legal_each : (p : ProblemData) (rows : ℕ) (nodes : List TreeNode) → rows ≡ row_count p → AllByRecursion (texts.IsNode rows) nodes → AllByRecursion (HasLegalMult p) nodes
legal_each p rows [] same all = tt
legal_each p rows (Leaf mult ∷ nodes) same all = (legal_mult p rows mult same all.0, legal_each p rows nodes same all.1)
legal_each p rows (Split var at mult ∷ nodes) same all = (legal_mult p rows mult same all.0.2, legal_each p rows nodes same all.1)
legal_each p rows (Open ∷ nodes) same all = (tt, legal_each p rows nodes same all.1)

pub legal_nodes : (p : ProblemData) (rows : ℕ) (nodes : List TreeNode) → rows ≡ row_count p → AllByRecursion (texts.IsNode rows) nodes → All (HasLegalMult p) nodes
legal_nodes p rows nodes same all = All-from_recursion (HasLegalMult p) nodes (legal_each p rows nodes same all)
