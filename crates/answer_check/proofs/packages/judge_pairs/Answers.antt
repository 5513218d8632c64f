use Rattle.std.proofs.Common.{◌≡◌, ℕ, List, Option, None, Some, refl, subst, sym, ◌∙◌}
use Rattle.std.specs.Prelude.{IsSome, MatchOption}
use Rattle.bound_query.specs.Asks.{asks}
use Rattle.package_judge.specs.Packages.{IsPackageOf}
use Rattle.package_judge.specs.Verdicts.{IsVerdict}
use Rattle.answer_check.specs.Packages.{cut_off, first_over}
use Rattle.answer_check.proofs.Cuts.{cut_is_package, judged_few, judged_over}
use Rattle.answer_check.proofs.packages.judge_pairs.Goals as goal

some_package : (P : Type 0) (Q : List (ℕ × ℕ) → Type 0) (found : Option (List (ℕ × ℕ))) → P → MatchOption found (¬ P) Q → IsSome found
some_package P Q None is told = absurd (told is)
some_package P Q (Some made) is told = refl

pub unwrap-package-requires : goal.unwrap-package-requires
unwrap-package-requires c =
    let taken = c.in_ok-taken.field-0.pairs.items in
    let legal : IsPackageOf taken = subst IsPackageOf (sym c.in_ok-taken.ensures.pairs) (cut_is_package c.args.pairs.now c.requires.rise) in
    some_package (IsPackageOf taken) (λ (made : List (ℕ × ℕ)). (made ≡ taken) × IsPackageOf taken) c.new.result legal c.new.ensures

pub returns-in-Some : goal.returns-in-Some
returns-in-Some c =
    let made = rw c.unwrap-package.ensures at c.new.ensures in
    let same : c.unwrap-package.result ≡ cut_off c.args.pairs.now = made.0 ∙ c.in_ok-taken.ensures.pairs in
    let told : IsVerdict (asks c.args.query.now) c.args.rows.now (cut_off c.args.pairs.now) c.judge-judged.result =
    subst (λ (cut : List (ℕ × ℕ)). IsVerdict (asks c.args.query.now) c.args.rows.now cut c.judge-judged.result) same c.judge-judged.ensures in
    let over : first_over c.args.pairs.now ≡ Some c.in-Some.id = sym c.in_ok-taken.ensures.over ∙ c.in-Some.is in
    rw c.broken_by.ensures
    (judged_over c.args.query.now c.args.rows.now c.args.pairs.now c.meets_if_nothing_breaks.ensures c.in-Some.id c.judge-judged.result over told)

pub returns : goal.returns
returns c =
    let made = rw c.unwrap-package.ensures at c.new.ensures in
    let same : c.unwrap-package.result ≡ cut_off c.args.pairs.now = made.0 ∙ c.in_ok-taken.ensures.pairs in
    let told : IsVerdict (asks c.args.query.now) c.args.rows.now (cut_off c.args.pairs.now) c.judge-judged.result =
    subst (λ (cut : List (ℕ × ℕ)). IsVerdict (asks c.args.query.now) c.args.rows.now cut c.judge-judged.result) same c.judge-judged.ensures in
    let over : first_over c.args.pairs.now ≡ None = sym c.in_ok-taken.ensures.over ∙ c.in-None.is in
    judged_few c.args.query.now c.args.rows.now c.args.pairs.now c.meets_if_nothing_breaks.ensures c.judge-judged.result over told
