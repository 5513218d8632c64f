use Rattle.std.proofs.Common.{◌≡◌, ◌≢◌, ◌<◌, ◌≤◌, ◌∙◌, ap, sym, List, ℕ, [], ◌∷◌, ◌++◌, length, length-append, get_or, ◌==◌, arith, true, false}
use Rattle.lin_bound.specs.Problem.{ProblemData}
use Rattle.lin_bound.specs.Sums.{nat_at}
use Rattle.package_program.specs.Points.{first_count, ArePairsOf}
use Rattle.package_program.proofs.Merging.{whole_more, rises_after, later_more, within_more, count_within, some_left}
use Rattle.package_program.proofs.points.point_of.Goals as goal

pub loop-place-preserved : goal.loop-place-preserved
loop-place-preserved c =
    let linear = c.args.linear.now in
    let is = c.ids-ids.ensures.linear in
    let place = c.loop-place.place in
    let left = c.loop-place.left.now in
    let id = get_or c.ids-ids.result.now place 0 in
    let here : id ≡ nat_at linear.ids place = ap (λ (l : List ℕ). get_or l place 0) c.ids-ids.ensures.value in
    let inside : place < length linear.ids = rw c.ids-ids.ensures.value at c.loop-place-test.true in
    let uppers : get_or c.uppers-uppers.result.now place 0 ≡ nat_at linear.problem.upper place =
    ap (λ (l : List ℕ). get_or l place 0) (c.uppers-uppers.ensures.value ∙ ap (λ (p : ProblemData). p.upper) c.problem.ensures.value) in
    let pushed : c.push.new.self ≡ c.loop-place.counts ++ first_count id left ∷ [] = c.in_ok-push.ensures.ok ∙ ap (λ (n : ℕ). c.loop-place.counts ++ n ∷ []) c.take_id-count.ensures.count in
    let small : first_count id left ≤ nat_at linear.problem.upper place = omega (arith, c.if-count-uppers.false, uppers, c.take_id-count.ensures.count) in
    record {
      whole = rw c.take_id-count.ensures.left (whole_more linear.ids c.loop-place.counts c.push.new.self left c.args.«package».now place id c.loop-place.invariant.each inside here c.loop-place.invariant.rises c.loop-place.invariant.whole pushed);
      each = omega (arith, ap length pushed, length-append c.loop-place.counts (first_count id left ∷ []), c.loop-place.invariant.each);
      within = within_more linear.problem.upper c.loop-place.counts c.push.new.self place (first_count id left) c.loop-place.invariant.each c.loop-place.invariant.within pushed small;
      rises = rw c.take_id-count.ensures.left (rises_after id left c.loop-place.invariant.rises);
      later = λ (are : ArePairsOf linear c.args.«package».now). rw c.take_id-count.ensures.left (later_more linear place id left is here c.loop-place.invariant.rises (c.loop-place.invariant.later are));
    }

pub returns-then-count-uppers : goal.returns-then-count-uppers
returns-then-count-uppers c = λ (are : ArePairsOf c.args.linear.now c.args.«package».now).
    let linear = c.args.linear.now in
    let place = c.loop-place.place in
    let id = get_or c.ids-ids.result.now place 0 in
    let here : id ≡ nat_at linear.ids place = ap (λ (l : List ℕ). get_or l place 0) c.ids-ids.ensures.value in
    let inside : place < length linear.ids = rw c.ids-ids.ensures.value at c.loop-place-test.true in
    let uppers : get_or c.uppers-uppers.result.now place 0 ≡ nat_at linear.problem.upper place =
    ap (λ (l : List ℕ). get_or l place 0) (c.uppers-uppers.ensures.value ∙ ap (λ (p : ProblemData). p.upper) c.problem.ensures.value) in
    let small = count_within linear place id c.loop-place.left.now c.ids-ids.ensures.linear inside here (c.loop-place.invariant.later are) in
    omega (arith, small, uppers, c.take_id-count.ensures.count, c.if-count-uppers.true)

pub returns-then-not-is_empty : goal.returns-then-not-is_empty
returns-then-not-is_empty c = λ (are : ArePairsOf c.args.linear.now c.args.«package».now).
    let all : length c.args.linear.now.ids ≤ c.loop-place.place = rw c.ids-ids.ensures.value at c.loop-place-test.false in
    let some : c.loop-place.left.now ≢ [] = λ (none : c.loop-place.left.now ≡ []).
    let both : false ≡ true = sym c.if-not-is_empty.true ∙ c.is_empty.ensures ∙ ap (λ (l : List (ℕ × ℕ)). length l == 0) none in cc in
    some_left c.args.linear.now c.loop-place.place c.loop-place.left.now some all (c.loop-place.invariant.later are)
