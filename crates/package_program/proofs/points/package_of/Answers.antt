use Rattle.std.proofs.Common.{◌≡◌, ◌<◌, ◌≤◌, ◌∙◌, ap, sym, List, ℕ, [], ◌∷◌, ◌++◌, length, take, get_or, arith}
use Rattle.package_program.specs.Points.{package_at}
use Rattle.package_program.proofs.Merging.{made_where, package_more, pairs_are}
use Rattle.package_program.proofs.points.package_of.Goals as goal

pub loop-place-preserved : goal.loop-place-preserved
loop-place-preserved c =
    let ids = c.args.linear.now.ids in
    let counts = c.args.point.now in
    let place = c.loop-place.place in
    let ids_are = c.ids-ids.ensures.value in
    let counts_are = c.counts-counts.ensures in
    let inside : place < length ids = rw ids_are at c.loop-place-test.true in
    let within : place < length counts = omega (arith, inside, c.requires.each, c.ids-ids.ensures.linear.each) in
    let one : package_at (get_or c.ids-ids.result.now place 0 ∷ []) (get_or c.counts-counts.result.now place 0 ∷ []) ≡ package_at (get_or ids place 0 ∷ []) (get_or counts place 0 ∷ []) =
    ap (λ (l : List ℕ). package_at (get_or l place 0 ∷ []) (get_or c.counts-counts.result.now place 0 ∷ [])) ids_are
    ∙ ap (λ (l : List ℕ). package_at (get_or ids place 0 ∷ []) (get_or l place 0 ∷ [])) counts_are in
    record {
      pairs = c.in_ok-put.ensures.pairs ∙ ap (λ (l : List (ℕ × ℕ)). l ++ package_at (get_or c.ids-ids.result.now place 0 ∷ []) (get_or c.counts-counts.result.now place 0 ∷ [])) c.loop-place.invariant.pairs
          ∙ ap (λ (l : List (ℕ × ℕ)). package_at (take place ids) (take place counts) ++ l) one ∙ sym (package_more ids counts place inside within);
      limited = c.in_ok-put.ensures.limited c.loop-place.invariant.limited;
    }

pub unwrap-requires : goal.unwrap-requires
unwrap-requires c =
    let linear = c.ids-ids.ensures.linear in
    let all : length c.args.linear.now.ids ≤ c.loop-place.place = rw c.ids-ids.ensures.value at c.loop-place-test.false in
    made_where _ c.new.result (pairs_are c.args.linear.now c.args.point.now c.loop-place.place c.loop-place.pairs.items linear (c.requires.each ∙ sym linear.each) all c.loop-place.invariant.pairs c.loop-place.invariant.limited).1 c.new.ensures
