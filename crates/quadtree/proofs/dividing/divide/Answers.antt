use Rattle.std.proofs.Common.{rules, arith, ◌≡◌, List, [], ◌∷◌, ℕ, sym, ap, ◌∙◌, length, get_or, pos, w64, SFits}
use Rattle.std.proofs.lemmas.Int.{to_z-of_z}
use Rattle.quadtree.specs.Groups.{divided, tests_of}
use Rattle.quadtree.specs.Places.{points_at}
use Rattle.quadtree.proofs.Lists.{means-at}
use Rattle.quadtree.proofs.Divided.{divided-more}
use Rattle.quadtree.proofs.dividing.divide.Goals as goal

pub loop-column-preserved : goal.loop-column-preserved
loop-column-preserved c =
    let all = points_at c.args.points.now c.args.places.now in
    let column = c.loop-column.column in
    let f : SFits w64 (get_or c.args.rep.now column (pos 0)) = search rules in
    let mean = means-at (length c.args.rep.now) all c.args.rep.now column c.requires.rep c.loop-column-test.true in
    let cut = rw mean at (simp to_z-of_z at (c.in_ok-divide_by.ensures.lists (divided (tests_of column all) (all ∷ [])) (rw c.deref.ensures.value c.loop-column.invariant.1))) in
    (c.in_ok-divide_by.ensures.places, rw (c.swap.ensures.x_after, divided-more column all (all ∷ [])) cut)
