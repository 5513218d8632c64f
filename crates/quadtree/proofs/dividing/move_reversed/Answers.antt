use Rattle.std.proofs.Common.{◌≡◌, ◌++◌, [], List, ℕ, reverse, rules, sym, ap, ◌∙◌, append-nil}
use Rattle.quadtree.proofs.Pushed.{moved-one}
use Rattle.quadtree.proofs.dividing.move_reversed.Goals as goal

pub returns : goal.returns
returns c =
    let empty : c.loop-length.more.items ≡ [] = search rules in
    sym (append-nil c.loop-length.lengths.items) ∙ ap (λ (xs : List ℕ). c.loop-length.lengths.items ++ reverse xs) (sym empty) ∙ c.loop-length.invariant

pub loop-length-preserved : goal.loop-length-preserved
loop-length-preserved c =
    moved-one c.loop-length.more.items c.pop.new.self.items c.push.new.self.items c.loop-length.lengths.items (c.args.lengths.now.items ++ reverse c.args.more.now.items) c.in-Some.length c.in-Some.ensures.items c.in_ok-push.ensures.items c.loop-length.invariant
