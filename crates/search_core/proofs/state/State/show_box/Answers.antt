use Rattle.std.proofs.Common.{sym}
use Rattle.search_core.proofs.Handling.{at_hand, hand_path, box_of_hand}
use Rattle.search_core.proofs.state.State.show_box.Goals as goal

pub move_to-requires-clause-path : goal.move_to-requires-clause-path
move_to-requires-clause-path c =
    let here = at_hand c.self.inside.hands.items c.args.worker c.in-Some.place c.index-hand.result.now (rw c.deref.ensures.value at c.in-Some.ensures) c.index-hand.ensures in
    rw c.path.ensures (hand_path c.args.problem.now _ c.in-Some.place c.index-hand.result.now (rw (sym c.self.view_is) at c.requires.kept) here.0)

pub returns-clause-shown : goal.returns-clause-shown
returns-clause-shown c =
    let here = at_hand c.self.inside.hands.items c.args.worker c.in-Some.place c.index-hand.result.now (rw c.deref.ensures.value at c.in-Some.ensures) c.index-hand.ensures in
    rw (sym c.self.view_is) (box_of_hand c.args.problem.now _ c.args.worker c.in-Some.place c.index-hand.result.now c.move_to.new.region (rw (sym c.self.view_is) at c.requires.kept) here.0 here.1 (rw c.path.ensures at c.move_to.ensures.value))
