use Rattle.search_core.proofs.Going.{begins}
use Rattle.search_core.proofs.solver.begin.Goals as goal

pub returns : goal.returns
returns c =
    let taken = c.in_ok-take_last.ensures.ok in
    begins c.args.state.now c.take_last.new.self c.look.new.self taken.path c.look.result c.requires.idle c.requires.room taken.taken c.look.ensures
