use Rattle.std.proofs.Common.{rules, ap, ◌∙◌}
use Rattle.atomic_table.specs.Table.{step}
use mathlib.Core.Option.{none}
use Rattle.search_board.proofs.Steps.{looks}
use Rattle.search_board.proofs.Whole.{look_best, look_drawn}
use Rattle.search_board.specs.Values.{named}
use Rattle.search_board.specs.Views.{seeing}
use Rattle.search_board.proofs.board.Board.look.Goals as goal

pub load-requires : goal.load-requires
load-requires c = (search rules, search rules, looks _ _ _ _ (step 0 0 0 0 none) c.seat.invariant.1)

pub returns-clause-best : goal.returns-clause-best
returns-clause-best c = look_best c.args.seat.now.view c.load.new.seat.me.0 c.load.result c.value_of.result (c.load.ensures.2.0 ∙ ap (λ s. seeing (named c.load.result) s.view) c.seat.view_is) c.value_of.ensures c.load.ensures.2.3

pub returns-clause-drawn : goal.returns-clause-drawn
returns-clause-drawn c = look_drawn c.args.self.now.budget c.args.seat.now.view c.load.new.seat.me.0 c.load.result (c.load.ensures.2.0 ∙ ap (λ s. seeing (named c.load.result) s.view) c.seat.view_is) (search rules) c.load.ensures.2.3
