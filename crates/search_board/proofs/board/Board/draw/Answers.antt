use Rattle.std.proofs.Common.{rules, ◌≡◌, sym, subst, ◌<◌, ◌^◌, false}
use Rattle.atomic_table.specs.Table.{step}
use mathlib.Core.Option.{none}
use Rattle.search_board.proofs.Steps.{counts, draws}
use Rattle.search_board.proofs.board.Board.draw.Goals as goal

pub load-requires : goal.load-requires
load-requires c = (search rules, search rules, counts _ _ _ _ (step 0 0 0 0 none) c.seat.invariant.1)

pub fetch_add-number-requires : goal.fetch_add-number-requires
fetch_add-number-requires c =
    let less : c.load.result < c.seat.inside.seat.me.0.budget = search rules in
    let told = c.load.ensures.2.0 less in (
      search rules,
      search rules,
      draws _ _ _ _ (step 0 0 0 0 none) (subst (λ m. 0 < m.0.parts) (sym told.0) c.seat.invariant.1) (subst (λ b. b < 2 ^ 32) (sym c.self.invariant.0) c.self.invariant.2) (subst (λ m. m.0.ended ≡ false) (sym told.0) told.1),
    )
