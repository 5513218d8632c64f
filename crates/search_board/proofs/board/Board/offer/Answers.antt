use Rattle.std.proofs.Common.{rules, refl, SFits, w64}
use Rattle.std.proofs.lemmas.Int.{to_z-of_z}
use Rattle.atomic_table.specs.Table.{step}
use mathlib.Core.Option.{none}
use Rattle.search_board.proofs.Steps.{offers}
use Rattle.search_board.proofs.board.Board.offer.Goals as goal

pub fetch_max-found-requires : goal.fetch_max-found-requires
fetch_max-found-requires c =
    let fits : SFits w64 c.args.value = c.ranges.value in
    let word = simp to_z-of_z at c.word_of.ensures.word in
    (search rules, search rules, offers _ _ _ _ c.args.value c.word_of.result (step 0 0 c.word_of.result 0 none) c.seat.invariant.1 c.requires.small word refl)
