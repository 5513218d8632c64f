-- Private: the board of a search, which the program does not use yet: boards and seats as values.
-- A board and a seat as contracts see them.
use Rattle.std.specs.Prelude.{ℕ}
use Rattle.atomic_table.specs.Seated.{TableId}
use Rattle.search_board.specs.declared.view.BoardView.{BoardView}

-- which board it is
pub record BoardId : Type 0 where
  pub table : TableId
  pub budget : ℕ

abbrev pub board_id : TableId → ℕ → BoardId
board_id table budget = record { table = table; budget = budget }

-- a seat: at which board, and what it knows
pub record SeatValue : Type 0 where
  pub board : BoardId
  pub view : BoardView

abbrev pub seat_at : BoardId → BoardView → SeatValue
seat_at board v = record { board = board; view = v }
