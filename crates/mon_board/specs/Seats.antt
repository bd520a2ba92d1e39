-- What clauses say of seats.
use Rattle.std.specs.Prelude.{◌≡◌, ℕ}
use Rattle.mon_board.specs.declared.board.Board.{Board}
use Rattle.mon_board.specs.declared.board.Writer.{Writer}
use Rattle.mon_board.specs.declared.board.Looker.{Looker}
use Rattle.mon_board.specs.Versions.{Marks}

-- what the writer has published
abbrev pub published_by : Writer → Marks
published_by w = w.seat.me.0.published

-- what the looker has seen
abbrev pub seen_by : Looker → Marks
seen_by l = l.seat.me.0.seen

-- the number of slots
abbrev pub slots_of : Board → ℕ
slots_of b = b.table.shared.table_id.words

-- the seat is of this board
abbrev pub IsWriterOf : Board → Writer → Type 0
IsWriterOf b w = w.seat.table_id ≡ b.table.shared.table_id

abbrev pub IsLookerOf : Board → Looker → Type 0
IsLookerOf b l = l.seat.table_id ≡ b.table.shared.table_id
