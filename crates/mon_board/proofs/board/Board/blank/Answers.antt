use Rattle.mon_board.proofs.Steps.{starts_blank}
use Rattle.mon_board.proofs.board.Board.blank.Goals as goal

pub split_seat-requires : goal.split_seat-requires
split_seat-requires c = (c.requires.board, c.requires.some, starts_blank c.args.self.now.table.shared.key c.args.seat.now.seat.id c.args.seat.now.seat.me.0)
