use Rattle.mon_board.proofs.Steps.{splits}
use Rattle.mon_board.proofs.board.Board.split.Goals as goal

pub split_seat-requires : goal.split_seat-requires
split_seat-requires c = (c.requires.board, c.requires.some, splits c.args.self.now.table.shared.key c.args.seat.now.seat.id c.args.seat.now.seat.me.0)
