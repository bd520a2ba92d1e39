use Rattle.mon_board.proofs.Steps.{joins}
use Rattle.mon_board.proofs.board.Board.take_in.Goals as goal

pub join_seat-requires : goal.join_seat-requires
join_seat-requires c = (
  c.requires.seat,
  c.requires.other,
  c.args.other.empty,
  c.requires.some,
  joins c.args.self.now.table.shared.key c.args.seat.now.id c.args.seat.now.me.0 c.args.other.seat.id c.args.other.seat.me.0,
)
