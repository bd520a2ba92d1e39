use Rattle.mon_board.proofs.Steps.{looks}
use Rattle.mon_board.proofs.board.Board.look.Goals as goal

pub load-requires : goal.load-requires
load-requires c = (c.requires.board, c.requires.slot, looks c.args.self.now.table.shared.key c.args.self.now.table.shared.table_id.slots c.args.seat.now.seat.id c.args.seat.now.seat.me c.args.slot)
