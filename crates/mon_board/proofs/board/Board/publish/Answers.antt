use Rattle.std.proofs.Common.{ℕ, ◌<◌, sym, subst}
use Rattle.mon_board.proofs.Steps.{publishes}
use Rattle.mon_board.proofs.board.Board.publish.Goals as goal

pub store-requires : goal.store-requires
store-requires c = (
  c.requires.board,
  c.requires.slot,
  publishes c.args.self.now.table.shared.key c.args.self.now.table.shared.table_id.slots c.args.seat.now.seat.id c.args.seat.now.seat.me c.args.slot c.args.version c.args.seat.now.writes
      (subst (λ (n : ℕ). c.args.slot < n) (sym c.args.self.now.sized) c.requires.slot) c.requires.version,
)
