use Rattle.std.proofs.Common.{◌≡◌, ◌++◌, ap, sym, ◌∙◌, subst}
use Rattle.mon_board.specs.Versions.{Marks, Has, Published}
use Rattle.mon_board.proofs.Steps.{shows, has_right}
use Rattle.mon_board.proofs.board.Board.gather.Goals as goal

pub load-requires : goal.load-requires
load-requires c = (
  c.take_in.ensures.seat,
  c.requires.some,
  shows c.args.self.now.table.shared.key c.args.self.now.table.shared.table_id.slots c.take_in.new.seat.id c.take_in.new.seat.me 0
      (ap (λ m. m.writes) c.take_in.ensures.both ∙ c.args.seat.now.writes),
)

pub returns-clause-published : goal.returns-clause-published
returns-clause-published c slot version has =
    let seen : c.take_in.new.seat.me.0.seen ≡ c.args.seat.now.seat.me.0.seen ++ c.args.other.seat.me.0.seen = ap (λ m. m.seen) c.take_in.ensures.both in
    let there : Has c.take_in.new.seat.me.0.seen slot version = subst (λ (l : Marks). Has l slot version) (sym seen) (has_right c.args.seat.now.seat.me.0.seen c.args.other.seat.me.0.seen slot version has) in
    subst (λ (l : Marks). Published l slot version) (ap (λ m. m.0.published) (sym c.load.ensures.2.0)) (c.load.ensures.2.1 slot version there)
