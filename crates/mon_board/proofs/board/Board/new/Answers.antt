use Rattle.std.proofs.Common.{◌≡◌, ℕ, List, slice_index, replicate, sym, subst, rules}
use Rattle.mon_board.proofs.Steps.{begins, splits, zeros}
use Rattle.mon_board.proofs.board.Board.new.Goals as goal

pub of_words-requires : goal.of_words-requires
of_words-requires c =
    let is : c.as_slice.result.now ≡ replicate c.args.slots 0 = search rules in
    begins c.as_slice.result.now c.len.result (search rules) (λ k. subst (λ (l : List ℕ). slice_index l k ≡ 0) (sym is) (zeros c.args.slots k))

pub split_seat-other-requires : goal.split_seat-other-requires
split_seat-other-requires c = (search rules, search rules, splits c.in_ok-table.table.shared.key c.in_ok-table.seat.id c.in_ok-table.seat.me.0)
