use Rattle.std.proofs.Common.{ℕ, ◌+◌, ◌<◌, drop, subst, sym, arith}
use Rattle.std.proofs.lemmas.List.{get_or-drop}
use Rattle.byteorder.specs.Numbers.{big_from-lt}
use Rattle.of_frame.proofs.frame.frame_bytes.Goals as goal

pub returns-clause-small : goal.returns-clause-small
returns-clause-small c =
    omega (
      arith,
      c.requires.exact,
      big_from-lt 0 2 (drop 2 c.args.bytes.now) (λ k. subst (λ (x : ℕ). x < 256) (sym (get_or-drop 2 c.args.bytes.now k 0)) ((c.type_inv.bytes (2 + k)).fits)),
    )
