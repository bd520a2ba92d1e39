use Rattle.std.proofs.Common.{ℕ, ◌-◌, ap, ◌∙◌}
use Rattle.mon_packet.specs.Sums.{sum_from}
use Rattle.mon_packet.proofs.Summing.{checksum-append}
use Rattle.mon_packet.proofs.writing.checksum.Goals as goal

pub returns : goal.returns
returns c =
    let sums = c.sum_from-3.ensures
    ∙ ap (λ (s : ℕ). sum_from s c.args.last.now) (c.sum_from-2.ensures ∙ ap (λ (s : ℕ). sum_from s c.args.second.now) c.sum_from.ensures) in
    ap (λ (s : ℕ). 65535 - s) sums ∙ checksum-append c.args.first.now c.args.second.now c.args.last.now c.requires.first c.requires.second
