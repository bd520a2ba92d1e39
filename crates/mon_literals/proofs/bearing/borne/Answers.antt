use Rattle.std.proofs.Common.{◌∙◌}
use Rattle.mon_literals.proofs.Values.{borne_of_values}
use Rattle.mon_literals.proofs.bearing.borne.Goals as goal

pub returns-clause-value : goal.returns-clause-value
returns-clause-value c =
    c.from_bits.ensures.value ∙ borne_of_values c.args.values.now c.copy_from_slice.new.self c.requires c.copy_from_slice.ensures.after
