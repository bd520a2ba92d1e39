use Rattle.std.proofs.Common.{◌≤◌, subst, arith, ℕ}
use Rattle.mon_table_file.specs.Generator.{ignored_bits}
use Rattle.mon_table_file.proofs.Making.{wild-is}
use Rattle.mon_table_file.proofs.generator.wildcards.Goals as goal

pub returns : goal.returns
returns c =
    let few : ignored_bits c.args.k ≤ 24 = subst (λ (n : ℕ). n ≤ 24) c.ignored_bits.ensures.value c.ignored_bits.ensures.few in
    wild-is c.args.k c.protocol_wildcard.result _ c.protocol_wildcard.ensures (omega (arith, c.ignored_bits.ensures.value)) few
