use Rattle.mon_literals.proofs.Values.{borne_is_borne, one_header_borne, bits_bear}
use Rattle.mon_literals.proofs.laws.values_bear_one_header.Goals as goal

pub returns-clause-some : goal.returns-clause-some
returns-clause-some c = borne_is_borne

pub returns-clause-one : goal.returns-clause-one
returns-clause-one c = one_header_borne

pub returns-clause-own : goal.returns-clause-own
returns-clause-own c = bits_bear
