use Rattle.mon_table.proofs.Members.{identity-law}
use Rattle.mon_table.proofs.laws.identity_is_match_and_rank.Goals as goal

pub returns : goal.returns
returns c = identity-law
