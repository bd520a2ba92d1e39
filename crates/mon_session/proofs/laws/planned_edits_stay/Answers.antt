use Rattle.mon_session.proofs.Planning.{planned-at-first, planned-behind, planned-without}
use Rattle.mon_session.proofs.laws.planned_edits_stay.Goals as goal

pub returns-clause-planned : goal.returns-clause-planned
returns-clause-planned c = planned-at-first

pub returns-clause-behind : goal.returns-clause-behind
returns-clause-behind c = planned-behind

pub returns-clause-vanished : goal.returns-clause-vanished
returns-clause-vanished c = planned-without
