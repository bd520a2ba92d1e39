use Rattle.mon_turns.proofs.Views.{views-historys}
use Rattle.mon_turns.proofs.laws.views_are_those_of_the_history.Goals as goal

pub returns : goal.returns
returns c = views-historys
