use Rattle.mon_turns.proofs.Views.{others-historys}
use Rattle.mon_turns.proofs.laws.others_are_those_of_the_history.Goals as goal

pub returns : goal.returns
returns c = others-historys
