use Rattle.mon_session.proofs.Staying.{others-stay, confirmation-is-sound}
use Rattle.mon_session.proofs.laws.a_confirmation_is_sound.Goals as goal

pub returns-clause-others : goal.returns-clause-others
returns-clause-others c = others-stay

pub returns-clause-sound : goal.returns-clause-sound
returns-clause-sound c = confirmation-is-sound
