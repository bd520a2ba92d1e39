use Rattle.of_msgs.proofs.Determined.{is_message}
use Rattle.of_msgs.proofs.laws.reading_is_a_function.Goals as goal

pub returns-clause-message : goal.returns-clause-message
returns-clause-message c = is_message
