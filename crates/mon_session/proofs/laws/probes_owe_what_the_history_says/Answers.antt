use Rattle.mon_session.proofs.Owed.{returns-owe, answers-owe, ticks-owe, wants-stand}
use Rattle.mon_session.proofs.laws.probes_owe_what_the_history_says.Goals as goal

pub returns-clause-returns : goal.returns-clause-returns
returns-clause-returns c = returns-owe

pub returns-clause-answers : goal.returns-clause-answers
returns-clause-answers c = answers-owe

pub returns-clause-ticks : goal.returns-clause-ticks
returns-clause-ticks c = ticks-owe

pub returns-clause-wants : goal.returns-clause-wants
returns-clause-wants c = wants-stand
