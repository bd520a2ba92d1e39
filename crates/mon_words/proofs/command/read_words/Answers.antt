use Rattle.mon_words.proofs.Commands.{spelled, alone, bad}
use Rattle.mon_words.proofs.command.read_words.Goals as goal

pub returns-clause-spelled : goal.returns-clause-spelled
returns-clause-spelled c = spelled _ c.command_of.result c.command_of.ensures

pub returns-clause-alone : goal.returns-clause-alone
returns-clause-alone c = alone _ c.command_of.result c.command_of.ensures

pub returns-clause-bad : goal.returns-clause-bad
returns-clause-bad c = bad _ c.command_of.result c.command_of.ensures
