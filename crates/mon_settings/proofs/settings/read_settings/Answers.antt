use Rattle.mon_settings.proofs.Whole.{says-form, says-refused}
use Rattle.mon_settings.proofs.settings.read_settings.Goals as goal

pub returns-clause-accepted : goal.returns-clause-accepted
returns-clause-accepted c = says-form c.args.text.now c.of_text.result c.of_text.ensures

pub returns-clause-refused : goal.returns-clause-refused
returns-clause-refused c = says-refused c.args.text.now c.of_text.result c.of_text.ensures
