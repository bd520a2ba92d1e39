use Rattle.serde_json.specs.View.{view}
use Rattle.mon_settings.proofs.Saying.{gives-says}
use Rattle.mon_settings.proofs.settings.of_text.Goals as goal

pub returns-in-Ok : goal.returns-in-Ok
returns-in-Ok c =
    gives-says c.args.text.now (view c.in-Ok.value) c.of_value.result c.in-Ok.ensures.ok.0 c.in-Ok.ensures.ok.1 c.of_value.ensures
