use Rattle.mon_table.proofs.Members.{places-within, places-shown}
use Rattle.mon_table.proofs.laws.places_show_the_rules.Goals as goal

pub returns-clause-within : goal.returns-clause-within
returns-clause-within c = places-within

pub returns-clause-shown : goal.returns-clause-shown
returns-clause-shown c = places-shown
