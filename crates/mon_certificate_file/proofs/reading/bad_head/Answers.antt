use Rattle.mon_certificate_file.proofs.Leaving.{name_stops, count_stops}
use Rattle.mon_certificate_file.proofs.reading.bad_head.Goals as goal

pub returns-in-Some : goal.returns-in-Some
returns-in-Some c = count_stops c.args.text.now c.in-Some.rest.now c.in-Some.ensures.found c.requires

pub returns-in-None : goal.returns-in-None
returns-in-None c = name_stops c.args.text.now c.in-None.ensures.found
