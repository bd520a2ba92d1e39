use Rattle.mon_certificate_file.proofs.Leaving.{log_stops_as}
use Rattle.mon_certificate_file.proofs.reading.one_log.Goals as goal

pub returns-clause-stops : goal.returns-clause-stops
returns-clause-stops c = log_stops_as c.args.text.now c.log_at.result c.log_at.ensures.stops
