use Rattle.mon_trace.proofs.FirstLine.{first_line}
use Rattle.mon_trace.proofs.lines.end_of_line.Goals as goal

pub returns : goal.returns
returns c = first_line c.args.text.now c.memchr.result c.memchr.ensures
