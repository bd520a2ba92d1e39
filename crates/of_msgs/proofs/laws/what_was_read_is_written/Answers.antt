use Rattle.of_msgs.proofs.Spelling.{flagged, written}
use Rattle.of_msgs.proofs.laws.what_was_read_is_written.Goals as goal

pub returns-clause-same : goal.returns-clause-same
returns-clause-same c = written

pub returns-clause-flagged : goal.returns-clause-flagged
returns-clause-flagged c = flagged
