use Rattle.mon_core.proofs.Faults.{passes-frames}
use Rattle.mon_core.proofs.Arming.{armed-is}
use Rattle.mon_core.proofs.laws.legal_passes_frames.Goals as goal

pub returns-clause-frames : goal.returns-clause-frames
returns-clause-frames c = passes-frames

pub returns-clause-tables : goal.returns-clause-tables
returns-clause-tables c = armed-is
