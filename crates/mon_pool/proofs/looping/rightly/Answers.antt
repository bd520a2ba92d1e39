use Rattle.std.proofs.Common.{refl}
use Rattle.mon_pool.proofs.Skipping.{no_skip}
use Rattle.mon_pool.proofs.looping.rightly.Goals as goal

pub returns-clause-skips : goal.returns-clause-skips
returns-clause-skips c = no_skip c.decide.result.says _ _ _ c.decide.ensures.skipped refl
