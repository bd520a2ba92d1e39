use Rattle.std.proofs.Common.{◌≡◌, None, take}
use Rattle.std.specs.Prelude.{All}
use Rattle.mon_solve.specs.Answers.{AskedAtLeast, HasNone}
use Rattle.mon_solve.proofs.deciding.answer.Given as goal

abbrev pub invariant-loop-case : goal.invariant-loop-case
invariant-loop-case g l = record {
  about : g.S.Stop.about l.stop ≡ g.S.Stop.about l.initial.stop;
  floor : g.S.Stop.floor l.stop ≡ l.job.version;
  shown : g.S.Stop.shown l.stop ≡ None;
  asked : AskedAtLeast l.case-index g.before (g.S.Stop.asked l.stop);
  none : All (HasNone l.job) (take l.case-index l.case-items);
}

abbrev pub ghost-find_asked : goal.ghost-find_asked
ghost-find_asked g a = g.before
