use Rattle.std.proofs.Common.{ap, sym, ◌∙◌}
use Rattle.std.specs.Prelude.{◌+◌, option_copied}
use Rattle.mon_job.specs.Jobs.{Task}
use Rattle.mon_legal.specs.Runs.{Run}
use Rattle.mon_session.proofs.Shooting.{unshown_walk}
use Rattle.mon_session.proofs.session.Session.take_verdict.Goals as goal

pub returns-in_ok-tell_unshown-in-Indistinguishable-clause-walk : goal.returns-in_ok-tell_unshown-in-Indistinguishable-clause-walk
returns-in_ok-tell_unshown-in-Indistinguishable-clause-walk c =
    λ (run : Run). unshown_walk run c.args.self.now c.tell_unshown.new.self c.args.v.now c.args.around.now.key (c.args.numbers.now.serial + 1) c.job.inside.edit
    (option_copied c.args.around.now.view) c.args.around.now.near.now
    (sym c.says.ensures.value ∙ c.in-Indistinguishable.is)
    (ap (λ (j : Task). j.edit) (c.job.view_is ∙ c.job-job.ensures.value))
    c.requires.edit (c.in_ok-tell_unshown-in-Indistinguishable.ensures.walk run)
