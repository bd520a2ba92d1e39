use Rattle.std.proofs.Common.{ℕ, ap, sym, ◌∙◌}
use Rattle.std.specs.Prelude.{◌==◌}
use Rattle.mon_job.specs.Jobs.{Task}
use Rattle.mon_session.specs.Walks.{Known}
use Rattle.mon_session.proofs.Shooting.{current_edit}
use Rattle.mon_session.proofs.session.Session.is_current.Goals as goal

pub returns-then-job-self-clause-edit : goal.returns-then-job-self-clause-edit
returns-then-job-self-clause-edit c =
    λ y. ap (λ (x : ℕ). x == 0) (sym (ap (λ (j : Task). j.edit) (c.job.view_is ∙ c.job-job.ensures.value)))
    ∙ current_edit c.args.self.now.now 0 c.job.inside.edit (ap (λ (x : Known). x.now.watching.watch) (sym c.self.view_is)) (sym (c.stands.ensures 0) ∙ y)
