use Rattle.std.proofs.Common.{ℕ, ap, sym, ◌∙◌}
use Rattle.std.proofs.lemmas.Result.{on_ok_weaker}
use Rattle.std.specs.Prelude.{◌+◌, option_copied}
use Rattle.mon_job.specs.Jobs.{Task}
use Rattle.mon_legal.specs.Runs.{Run}
use Rattle.mon_legal.specs.Owns.Own.{Judged}
use Rattle.mon_session.specs.Walks.{Known, takes}
use Rattle.mon_session.specs.Answering.{kind_said, is_fresh}
use Rattle.mon_session.proofs.Walking.{some_run}
use Rattle.mon_session.proofs.Shooting.{current_walk, current_steps, stale_walk}
use Rattle.mon_session.proofs.session.Session.answer.Goals as goal

pub returns-then-not-current-clause-walk : goal.returns-then-not-current-clause-walk
returns-then-not-current-clause-walk c =
    let k : Known = c.args.self.now in
    λ (run : Run). stale_walk run k c.judge.new.self c.args.v c.args.around.now.key (c.args.numbers.now.serial + 1)
    (option_copied c.args.around.now.view) c.args.around.now.near.now (sym c.is_current-current.ensures.value ∙ c.if-not-current.true)
    (c.judge.ensures run c.args.v.job.number (kind_said c.args.v.says) (is_fresh k.now c.args.v)
    ∙ ap (λ (e : ℕ). takes run k (Judged c.args.v.job.number e (kind_said c.args.v.says) (is_fresh k.now c.args.v)))
    (ap (λ (j : Task). j.edit) (c.behind-v.view_is ∙ c.job.ensures.value)))

pub returns-clause-walk : goal.returns-clause-walk
returns-clause-walk c =
    let k : Known = c.args.self.now in
    on_ok_weaker c.take_verdict.result
    (λ w (run : Run). current_walk run k c.judge.new.self c.take_verdict.new.self c.args.v c.args.around.now.key (c.args.numbers.now.serial + 1)
    (option_copied c.args.around.now.view) c.args.around.now.near.now
    (sym c.is_current-current.ensures.value ∙ c.if-not-current.false) (c.is_current-current.ensures.edit c.if-not-current.false)
    (c.judge.ensures run c.args.v.job.number (kind_said c.args.v.says) (is_fresh k.now c.args.v)
    ∙ ap (λ (e : ℕ). takes run k (Judged c.args.v.job.number e (kind_said c.args.v.says) (is_fresh k.now c.args.v)))
    (ap (λ (j : Task). j.edit) (c.behind-v.view_is ∙ c.job.ensures.value)))
    (w run))
    c.take_verdict.ensures.walk

pub returns-clause-outs : goal.returns-clause-outs
returns-clause-outs c =
    let k : Known = c.args.self.now in
    on_ok_weaker c.take_verdict.result
    (current_steps some_run k c.judge.new.self c.args.v c.args.around.now.key (c.args.numbers.now.serial + 1)
    (option_copied c.args.around.now.view) c.args.around.now.near.now c.args.outs.now c.take_verdict.new.outs
    (sym c.is_current-current.ensures.value ∙ c.if-not-current.false) (c.is_current-current.ensures.edit c.if-not-current.false)
    (c.judge.ensures some_run c.args.v.job.number (kind_said c.args.v.says) (is_fresh k.now c.args.v)
    ∙ ap (λ (e : ℕ). takes some_run k (Judged c.args.v.job.number e (kind_said c.args.v.says) (is_fresh k.now c.args.v)))
    (ap (λ (j : Task). j.edit) (c.behind-v.view_is ∙ c.job.ensures.value))))
    c.take_verdict.ensures.outs
