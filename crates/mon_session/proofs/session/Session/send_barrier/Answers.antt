use Rattle.std.proofs.Common.{ap, sym, ◌∙◌}
use Rattle.mon_legal.specs.Runs.{Run}
use Rattle.mon_session.specs.Walks.{Known}
use Rattle.mon_session.specs.Entries.{with_now, forgotten}
use Rattle.mon_session.proofs.Walking.{ok_if, barrier_takes}
use Rattle.mon_session.proofs.session.Session.send_barrier.Goals as goal

pub returns-clause-walk : goal.returns-clause-walk
returns-clause-walk c =
    ok_if c.push.result (λ (run : Run). c.forget.ensures
    ∙ (ap (λ (x : Known). with_now x (forgotten x.now)) c.in_ok-ask.ensures ∙ sym (barrier_takes run c.args.self.now c.requires.none)))
