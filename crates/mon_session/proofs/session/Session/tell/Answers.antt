use Rattle.std.proofs.Common.{ap, sym, ◌∙◌}
use Rattle.mon_legal.specs.Runs.{Run}
use Rattle.mon_session.specs.Now.{Now}
use Rattle.mon_session.specs.Entries.{with_now}
use Rattle.mon_session.proofs.Plain.{plain_tells}
use Rattle.mon_session.proofs.Walking.{ok_if}
use Rattle.mon_session.proofs.session.Session.tell.Goals as goal

pub returns-clause-walk : goal.returns-clause-walk
returns-clause-walk c =
    ok_if c.push.result (λ (run : Run). c.forget.ensures ∙ ap (λ (n : Now). with_now c.args.self.now n) (sym (plain_tells run c.args.self.now.now c.args.line c.requires.plain)))
