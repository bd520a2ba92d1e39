use Rattle.mon_legal.specs.Runs.{Run}
use Rattle.mon_session.proofs.Releasing.{release_at}
use Rattle.mon_session.proofs.session.Session.release.Goals as goal

pub returns-clause-walk : goal.returns-clause-walk
returns-clause-walk c =
    λ (run : Run). release_at run _ _ c.send_back.new.self c.oldest-oldest.result c.release.new.self c.in-Some.frame c.self.view_is c.oldest-oldest.ensures c.in-Some.ensures.reply
    c.release.ensures.rest (c.in_ok-send_back.ensures.walk run)
