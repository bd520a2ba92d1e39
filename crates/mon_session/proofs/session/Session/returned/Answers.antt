use Rattle.std.proofs.Common.{refl}
use Rattle.mon_legal.specs.Runs.{Run}
use Rattle.mon_session.proofs.Returning.{confirmed_walk}
use Rattle.mon_session.proofs.session.Session.returned.Goals as goal

pub returns-clause-walk : goal.returns-clause-walk
returns-clause-walk c =
    λ (run : Run). confirmed_walk run c.args.self.now c.forget.new.self _ c.confirm.new.self c.args.serial c.in-Some.edit c.args.seen.now c.confirmed.result
    c.self.view_is c.forget.ensures refl c.confirmed.ensures c.in-Some.is (c.in_ok-confirm.ensures.walk run)
