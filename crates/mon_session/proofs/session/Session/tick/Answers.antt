use Rattle.std.proofs.Common.{refl, ap, sym, subst}
use Rattle.mon_session.specs.Runs.{run_of}
use Rattle.mon_session.specs.Tracks.{AllGone}
use Rattle.mon_session.specs.Walks.{Known}
use Rattle.mon_session.proofs.Ticked.{tick_still, tick_outs}
use Rattle.mon_session.proofs.session.Session.tick.Goals as goal

pub returns-clause-walk : goal.returns-clause-walk
returns-clause-walk c =
    let k : Known = c.args.self.now in
    tick_still (run_of c.args.around.now) k.number k.now.version k c.age.new.self
    (c.in_ok-age.ensures (run_of c.args.around.now) refl refl)
    (ap (λ (x : Known). x.now.watching.watch) (sym c.self.view_is))
    (subst (λ (x : Known). AllGone x.now.tracks) c.self-2.view_is c.keeps.ensures)

pub returns-clause-outs : goal.returns-clause-outs
returns-clause-outs c =
    tick_outs (run_of c.args.around.now) _ c.args.self.now c.args.outs.now c.again.new.outs c.silent.new.outs
    c.self.view_is refl c.in_ok-again.ensures c.in_ok-silent.ensures
