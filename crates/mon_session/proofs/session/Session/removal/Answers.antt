use Rattle.std.proofs.Common.{List, ℕ}
use Rattle.mon_legal.specs.Runs.{Run}
use Rattle.mon_session.proofs.Removing.{removal_walk}
use Rattle.mon_session.proofs.session.Session.removal.Goals as goal

pub returns-clause-walk : goal.returns-clause-walk
returns-clause-walk c =
    λ (run : Run) (others : List ℕ). removal_walk run c.args.self.now c.greet.new.self c.lose.new.self c.send_back.new.self c.args.frame others c.requires.kind c.greet.ensures
    c.in_ok-lose.ensures.lost (c.in_ok-send_back.ensures.walk run)
