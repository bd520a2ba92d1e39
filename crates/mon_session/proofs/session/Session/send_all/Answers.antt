use Rattle.std.proofs.Common.{ℕ, List, ap, sym, ◌∙◌}
use Rattle.mon_world.specs.declared.event.Side.TheVariants.{Switch}
use Rattle.std.specs.Vec.Iter.{into_iter_items}
use Rattle.mon_legal.specs.Runs.{Run}
use Rattle.mon_legal.specs.Directly.{frames_to}
use Rattle.mon_session.specs.Walks.{Known, walks}
use Rattle.mon_session.specs.Dues.{met}
use Rattle.mon_session.proofs.Walking.{some_run, sent_outs}
use Rattle.mon_session.proofs.session.Session.send_all.Goals as goal

pub loop-frame-preserved : goal.loop-frame-preserved
loop-frame-preserved c =
    let stays = ap (λ (x : Known). x.number) (c.in_ok-send_on.ensures.walk some_run) in
    record {
      number = stays ∙ c.loop-frame.invariant.number;
      walk = λ (run : Run). ap (λ (x : Known). walks run x (met (frames_to Switch (into_iter_items c.next.new.self)))) (c.in_ok-send_on.ensures.walk run)
          ∙ (ap (λ (fs : List (List ℕ)). walks run c.loop-frame.self (met (frames_to Switch fs))) (sym c.in-Some.ensures.steps.0) ∙ c.loop-frame.invariant.walk run);
      outs = sent_outs c.loop-frame.self.number c.send_on.new.self.number c.in-Some.frame (into_iter_items c.loop-frame.frame-iterator) (into_iter_items c.next.new.self)
          c.loop-frame.outs c.send_on.new.outs _ stays c.in-Some.ensures.steps.0 c.in_ok-send_on.ensures.outs c.loop-frame.invariant.outs;
    }
