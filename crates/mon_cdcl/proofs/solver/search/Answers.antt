use Rattle.std.proofs.Common.{◌∙◌, ap, subst, sym, length}
use Rattle.mon_cdcl.specs.Asking.{asks_by, seen_at}
use Rattle.mon_cdcl.specs.Counts.{AskedAtLeast}
use Rattle.mon_cdcl.specs.Search.{Propagated, Stepped}
use Rattle.mon_cdcl.proofs.Searching.{asked_first, stands_is}
use Rattle.mon_cdcl.proofs.solver.search.Goals as goal
use Rattle.mon_cdcl.proofs.solver.search.Goals.{in-None, in-Some+in_ok-end-in-Some+in-None-2}

pub returns-in-Some-2-clause-ended : goal.returns-in-Some-2-clause-ended
returns-in-Some-2-clause-ended g c =
    subst (λ o. Stepped c.args.f.now 0 c.begin.new.trail.entries.items 0 c.learn_of.new.log.items c.learn_of.new.trail o) c.in-Some-2.is (c.in_ok-end-in-Some.ensures.stepped 0)

pub returns-in-Some-2-clause-asked : goal.returns-in-Some-2-clause-asked
returns-in-Some-2-clause-asked g c =
    let asked = g.S.Stop.asked in
    subst (λ o. AskedAtLeast (asks_by o (length c.learn_of.new.log.items)) (asked c.args.stop.now) (asked c.learn_of.new.stop)) c.in-Some-2.is
    (c.in_ok-end-in-Some.ensures.asked (asked c.args.stop.now) (asked_first c.args.log.now.items (asked c.args.stop.now) c.requires.new))

pub steps-init : goal.steps-init
steps-init g c =
    let asked = g.S.Stop.asked in
    let m = c.match-branch-5 in
    elim m.branch [
      | in-None w ↦ record {
        stands = stands_is c.args.f.now c.deref.result.now m.log.items c.begin.new.trail m.trail (subst (λ h. Propagated c.args.f.now c.deref.result.now c.args.trail.now c.begin.new.trail h) w.in-None.is c.in_ok-begin.ensures).stands
            (ap (λ v. v.items) w.log-is ∙ sym c.deref.ensures.value) w.trail-is;
        sized = ap (λ s. length s.flags.items) w.seen-is ∙ c.in_ok-seen.ensures ∙ c.vars.ensures;
        unshown = ap (g.S.Stop.shown) w.stop-is ∙ c.requires.unshown;
        about = ap (g.S.Stop.about) w.stop-is;
        same = ap (g.S.Stop.floor) w.stop-is;
        asked = subst (λ s. AskedAtLeast (length m.log.items) (asked c.args.stop.now) (asked s)) (sym w.stop-is)
            (asked_first m.log.items (asked c.args.stop.now) (ap (λ v. v.items) w.log-is ∙ c.requires.new));
      }
      | in-Some+in_ok-end-in-Some+in-None-2 w ↦ record {
        stands = stands_is c.args.f.now w.learn_of.new.log.items m.log.items w.learn_of.new.trail m.trail
            (subst (λ o. Stepped c.args.f.now 0 c.begin.new.trail.entries.items 0 w.learn_of.new.log.items w.learn_of.new.trail o) w.in-None-2.is (w.in_ok-end-in-Some.ensures.stepped 0)).0
            (ap (λ v. v.items) w.log-is) w.trail-is;
        sized = ap (λ s. length s.flags.items) w.seen-is ∙ w.in_ok-end-in-Some.ensures.sized;
        unshown = ap (g.S.Stop.shown) w.stop-is ∙ w.in_ok-end-in-Some.ensures.shown ∙ ap seen_at w.in-None-2.is;
        about = ap (g.S.Stop.about) w.stop-is ∙ w.in_ok-end-in-Some.ensures.about;
        same = ap (g.S.Stop.floor) w.stop-is ∙ w.in_ok-end-in-Some.ensures.same;
        asked = subst (λ s. AskedAtLeast (length m.log.items) (asked c.args.stop.now) (asked s)) (sym w.stop-is)
            (subst (λ l. AskedAtLeast (length l) (asked c.args.stop.now) (asked w.learn_of.new.stop)) (sym (ap (λ v. v.items) w.log-is))
            (subst (λ o. AskedAtLeast (asks_by o (length w.learn_of.new.log.items)) (asked c.args.stop.now) (asked w.learn_of.new.stop)) w.in-None-2.is
            (w.in_ok-end-in-Some.ensures.asked (asked c.args.stop.now) (asked_first c.args.log.now.items (asked c.args.stop.now) c.requires.new))));
      }
    ]

pub steps-preserved : goal.steps-preserved
steps-preserved g c =
    let asked = g.S.Stop.asked in
    record {
      stands = (subst (λ o. Stepped c.args.f.now c.steps.restarts.left c.steps.trail.entries.items c.step.new.restarts.left c.step.new.log.items c.step.new.trail o) c.in-None-3.is c.in_ok-end.ensures.stepped).0;
      sized = c.in_ok-end.ensures.sized;
      unshown = c.in_ok-end.ensures.shown ∙ ap seen_at c.in-None-3.is;
      about = c.in_ok-end.ensures.about ∙ c.steps.invariant.about;
      same = c.in_ok-end.ensures.same ∙ c.steps.invariant.same;
      asked = subst (λ o. AskedAtLeast (asks_by o (length c.step.new.log.items)) (asked c.args.stop.now) (asked c.step.new.stop)) c.in-None-3.is (c.in_ok-end.ensures.asked (asked c.args.stop.now) c.steps.invariant.asked);
    }
