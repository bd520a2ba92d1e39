use Rattle.std.proofs.Common.{◌≡◌, ◌+◌, List, Option, sym, ap, subst, ◌∙◌, arith}
use Rattle.mon_world.specs.declared.history.Entry.{Entry}
use Rattle.mon_core.specs.History.{Ran, RanToStop, logged}
use Rattle.mon_core.proofs.Turns.{ran-on, ran-to_stop}
use Rattle.mon_core.proofs.run.run_loop.Goals as goal

pub returns-then-stop-clause-stopped : goal.returns-then-stop-clause-stopped
returns-then-stop-clause-stopped g c =
    let put = c.turn.ensures.put in
    let e : g.H.Hub.log c.turn.new.hub ≡ logged put.0 (g.H.Hub.log c.next.new.self) = put.1 in
    λ _. subst (λ (l : Option (List Entry)). RanToStop (g.H.Hub.log c.args.hub.now) l) (sym (e ∙ ap (logged put.0) c.in-Ok.ensures.log))
    (ran-to_stop (g.H.Hub.log c.args.hub.now) (g.H.Hub.log c.loop.hub) c.loop.counter c.in-Ok.event put.0 c.loop.invariant.4 c.if-stop.ensures)

pub loop-preserved : goal.loop-preserved
loop-preserved g c =
    let put = c.turn.ensures.put in
    let e : g.H.Hub.log c.turn.new.hub ≡ logged put.0 (g.H.Hub.log c.next.new.self) = put.1 in (
      c.in-Ok-turn.ensures.opened,
      c.in-Ok-turn.ensures.stands,
      c.turn.ensures.script ∙ c.next.ensures.script ∙ c.loop.invariant.2,
      omega (arith, c.turn.ensures.faults, c.next.ensures.cause.later, c.loop.invariant.3),
      subst (λ (l : Option (List Entry)). Ran (g.H.Hub.log c.args.hub.now) l (c.loop.counter + 1)) (sym (e ∙ ap (logged put.0) c.in-Ok.ensures.log))
          (ran-on (g.H.Hub.log c.args.hub.now) (g.H.Hub.log c.loop.hub) c.loop.counter c.in-Ok.event put.0 c.loop.invariant.4 c.if-stop.ensures),
    )
