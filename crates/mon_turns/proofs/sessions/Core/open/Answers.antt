use Rattle.std.proofs.Common.{refl, sym, ◌∙◌}
use Rattle.mon_turns.proofs.Following.{follows-in, follows-away, may-not}
use Rattle.mon_turns.proofs.Goes.{goes-kept, goes-away}
use Rattle.mon_turns.proofs.sessions.Core.open.Goals as goal

pub returns-then-not-can_open-clause-numbers : goal.returns-then-not-can_open-clause-numbers
returns-then-not-can_open-clause-numbers g c = λ e may. may-not _ c.args.self.now.state c.if-not-can_open.ensures may

pub returns-in_default-clause-follows : goal.returns-in_default-clause-follows
returns-in_default-clause-follows g c =
    follows-away c.args.self.now.run c.refuse-session.new.self.run c.args.self.now.state c.refuse-session.new.self.state
    (g.H.Hub.log c.args.hub.now) (g.H.Hub.log c.end.new.hub) c.refuse-session.result
    c.requires.comes c.if-not-can_open.ensures (sym c.free_slot.ensures.value ∙ c.in_default.is)
    c.refuse-session.ensures.run c.refuse-session.ensures.state c.refuse-session.ensures.number c.in_ok-end.ensures.log

pub returns-clause-follows : goal.returns-clause-follows
returns-clause-follows g c =
    follows-in c.args.self.now.run c.open_in.new.self.run c.args.self.now.state c.open_in.new.self.state
    (g.H.Hub.log c.args.hub.now) (g.H.Hub.log c.args.hub.now) c.in-Some.slot
    c.requires.comes c.if-not-can_open.ensures (sym c.free_slot.ensures.value ∙ c.in-Some.is)
    c.in_ok-version.ensures.run c.in_ok-version.ensures.state refl

pub returns-in_default-clause-crew : goal.returns-in_default-clause-crew
returns-in_default-clause-crew g c =
    goes-away c.args.self.now.run c.refuse-session.new.self.run c.args.self.now.state c.refuse-session.new.self.state
    (g.C.Crew.unanswered c.args.crew.now) (g.C.Crew.versions c.args.crew.now) (g.C.Crew.last c.args.crew.now)
    c.requires.crew c.refuse-session.ensures.run c.refuse-session.ensures.state

pub returns-clause-crew : goal.returns-clause-crew
returns-clause-crew g c =
    goes-kept c.args.self.now.run c.open_in.new.self.run c.args.self.now.state c.open_in.new.self.state c.in-Some.slot
    (g.C.Crew.unanswered c.args.crew.now) (g.C.Crew.unanswered c.publish.new.self) (g.C.Crew.versions c.args.crew.now) (g.C.Crew.versions c.publish.new.self)
    (g.C.Crew.last c.args.crew.now) (g.C.Crew.last c.publish.new.self) c.in_ok-version.version
    c.requires.crew c.in_ok-version.ensures.run c.in_ok-version.ensures.state c.in_ok-version.ensures.version c.publish.ensures.versions c.publish.ensures.unanswered c.publish.ensures.last
