use Rattle.std.proofs.Common.{sym, ◌∙◌, arith}
use Rattle.mon_core.proofs.Turns.{opened-is, stood, carried-so_far, carried-put}
use Rattle.mon_core.proofs.sessions.Core.turn.Goals as goal

pub returns-clause-opened : goal.returns-clause-opened
returns-clause-opened g c =
    opened-is c.args.event c.args.self.now c.on_event.new.self c.in_ok-outs.outs.items (omega (arith, c.len.ensures.value, c.len.ensures.small)) c.in_ok-outs.ensures ∙ sym c.requires.opened ∙ sym c.carry_out.ensures.opened

pub returns-clause-stands : goal.returns-clause-stands
returns-clause-stands g c =
    stood c.args.event c.args.self.now c.on_event.new.self c.in_ok-outs.outs.items c.deref.result.now (g.H.Hub.log c.args.hub.now) (g.H.Hub.log c.carry_out.new.hub) c.requires.names c.in_ok-outs.ensures c.requires.given c.deref.ensures.value c.in_ok-carry_out.ensures.log

pub returns-clause-so_far : goal.returns-clause-so_far
returns-clause-so_far g c =
    carried-so_far c.carry_out.result c.args.event c.args.self.now c.on_event.new.self c.in_ok-outs.outs.items c.deref.result.now (g.H.Hub.log c.args.hub.now) (g.H.Hub.log c.carry_out.new.hub) c.in_ok-outs.ensures c.requires.given c.deref.ensures.value c.carry_out.ensures.log c.carry_out.ensures.some

pub returns-clause-put : goal.returns-clause-put
returns-clause-put g c = carried-put c.carry_out.result c.deref.result.now (g.H.Hub.log c.args.hub.now) (g.H.Hub.log c.carry_out.new.hub) c.carry_out.ensures.log c.carry_out.ensures.some

pub returns-in_err-carry_out-clause-so_far : goal.returns-in_err-carry_out-clause-so_far
returns-in_err-carry_out-clause-so_far g c =
    carried-so_far c.carry_out.result c.args.event c.args.self.now c.on_event.new.self c.in_ok-outs.outs.items c.deref.result.now (g.H.Hub.log c.args.hub.now) (g.H.Hub.log c.carry_out.new.hub) c.in_ok-outs.ensures c.requires.given c.deref.ensures.value c.carry_out.ensures.log c.carry_out.ensures.some
