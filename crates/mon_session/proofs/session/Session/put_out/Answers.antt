use Rattle.mon_world.specs.declared.event.Side.TheVariants.{Controller, Switch}
use Rattle.mon_legal.specs.Runs.{Run}
use Rattle.mon_session.specs.declared.change.Output.TheVariants.{Plain}
use Rattle.std.proofs.Common.{ap, ◌∙◌}
use Rattle.mon_world.specs.declared.event.Side.{Side}
use Rattle.mon_session.proofs.Told.{plain_walk}
use Rattle.mon_session.proofs.session.Session.put_out.Goals as goal

pub returns-in_ok-send_back-in-Plain-Controller-default-clause-walk : goal.returns-in_ok-send_back-in-Plain-Controller-default-clause-walk
returns-in_ok-send_back-in-Plain-Controller-default-clause-walk c =
    λ (run : Run). plain_walk run c.args.self.now c.forget.new.self c.send_back.new.self c.args.output Controller c.in-Plain-Controller-default.frame
    (c.in-Plain-Controller-default.is ∙ ap (λ (to : Side). Plain to c.in-Plain-Controller-default.frame) c.in-Plain-Controller-default.to-is) c.forget.ensures
    ((c.in_ok-send_back-in-Plain-Controller-default).ensures.walk run)

pub returns-in_ok-send_on-in-Plain-Switch-default-clause-walk : goal.returns-in_ok-send_on-in-Plain-Switch-default-clause-walk
returns-in_ok-send_on-in-Plain-Switch-default-clause-walk c =
    λ (run : Run). plain_walk run c.args.self.now c.forget.new.self c.send_on.new.self c.args.output Switch c.in-Plain-Switch-default.frame
    (c.in-Plain-Switch-default.is ∙ ap (λ (to : Side). Plain to c.in-Plain-Switch-default.frame) c.in-Plain-Switch-default.to-is) c.forget.ensures
    ((c.in_ok-send_on-in-Plain-Switch-default).ensures.walk run)
