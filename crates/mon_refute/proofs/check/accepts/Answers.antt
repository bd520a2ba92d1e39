use Rattle.std.proofs.Common.{◌∙◌, sym, ap}
use Rattle.mon_refute.specs.Follow.{is_accepted}
use Rattle.mon_refute.proofs.Sound.{accepted_none}
use Rattle.mon_refute.proofs.check.accepts.Goals as goal

pub returns-clause-sound : goal.returns-clause-sound
returns-clause-sound c t =
    accepted_none c.args.f.now.vars c.args.f.now.clauses c.args.log.now (ap (is_accepted c.args.f.now.vars c.args.f.now.clauses) (sym c.items.ensures) ∙ sym c.is_accepted.ensures ∙ t)
