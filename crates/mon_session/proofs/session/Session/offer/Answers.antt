use Rattle.std.proofs.Common.{ap, sym, ◌∙◌}
use Rattle.std.specs.Prelude.{option_copied}
use Rattle.mon_session.specs.Probing.{wanted}
use Rattle.mon_session.proofs.Offering.{there_at}
use Rattle.mon_session.proofs.session.Session.offer.Goals as goal

pub job_of-requires : goal.job_of-requires
job_of-requires c =
    record {
      there = there_at c.in-Some.view.now c.args.self.now.now (wanted c.args.self.now.now) c.in-Some-wanting.passed.now c.requires.there
          (sym c.wanting.ensures ∙ ap option_copied c.in-Some-wanting.is);
    }
