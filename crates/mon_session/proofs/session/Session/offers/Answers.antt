use Rattle.std.proofs.Common.{◌≡◌, ◌+◌, ◌-◌, suc, arith, rules, sym, subst, ◌∙◌}
use Rattle.std.specs.Prelude.{option_copied}
use Rattle.mon_session.specs.Walks.{Known}
use Rattle.mon_session.specs.Offering.{next_job, EditsAreThere}
use Rattle.mon_session.proofs.Offering.{there_on, more_offered, used_up}
use Rattle.mon_session.proofs.session.Session.offers.Goals as goal

pub returns-in_err-offer-clause-used : goal.returns-in_err-offer-clause-used
returns-in_err-offer-clause-used c =
    λ e. let less : c.args.room - c.loop.counter ≡ suc (c.args.room - (c.loop.counter + 1)) = omega arith in
    let u = c.in_err-offer.ensures.used (first_of (cc, search rules)) in
    used_up (option_copied c.args.around.now.view) (c.args.room - c.loop.counter) (c.args.room - (c.loop.counter + 1)) c.args.self.now c.loop.self
    c.args.numbers.now c.loop.numbers c.offer.new.numbers c.args.jobs.now c.loop.jobs c.offer.new.jobs _ less c.loop.invariant.so_far u.1 u.2 u.3 u.0

pub loop-preserved : goal.loop-preserved
loop-preserved c =
    let less : c.args.room - c.loop.counter ≡ suc (c.args.room - (c.loop.counter + 1)) = omega arith in
    record {
      there = subst (λ (x : Known). EditsAreThere x.now) (sym c.in_ok-offer.ensures.walk)
          (there_on (next_job (option_copied c.args.around.now.view) c.loop.self (c.loop.numbers.job + 1)) c.loop.self c.loop.invariant.there);
      so_far = more_offered (option_copied c.args.around.now.view) (c.args.room - c.loop.counter) (c.args.room - (c.loop.counter + 1)) c.args.self.now c.loop.self c.offer.new.self
          c.args.numbers.now c.loop.numbers c.offer.new.numbers c.args.jobs.now c.loop.jobs c.offer.new.jobs _ less c.loop.invariant.so_far
          (sym c.if-not-branch.false ∙ c.in_ok-offer.ensures.done) c.in_ok-offer.ensures.walk c.in_ok-offer.ensures.offers c.in_ok-offer.ensures.numbers;
    }
