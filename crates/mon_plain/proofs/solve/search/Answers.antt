use Rattle.std.proofs.Common.{◌<◌, ◌-◌, ◌^◌, ◌++◌, ◌∷◌, [], subst, sym}
use Rattle.mon_plain.specs.declared.solve.Step.TheVariants.{Next}
use Rattle.mon_plain.specs.Trail.{Stands, entered, rank_of}
use Rattle.mon_plain.specs.Search.{Stepped}
use Rattle.mon_plain.proofs.Ranks.{rising_ends}
use Rattle.mon_plain.proofs.Stepping.{entered_stands}
use Rattle.mon_plain.proofs.solve.search.Goals as goal

pub loop-trail-smaller : goal.loop-trail-smaller
loop-trail-smaller c =
    let f = c.args.f.now in
    let s : Stepped f c.loop-trail.trail.items c.next_step.new.log.items c.next_step.new.trail.items c.next_step.new.marks (Next c.in-Next.entry) =
    subst (Stepped f c.loop-trail.trail.items c.next_step.new.log.items c.next_step.new.trail.items c.next_step.new.marks) c.in-Next.is c.in_ok-next_step.ensures in
    subst (λ es. 3 ^ f.vars - rank_of f es < 3 ^ f.vars - rank_of f c.loop-trail.trail.items) (sym c.in_ok-push-in-Next.ensures.items)
    (rising_ends f c.loop-trail.trail.items (c.next_step.new.trail.items ++ (c.in-Next.entry ∷ [])) s.2)

pub loop-trail-preserved : goal.loop-trail-preserved
loop-trail-preserved c =
    let f = c.args.f.now in
    let s : Stepped f c.loop-trail.trail.items c.next_step.new.log.items c.next_step.new.trail.items c.next_step.new.marks (Next c.in-Next.entry) =
    subst (Stepped f c.loop-trail.trail.items c.next_step.new.log.items c.next_step.new.trail.items c.next_step.new.marks) c.in-Next.is c.in_ok-next_step.ensures in
    subst (λ es. Stands f c.next_step.new.log.items es (entered c.next_step.new.marks c.in-Next.entry)) (sym c.in_ok-push-in-Next.ensures.items)
    (entered_stands f c.loop-trail.trail.items c.next_step.new.log.items c.next_step.new.trail.items c.next_step.new.marks c.in-Next.entry s)
