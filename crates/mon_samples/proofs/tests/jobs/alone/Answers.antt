use Rattle.std.proofs.Common.{◌≡◌, false, List, [], ap, ◌∙◌}
use Rattle.std.proofs.lemmas.Bool.{and_left, and_right}
use Rattle.mon_header.specs.declared.header.Header.{Header}
use Rattle.mon_table.specs.declared.rule.Rule.{Rule}
use Rattle.mon_outcome.specs.declared.emission.Emission.{Emission}
use Rattle.mon_shows.specs.declared.target.Target.{Target}
use Rattle.mon_shows.specs.Views.{Viewing, has_link, craftable}
use Rattle.mon_shows.specs.Separation.{separates}
use Rattle.mon_job.specs.Jobs.{Task}
use Rattle.mon_samples.proofs.tests.jobs.alone.Goals as goal

no-probe : (v : Viewing) (h : Header) → v.links ≡ [] → craftable v h ≡ false
unfolding craftable
no-probe v h none = and_right _ _ (and_left _ _ (ap (has_link h.in_port) none))

nothing-separates : (v : Viewing) (t : List Rule) (x : Target) (h : Header) (e : Emission) → v.links ≡ [] → separates v t x h e ≡ false
unfolding separates
nothing-separates v t x h e none = and_left _ _ (no-probe v h none)

pub new-requires-3 : goal.new-requires-3
new-requires-3 c h e =
    let links = ap (λ (j : Task). j.view.links) c.in_ok-job-2.ensures.ok ∙ (ap (λ (v : Viewing). v.links) c.in_ok-job.ensures.view ∙ (c.in_ok-with_neighbours.ensures ∙ c.new.ensures)) in
    nothing-separates _ _ _ h e links
