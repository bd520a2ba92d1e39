-- What tags a topology gets.
use Rattle.std.specs.Prelude.{ℕ, List, [], Option, Some, None, Result, Ok, Err}
use Rattle.mon_topo.specs.declared.topology.Topology.{Topology}
use Rattle.mon_topo.specs.declared.fault.TopoFault.{TopoFault}
use Rattle.mon_topo.specs.declared.fault.TopoFault.TheVariants.{TooFewTags}
use Rattle.mon_topo.specs.declared.tagged.Tagged.{Tagged}
use Rattle.mon_topo.specs.Links.{first_wrong}
use Rattle.mon_topo.specs.Tags.{greedy}

-- none are too few
abbrev pub or_too_few : Option (List Tagged) → Result (List Tagged) TopoFault
or_too_few None = Err TooFewTags
or_too_few (Some given) = Ok given

-- a wrong link comes before too few tags
abbrev pub unless_wrong : Option TopoFault → Option (List Tagged) → Result (List Tagged) TopoFault
unless_wrong (Some fault) given = Err fault
unless_wrong None given = or_too_few given

-- the tags of the switches of a topology from this list, or why there are none
abbrev pub coloured : Topology → List ℕ → Result (List Tagged) TopoFault
coloured t tags = unless_wrong (first_wrong t.switches [] 0 t.links) (greedy t.links tags [] t.switches)
