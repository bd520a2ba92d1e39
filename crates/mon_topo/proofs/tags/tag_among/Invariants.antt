use Rattle.std.proofs.Common.{◌≡◌, drop}
use Rattle.mon_topo.specs.Tags.{tag_of}
use Rattle.mon_topo.proofs.tags.tag_among.Given as goal

-- the tag stands behind the switches so far
abbrev pub invariant-loop-tagged : goal.invariant-loop-tagged
invariant-loop-tagged l = tag_of l.switch (drop l.tagged-index l.given) ≡ tag_of l.switch l.given
