use Rattle.std.proofs.Common.{subst, sym}
use Rattle.mon_topo.specs.Ascending.{AreVids}
use Rattle.mon_shows.proofs.Following.{copy-follows}
use Rattle.mon_shows.proofs.view.copied_tags.Goals as goal

pub push-requires : goal.push-requires
push-requires c = copy-follows _ _ c.loop-tag.tag-index 0
    (subst AreVids (sym c.items-tag-items.ensures.value) c.items-tag-items.ensures.vids) c.loop-tag.invariant c.loop-tag-test.true
