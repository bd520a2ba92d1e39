use Rattle.std.proofs.Common.{List, sym, subst}
use Rattle.std.specs.List.{AllByRecursion}
use Rattle.mon_legal.specs.Probes.{Live}
use Rattle.mon_session.specs.Tracks.{Track as Tracked, HasGone}
use Rattle.mon_session.proofs.Probed.{gone_filtered}
use Rattle.mon_session.proofs.track.Track.tick.Goals as goal

pub tick_all-requires : goal.tick_all-requires
tick_all-requires c = record {
  gone = subst (λ (ls : List Live). AllByRecursion HasGone ls) (sym c.drop_over.ensures)
      (gone_filtered c.args.retry c.args.version c.self.inside.reported c.self.inside.live.items
      (subst (λ (t : Tracked). AllByRecursion HasGone t.live) (sym c.self.view_is) c.requires.gone));
}
