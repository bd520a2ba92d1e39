use Rattle.std.proofs.Common.{◌≡◌, drop}
use Rattle.std.specs.List.{list_any}
use Rattle.mon_session.specs.Tracks.{is_shown}
use Rattle.mon_session.proofs.track.Track.fits.Given as goal

abbrev pub invariant-loop-probe : goal.invariant-loop-probe
invariant-loop-probe l = list_any (is_shown l.serial l.seen) (drop l.probe-index l.self.kept) ≡ list_any (is_shown l.serial l.seen) l.self.kept
