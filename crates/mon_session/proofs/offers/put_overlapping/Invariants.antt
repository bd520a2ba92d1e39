use Rattle.std.proofs.Common.{◌≡◌, drop}
use Rattle.mon_table.specs.Tables.{slice}
use Rattle.mon_legal.specs.Messages.{put_all}
use Rattle.mon_session.proofs.offers.put_overlapping.Given as goal

abbrev pub invariant-loop-place : goal.invariant-loop-place
invariant-loop-place l = put_all (slice l.m (drop l.place l.others)) l.part ≡ put_all (slice l.m l.fn.others) l.fn.part
