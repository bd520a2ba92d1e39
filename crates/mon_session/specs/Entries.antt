-- What one entry makes of a session, in parts.
use Rattle.std.specs.Prelude.{ℕ, Bool, true, false, not, ◌==◌, ◌||◌, List, [], ◌∷◌, ◌++◌, Some, None, is_some}
use Rattle.mon_legal.specs.Changing.{plus_if}
use Rattle.mon_legal.specs.Versions.{miss_after}
use Rattle.mon_report.specs.declared.line.Line.{Line}
use Rattle.mon_report.specs.declared.line.Line.TheVariants.{Armed, Closed, Confirmed, Fact, Watch}
use Rattle.mon_legal.specs.Barriers.{is_barriered}
use Rattle.mon_session.specs.Now.{Now, asker_of, made_if, with_unsettled}
use Rattle.mon_session.specs.Passing.{without_edit}
use Rattle.mon_session.specs.Tracks.{with_track, without_track}
use Rattle.mon_session.specs.Walks.{Known}

abbrev pub with_now : Known → Now → Known
with_now k n = record k { now = n }

-- nothing was just reported, and no edit is on its way out
abbrev pub forgotten : Now → Now
forgotten n = record n { reported = None; out = None; name = None }

-- a barrier request goes out
abbrev pub asks : Now → Now
asks n = record n { asked = true; askers = n.askers ++ asker_of n ∷ []; guards = n.guards ++ n.name ∷ []; name = None }

-- the edit that the last step let out is passed in this frame
abbrev pub passes : Now → List ℕ → Now
passes n frame = record n {
  count = plus_if (is_some n.out) n.count;
  table = made_if n.out n.table;
  unsettled = with_unsettled n.out n.count frame n.table n.unsettled;
  tracks = with_track n.out n.count n.tracks;
  out = None;
}

-- an edit is unsettled no more
abbrev pub settles : ℕ → Now → Now
settles k n = record n { unsettled = without_edit k n.unsettled; tracks = without_track (Some k) n.tracks }

-- a frame for the switch sets the miss length, and changes the version where an edit goes out in it or that changed
abbrev pub follows : Now → List ℕ → Now
follows n frame = record n {
  miss = miss_after frame n.miss;
  version = plus_if (is_some n.out || not (miss_after frame n.miss == n.miss)) n.version;
}

-- a line that leaves the edits and the watch as they are, and behind which no own barrier follows
abbrev pub is_plain : Line → Bool
is_plain (Armed session datapath tag) = true
is_plain (Closed session why) = true
is_plain (Confirmed session edit serial) = false
is_plain (Fact session edit what) = not (is_barriered what)
is_plain (Watch session matching priority serial what) = false
