-- What a frame of the switch makes of a session, by its kind.
use Rattle.std.specs.Prelude.{ℕ, ◌+◌, true, ◌||◌, List, drop, Option, Some, None, is_some}
use Rattle.of_msgs.specs.Layout.{datapath_of}
use Rattle.mon_table.specs.declared.rule.Rule.{Rule}
use Rattle.mon_barriers.specs.Barriers.{replies_with}
use Rattle.mon_legal.specs.Changing.{plus_if}
use Rattle.mon_legal.specs.Runs.{Run}
use Rattle.mon_legal.specs.Datapaths.{catching_of}
use Rattle.mon_legal.specs.Messages.{identity_gone, catching_table}
use Rattle.mon_legal.specs.Barriers.{first_asker, own_edit, is_arming}
use Rattle.mon_legal.specs.Edits.{rejected_by}
use Rattle.mon_legal.specs.Held.{without_closing}
use Rattle.mon_session.specs.Tracks.{without_track}
use Rattle.mon_session.specs.Passing.{without_edit}
use Rattle.mon_session.specs.Now.{Now, tag_in, tells, vanishing_at, without, rejected_edit, edit_numbered, taken_back, without_rule}

-- it changes nothing else
abbrev pub greets : Now → Now
greets n = record n { greeted = true; reported = None; out = None; name = None }

-- it is the own FEATURES_REPLY
abbrev pub replies : Run → List ℕ → Now → Now
replies run frame n =
    record (greets n) { known = true; datapath = datapath_of frame; catching = catching_of run (tag_in run (datapath_of frame)) }

-- it answers the oldest barrier
abbrev pub answers : List ℕ → Now → Now
answers frame n = record (greets n) {
  askers = drop 1 n.askers;
  armed = n.armed || is_arming (first_asker n.askers);
  kept = replies_with n.askers frame n.kept;
  unsettled = without (own_edit (first_asker n.askers)) n.unsettled;
  tracks = without_track (own_edit (first_asker n.askers)) n.tracks;
  guards = drop 1 n.guards;
}

-- an edit is rejected: what stood in its place comes back
abbrev pub rejects_edit : ℕ → Now → Now
rejects_edit k n = record n {
  table = taken_back (edit_numbered k n.unsettled) n.table;
  unsettled = without_edit k n.unsettled;
  tracks = without_track (Some k) n.tracks;
  version = n.version + 1;
}

-- it is an ERROR, which may reject an edit
abbrev pub rejects : List ℕ → Now → Now
rejects frame n = record (greets n) {
  table = taken_back (rejected_edit frame n.unsettled) n.table;
  unsettled = without (rejected_by frame n.unsettled) n.unsettled;
  tracks = without_track (rejected_by frame n.unsettled) n.tracks;
  postponed = without_closing (rejected_by frame n.unsettled) n.postponed;
  version = plus_if (is_some (rejected_by frame n.unsettled)) n.version;
}

-- the entry of which it tells that it vanished
abbrev pub vanishing : Now → List ℕ → Option Rule
vanishing n frame = vanishing_at (tells n frame) (identity_gone frame) n.guards n.unsettled n.table

-- an entry vanishes, or none does
abbrev pub vanishes : Option Rule → Now → Now
vanishes gone n = record n { table = without_rule gone n.table; version = plus_if (is_some gone) n.version }

-- it is a FLOW_REMOVED, which may tell of one
abbrev pub loses : List ℕ → Now → Now
loses frame n = vanishes (vanishing n frame) (greets n)

-- the own FEATURES_REPLY names this datapath, with this tag
abbrev pub knows : ℕ → ℕ → List ℕ → Now → Now
knows datapath tag in_use n =
    record (greets n) { known = true; datapath = Some datapath; catching = catching_table tag in_use }

-- a barrier reply, before what it answers has its effect
abbrev pub answered_by : List ℕ → Now → Now
answered_by frame n = record (greets n) { askers = drop 1 n.askers; kept = replies_with n.askers frame n.kept; guards = drop 1 n.guards }
