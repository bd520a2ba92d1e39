-- A session as it stands: what it keeps of its history, and what each entry makes of that. One function for a field.
use Rattle.std.specs.Prelude.{ℕ, ◌+◌, Bool, true, false, not, ◌==◌, ◌&&◌, ◌||◌, if◌then◌else◌, List, [], ◌∷◌, map, filter, drop, Option, Some, None, option_and_then, is_none, is_some, length}
use Rattle.mon_table.specs.declared.rule.Rule.{Rule}
use Rattle.mon_table.specs.declared.edit.Edit.{Edit}
use Rattle.mon_table.specs.declared.edit.Edit.TheVariants.{Put, Cut}
use Rattle.mon_table.specs.Rules.{Identity, identity_of}
use Rattle.mon_table.specs.Tables.{rule_of}
use Rattle.mon_table.specs.Edits.{after, edited}
use Rattle.of_msgs.specs.Layout.{datapath_of}
use Rattle.mon_barriers.specs.declared.barriers.Asker.{Asker}
use Rattle.mon_barriers.specs.declared.barriers.Asker.TheVariants as asker
use Rattle.mon_barriers.specs.declared.barriers.Reply.{Reply as Kept}
use Rattle.mon_report.specs.declared.line.Line.{Line}
use Rattle.mon_report.specs.declared.line.Line.TheVariants.{Fact, Confirmed}
use Rattle.mon_world.specs.declared.event.Side.TheVariants.{Switch}
use Rattle.mon_legal.specs.Runs.{Run}
use Rattle.mon_legal.specs.Changing.{plus_if, with_if, drop_if}
use Rattle.mon_legal.specs.Owns.{Own}
use Rattle.mon_legal.specs.Owns.Own.{Begins, From_controller, From_switch, Ticks, Judged, Neighbour, Acts, Offers, Probes, Goes_out, Sends, Reports, Ends}
use Rattle.mon_legal.specs.Owns.Act.{Closing, Reply, Plan, Step}
use Rattle.mon_legal.specs.Messages.{is_light, is_vanished, identity_gone, is_features_reply, is_barrier_request, is_barrier_reply}
use Rattle.mon_legal.specs.Barriers.{own_or_controllers, first_asker, own_edit, is_arming, is_barriered, kept_if, requests, count, named, identity_with, guards, edit_out, unanswered, is_armed, kept, just_reported}
use Rattle.mon_legal.specs.Edits.{Passed, is_number, changes_nothing, entries, unsettled, mark_reported, older, rejected_by, unsure_at}
use Rattle.mon_legal.specs.Held.{Part, Postponed, fate, with_change, without_closing, waiting, under_way, last_planned, postponed}
use Rattle.mon_legal.specs.Versions.{miss_after, miss}
use Rattle.mon_legal.specs.Probes.{Probe}
use Rattle.mon_legal.specs.Watching.{Watching, watching, begun_if, judged_if, probed_if, carried, overrun, at_tick, without_watch}
use Rattle.mon_outcome.specs.declared.emission.Emission.{Emission}
use Rattle.mon_shows.specs.declared.seen.Seen.{Seen}
use Rattle.mon_session.specs.Tracks.{Track, offered, answered_for, probed, gone_out, with_track, tracks_at, tracks_by, ticked, tracks_of}
use Rattle.mon_legal.specs.Datapaths.{from_switch, replied, datapath, catching, catching_of}
use Rattle.mon_legal.specs.Sessions.{changes}
use Rattle.mon_topo.specs.Tags.{tag_of}

pub record Now : Type 0 where
  -- whether a frame came from the switch, whether the own FEATURES_REPLY came, and the datapath that it named
  pub greeted : Bool
  pub known : Bool
  pub datapath : Option ℕ
  -- the rules by which it catches the probes of its neighbours
  pub catching : List Rule
  -- the barriers: whether one was asked for, who waits for an answer, whether the switch is armed, and the kept replies
  pub asked : Bool
  pub askers : List Asker
  pub armed : Bool
  pub kept : List Kept
  -- the edits: how many were passed, the controller's entries, and the unsettled edits, the newest first
  pub count : ℕ
  pub table : List Rule
  pub unsettled : List Passed
  -- the frames of the controller that wait, what is left of the one that was planned last with the bytes that this had, and the
  -- closings to come
  pub waiting : List (List ℕ)
  pub under_way : List Part
  pub planned : ℕ
  pub postponed : List Postponed
  -- the miss length, the jobs and the probes of each unsettled edit, and the watch
  pub miss : ℕ
  pub tracks : List Track
  pub watching : Watching
  -- what was just reported: the edit behind whose report an own barrier goes out; and the edit that the last step lets out
  pub reported : Option ℕ
  pub out : Option Edit
  -- the identity of that reported edit, and beside each asker that of its edit
  pub name : Option Identity
  pub guards : List (Option Identity)
  -- the version of the session's slot
  pub version : ℕ

-- barriers -------------------------------------------------------------------

abbrev pub greeted_after : Now → Own → Bool
greeted_after n (From_switch frame others) = true
greeted_after n o = n.greeted

abbrev pub is_reply : Now → List ℕ → Bool
is_reply n frame = not n.known && (n.greeted && is_features_reply frame)

abbrev pub known_after : Now → Own → Bool
known_after n (From_switch frame others) = n.known || (n.greeted && is_features_reply frame)
known_after n o = n.known

abbrev pub datapath_if : Bool → List ℕ → Option ℕ → Option ℕ
datapath_if true frame d = datapath_of frame
datapath_if false frame d = d

abbrev pub datapath_after : Now → Own → Option ℕ
datapath_after n (From_switch frame others) = datapath_if (is_reply n frame) frame n.datapath
datapath_after n o = n.datapath

abbrev pub tag_in : Run → Option ℕ → Option ℕ
tag_in run d = option_and_then (λ known. tag_of known run.given) d

abbrev pub catching_if : Run → Bool → List ℕ → List Rule → List Rule
catching_if run true frame t = catching_of run (tag_in run (datapath_of frame))
catching_if run false frame t = t

abbrev pub catching_after : Run → Now → Own → List Rule
catching_after run n (From_switch frame others) = catching_if run (is_reply n frame) frame n.catching
catching_after run n o = n.catching

abbrev pub asked_after : Now → Own → Bool
asked_after n (Sends Switch frame lost) = n.asked || is_barrier_request frame
asked_after n o = n.asked

abbrev pub asker_of : Now → Asker
asker_of n = if n.asked then own_or_controllers n.reported n.count else asker.Arming

abbrev pub askers_after : Now → Own → List Asker
askers_after n (Sends Switch frame lost) = with_if (is_barrier_request frame) n.askers (asker_of n)
askers_after n (From_switch frame others) = drop_if (is_barrier_reply frame) n.askers
askers_after n o = n.askers

abbrev pub answered : Now → List ℕ → Option Asker
answered n frame = if is_barrier_reply frame then first_asker n.askers else None

abbrev pub armed_after : Now → Own → Bool
armed_after n (From_switch frame others) = n.armed || is_arming (answered n frame)
armed_after n o = n.armed

abbrev pub kept_after : Now → Own → List Kept
kept_after n (From_switch frame others) = kept_if (is_barrier_reply frame) n.askers frame n.kept
kept_after n (Acts (Reply frame)) = drop 1 n.kept
kept_after n o = n.kept

abbrev pub reported_by : Line → Option ℕ
reported_by (Fact session edit what) = if is_barriered what then Some edit else None
reported_by (Confirmed session edit serial) = Some edit
reported_by line = None

abbrev pub reported_after : Now → Own → Option ℕ
reported_after n (Reports line) = reported_by line
reported_after n o = None

-- edits ----------------------------------------------------------------------

abbrev pub out_after : Own → Option Edit
out_after (Acts (Step Switch frame (Some change))) = Some change.edit
out_after (Acts (Closing edit close)) = Some close.edit
out_after o = None

abbrev pub count_after : Now → Own → ℕ
count_after n (Sends Switch frame lost) = plus_if (is_some n.out) n.count
count_after n o = n.count

abbrev pub guards_after : Now → Own → List (Option Identity)
guards_after n (Sends Switch frame lost) = with_if (is_barrier_request frame) n.guards (n.name)
guards_after n (From_switch frame others) = drop_if (is_barrier_reply frame) n.guards
guards_after n o = n.guards

-- the one current table: an edit is made, or a rejected one is taken back
abbrev pub made_if : Option Edit → List Rule → List Rule
made_if None t = t
made_if (Some x) t = after t x

-- it is taken back by what stood there as it went out, not by the old rule with which it was planned
abbrev pub reverse : Edit → Option Rule → Edit
reverse x None = Cut (edited x)
reverse x (Some old) = Put old (Some (edited x))

abbrev pub taken_back : Option Passed → List Rule → List Rule
taken_back None t = t
taken_back (Some p) t = after t (reverse p.edit p.stood)

abbrev pub edit_numbered : ℕ → List Passed → Option Passed
edit_numbered k [] = None
edit_numbered k (p ∷ before) = if is_number k p then Some p else edit_numbered k before

abbrev pub rejected_edit : List ℕ → List Passed → Option Passed
rejected_edit frame edits = option_and_then (λ k. edit_numbered k edits) (rejected_by frame edits)

-- the identity of the edit that a report names
abbrev pub identity_in : Option Passed → Option Identity
identity_in None = None
identity_in (Some p) = Some (identity_of (edited p.edit))

abbrev pub name_in : Option ℕ → List Passed → Option Identity
name_in None edits = None
name_in (Some k) edits = identity_in (edit_numbered k edits)

abbrev pub name_after : Now → Own → Option Identity
name_after n (Reports line) = name_in (reported_by line) n.unsettled
name_after n o = None

-- an entry vanishes
abbrev pub without_rule : Option Rule → List Rule → List Rule
without_rule None t = t
without_rule (Some r) t = after t (Cut r)

abbrev pub tells : Now → List ℕ → Bool
tells n frame = is_vanished frame && n.armed

abbrev pub vanishing_at : Bool → Identity → List (Option Identity) → List Passed → List Rule → Option Rule
vanishing_at true i guards edits t = unsure_at i edits guards (rule_of i t)
vanishing_at false i guards edits t = None

abbrev pub table_at : Bool → Identity → List (Option Identity) → List ℕ → List Passed → List Rule → List Rule
table_at true i guards frame edits t = without_rule (vanishing_at true i guards edits t) t
table_at false i guards frame edits t = taken_back (rejected_edit frame edits) t

abbrev pub table_after : Now → Own → List Rule
table_after n (Sends Switch frame lost) = made_if n.out n.table
table_after n (From_switch frame others) = table_at (tells n frame) (identity_gone frame) n.guards frame n.unsettled n.table
table_after n o = n.table

-- one that changes nothing is settled as it is passed
abbrev pub with_unsettled : Option Edit → ℕ → List ℕ → List Rule → List Passed → List Passed
with_unsettled None c frame t edits = edits
with_unsettled (Some x) c frame t edits =
    if changes_nothing x then edits
    else record { number = c + 1; edit = x; stood = rule_of (identity_of (edited x)) t; frame = frame; settled = false; reported = false; ticks = 0 } ∷ edits

abbrev pub without : Option ℕ → List Passed → List Passed
without None edits = edits
without (Some k) edits = filter (λ p. not (is_number k p)) edits

abbrev pub unsettled_by : Line → List Passed → List Passed
unsettled_by (Confirmed session k serial) edits = without (Some k) edits
unsettled_by (Fact session k what) edits = map (mark_reported what k) edits
unsettled_by line edits = edits

abbrev pub unsettled_at : Bool → Option ℕ → List ℕ → List Passed → List Passed
unsettled_at true settled frame edits = edits
unsettled_at false settled frame edits = without settled (without (rejected_by frame edits) edits)

abbrev pub unsettled_after : Now → Own → List Passed
unsettled_after n (Sends Switch frame lost) = with_unsettled n.out n.count frame n.table n.unsettled
unsettled_after n (From_switch frame others) = unsettled_at (tells n frame) (own_edit (answered n frame)) frame n.unsettled
unsettled_after n (Reports line) = unsettled_by line n.unsettled
unsettled_after n (Ticks version) = map older n.unsettled
unsettled_after n o = n.unsettled

-- frames -----------------------------------------------------------------

abbrev pub waiting_after : Now → Own → List (List ℕ)
waiting_after n (From_controller frame) = with_if (not (is_light frame)) n.waiting frame
waiting_after n (Acts (Plan frame)) = drop 1 n.waiting
waiting_after n o = n.waiting

-- a frame is planned over the table and the edits as they are then
abbrev pub under_way_after : Now → Own → List Part
under_way_after n (Acts (Plan frame)) = fate n.catching n.table n.unsettled frame
under_way_after n (Acts (Step to frame change)) = drop 1 n.under_way
under_way_after n o = n.under_way

abbrev pub planned_after : Now → Own → ℕ
planned_after n (Acts (Plan frame)) = length frame
planned_after n o = n.planned

abbrev pub postponed_after : Now → Own → List Postponed
postponed_after n (Acts (Step to frame change)) = with_change (n.count + 1) change n.postponed
postponed_after n (Acts (Closing edit close)) = without_closing (Some edit) n.postponed
postponed_after n (From_switch frame others) = without_closing (rejected_by frame n.unsettled) n.postponed
postponed_after n o = n.postponed

abbrev pub miss_now : Now → Own → ℕ
miss_now n (Sends Switch frame lost) = miss_after frame n.miss
miss_now n o = n.miss

-- jobs and probes ------------------------------------------------------------

abbrev pub probe_of : ℕ → ℕ → ℕ → Emission → Option Seen → Probe
probe_of serial edit version emission shows =
    record { serial = serial; edit = edit; version = version; emission = emission; shows = shows }

abbrev pub tracks_after : Run → Now → Own → List Track
tracks_after run n (Offers job edit) = map (offered edit) n.tracks
tracks_after run n (Judged job edit kind fresh) = map (answered_for edit) n.tracks
tracks_after run n (Probes serial edit version emission shows) = map (probed (probe_of serial edit version emission shows)) n.tracks
tracks_after run n (Goes_out serial near frame) = map (gone_out serial near frame) n.tracks
tracks_after run n (Sends Switch frame lost) = with_track n.out n.count n.tracks
tracks_after run n (From_switch frame others) = tracks_at (tells n frame) (own_edit (answered n frame)) frame n.unsettled n.tracks
tracks_after run n (Reports line) = tracks_by line n.tracks
tracks_after run n (Ticks version) = map (ticked run.retry_ticks version) n.tracks
tracks_after run n o = n.tracks

abbrev pub watching_after : Run → Now → Own → Watching
watching_after run n (Offers job edit) = begun_if (edit == 0) job n.table n.unsettled n.watching
watching_after run n (Judged job edit kind fresh) = judged_if (edit == 0) job fresh n.watching
watching_after run n (Probes serial edit version emission shows) = probed_if (edit == 0) (probe_of serial edit version emission shows) n.watching
watching_after run n (Goes_out serial near frame) = carried serial near frame n.watching
watching_after run n (Sends Switch frame lost) = overrun n.out n.watching
watching_after run n (Ticks version) = at_tick run version n.armed n.watching
watching_after run n (Reports line) = without_watch line n.watching
watching_after run n o = n.watching

-- the version ----------------------------------------------------------------

-- the frame rejects an edit, or tells of an entry that vanishes
abbrev pub changes_by : Now → List ℕ → Bool
changes_by n frame =
    is_some (rejected_by frame n.unsettled) || is_some (vanishing_at (tells n frame) (identity_gone frame) n.guards n.unsettled n.table)

abbrev pub version_after : Now → Own → ℕ
version_after n (Begins (Some slot)) = plus_if true n.version
version_after n Ends = plus_if true n.version
version_after n Neighbour = plus_if n.armed n.version
version_after n (From_switch frame others) = plus_if (changes_by n frame) n.version
version_after n (Sends Switch frame lost) = plus_if (is_some n.out || not (miss_after frame n.miss == n.miss)) n.version
version_after n o = n.version

-- the whole ------------------------------------------------------------------

abbrev pub step : Run → Now → Own → Now
step run n o = record {
  greeted = greeted_after n o;
  known = known_after n o;
  datapath = datapath_after n o;
  catching = catching_after run n o;
  asked = asked_after n o;
  askers = askers_after n o;
  armed = armed_after n o;
  kept = kept_after n o;
  count = count_after n o;
  table = table_after n o;
  unsettled = unsettled_after n o;
  waiting = waiting_after n o;
  under_way = under_way_after n o;
  planned = planned_after n o;
  postponed = postponed_after n o;
  miss = miss_now n o;
  tracks = tracks_after run n o;
  watching = watching_after run n o;
  reported = reported_after n o;
  out = out_after o;
  name = name_after n o;
  guards = guards_after n o;
  version = version_after n o;
}

-- a piece of a session's work, the oldest entry first
abbrev pub walked : Run → Now → List Own → Now
walked run n [] = n
walked run n (o ∷ os) = walked run (step run n o) os

abbrev pub is_some_of : {A : Type 0} → Option A → Bool
is_some_of o = not (is_none o)

-- what the history says of the session, whose slot had this version before it opened
abbrev pub now_of : Run → ℕ → List Own → Now
now_of run earlier own = record {
  greeted = not (from_switch own == 0);
  known = is_some_of (replied own);
  datapath = datapath own;
  catching = catching run own;
  asked = not (requests own == 0);
  askers = unanswered own;
  armed = is_armed own;
  kept = kept own;
  count = count own;
  table = entries own;
  unsettled = unsettled own;
  waiting = waiting own;
  under_way = under_way run own;
  planned = last_planned own;
  postponed = postponed own;
  miss = miss own;
  tracks = tracks_of run own (unsettled own);
  watching = watching run own;
  reported = just_reported own;
  out = edit_out own;
  name = identity_with (just_reported own) (named own);
  guards = guards own;
  version = earlier + changes own;
}
