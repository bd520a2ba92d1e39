-- What a history says of all its sessions: their slots, their ends, and what each of them sees.
use Rattle.std.specs.Prelude.{ℕ, zero, suc, ◌+◌, Bool, true, false, not, ◌==◌, nat_lt, ◌&&◌, ◌||◌, if◌then◌else◌, List, [], ◌∷◌, ◌++◌, filter, find, slice_index, Option, Some, None, option_map}
use Rattle.std.specs.List.{list_any, cons_option, AllByRecursion}
use Rattle.mon_topo.specs.declared.topology.Link.{Link}
use Rattle.mon_topo.specs.declared.topology.Topology.{Topology}
use Rattle.mon_topo.specs.Tags.{tag_of}
use Rattle.mon_outcome.specs.declared.emission.Emission.{Emission}
use Rattle.mon_shows.specs.declared.near.Near.{Near}
use Rattle.mon_shows.specs.declared.seen.Seen.{Seen}
use Rattle.mon_shows.specs.Views.{Viewing, observed}
use Rattle.mon_fields.specs.Fields.{number_at}
use Rattle.mon_header.specs.declared.header.Header.{Header}
use Rattle.mon_packet.specs.declared.nonce.Nonce.{Nonce}
use Rattle.mon_packet.specs.Reading.{Read}
use Rattle.mon_world.specs.declared.event.Side.{Side}
use Rattle.mon_world.specs.declared.event.Side.TheVariants.{Controller, Switch}
use Rattle.mon_world.specs.declared.event.Event.{Event}
use Rattle.mon_world.specs.declared.event.Event.TheVariants.{Opened, Closed, Tick}
use Rattle.mon_world.specs.declared.event.Kind.{Kind}
use Rattle.mon_world.specs.declared.event.Note.{Note}
use Rattle.mon_world.specs.declared.event.Note.TheVariants.{Offer, Verdict, Probe, Report}
use Rattle.mon_world.specs.declared.history.Entry.{Entry}
use Rattle.mon_world.specs.declared.history.Entry.TheVariants.{Given, Noted, Put, End}
use Rattle.mon_report.specs.declared.line.Line.{Line}
use Rattle.mon_report.specs.declared.line.Line.TheVariants.{Armed, Confirmed, Fact, Watch}
use Rattle.mon_report.specs.declared.line.Line.TheVariants as line
use Rattle.mon_legal.specs.Runs.{Run}
use Rattle.mon_legal.specs.Changing.{plus_if, only}
use Rattle.mon_legal.specs.Owns.{Own}
use Rattle.mon_legal.specs.Owns.Own.{Begins, From_controller, From_switch, Breaks, Closes, Ticks, Returns, Judged, Neighbour, Acts, Offers, Probes, Goes_out, Sends, Carries, Reports, Ends}
use Rattle.mon_legal.specs.Messages.{is_features_reply, is_barrier_reply, carried_in}
use Rattle.mon_legal.specs.Barriers.{is_armed, answered_by, is_arming}
use Rattle.mon_legal.specs.Versions.{miss, is_change}
use Rattle.mon_legal.specs.Datapaths.{datapath, tag}
use Rattle.mon_legal.specs.Moments.{Moment}
use Rattle.mon_legal.specs.Moments.Moment.{Is, Went, Came, Broke, Did}
use Rattle.mon_legal.specs.Jobs.{Job, job_of, openings}

-- slots ----------------------------------------------------------------------

-- a session and its slot
pub record Placed : Type 0 where
  pub session : ℕ
  pub slot : ℕ

abbrev pub is_taken : List Placed → ℕ → Bool
is_taken placed slot = list_any (λ p. p.slot == slot) placed

-- the least of so many slots from a first one on that is free
abbrev pub least_free : ℕ → ℕ → List Placed → Option ℕ
least_free zero slot placed = None
least_free (suc n) slot placed = if is_taken placed slot then least_free n (slot + 1) placed else Some slot

abbrev pub with_slot : ℕ → Option ℕ → List Placed → List Placed
with_slot session None placed = placed
with_slot session (Some slot) placed = record { session = session; slot = slot } ∷ placed

-- the open sessions that have a slot, the newest first. A session takes the least slot below 64 that is free
abbrev pub open_with_slot : Run → List Moment → List Placed
open_with_slot run [] = []
open_with_slot run (Is (Given Opened) ∷ f) =
    with_slot (openings run f) (least_free 64 0 (open_with_slot run f)) (open_with_slot run f)
open_with_slot run (Is (End s) ∷ f) = filter (λ p. not (p.session == s)) (open_with_slot run f)
open_with_slot run (m ∷ f) = open_with_slot run f

-- the slot that the next opening gets
abbrev pub next_slot : Run → List Moment → Option ℕ
next_slot run f = least_free 64 0 (open_with_slot run f)

-- the slot that a session was given, also after its end
abbrev pub slot_of : Run → ℕ → List Moment → Option ℕ
slot_of run s [] = None
slot_of run s (Is (Given Opened) ∷ f) = if openings run f == s then next_slot run f else slot_of run s f
slot_of run s (m ∷ f) = slot_of run s f

-- what one session sees ------------------------------------------------------

-- what each session has seen so far, by number
abbrev pub Parts : Type 0
Parts = ℕ → List Own

abbrev pub has_ended : List Own → Bool
has_ended [] = false
has_ended (Ends ∷ before) = true
has_ended (o ∷ before) = has_ended before

-- it was opened, and has not ended
abbrev pub is_open : List Own → Bool
is_open [] = false
is_open (o ∷ before) = not (has_ended (o ∷ before))

-- seen where the session is open
abbrev pub if_open : Parts → ℕ → List Own → List Own
if_open parts s [] = []
if_open parts s (o ∷ os) = only (is_open (parts s)) (o ∷ os)

-- the switches are the two ends of a link
abbrev pub are_linked : Topology → Option ℕ → Option ℕ → Bool
are_linked t (Some a) (Some b) = list_any (λ l. ((l.a == a) && (l.b == b)) || ((l.a == b) && (l.b == a))) t.links
are_linked t a b = false

-- a session of a linked switch came or went
abbrev pub neighbour_if : Run → Parts → ℕ → ℕ → Bool → List Own
neighbour_if run parts s r true =
    only (not (s == r) && are_linked run.topology (datapath (parts s)) (datapath (parts r))) (Neighbour ∷ [])
neighbour_if run parts s r false = []

-- the switch's frame arms its session
abbrev pub arms_if : Bool → Parts → ℕ → List ℕ → Bool
arms_if true parts r frame = is_arming (answered_by (parts r) frame)
arms_if false parts r frame = false

abbrev pub arms : Parts → ℕ → Side → List ℕ → Bool
arms parts r Controller frame = false
arms parts r Switch frame = arms_if (is_barrier_reply frame) parts r frame

-- a PACKET_IN that bears a probe of this run, and what it shows of a switch
abbrev pub seen_at : ℕ → List ℕ → Header → Seen
seen_at d frame h = record {
  switch = d;
  port = number_at 2 14 frame;
  reason = slice_index frame 16;
  header = record h { in_port = number_at 2 14 frame };
}

abbrev pub returns_with : ℕ → Option ℕ → List ℕ → Header → Option Nonce → List Own
returns_with key (Some d) frame h (Some n) = only (n.key == key) (Returns n.serial (seen_at d frame h) ∷ [])
returns_with key d frame h n = []

abbrev pub returns_in : ℕ → Parts → ℕ → List ℕ → Read → List Own
returns_in key parts r frame None = []
returns_in key parts r frame (Some found) = returns_with key (datapath (parts r)) frame found.0 found.1

-- every open session sees a return, whichever switch it comes from
abbrev pub returned : Run → Parts → ℕ → Side → List ℕ → List Own
returned run parts r Controller frame = []
returned run parts r Switch frame = returns_in run.key parts r frame (carried_in frame)

-- versions and views ---------------------------------------------------------

-- how often the session changed the version of its slot
abbrev pub changes : List Own → ℕ
changes [] = 0
changes (o ∷ before) = plus_if (is_change before o) (changes before)

-- all sessions that were given a slot, the newest first
abbrev pub placements : Run → List Moment → List Placed
placements run [] = []
placements run (Is (Given Opened) ∷ f) = with_slot (openings run f) (next_slot run f) (placements run f)
placements run (m ∷ f) = placements run f

abbrev pub sum_changes : Parts → ℕ → List Placed → ℕ
sum_changes parts slot [] = 0
sum_changes parts slot (p ∷ placed) =
    (if p.slot == slot then changes (parts p.session) else 0) + sum_changes parts slot placed

-- the version of a slot: how often all its sessions changed it
abbrev pub version_in : Run → Parts → ℕ → List Moment → ℕ
version_in run parts slot f = sum_changes parts slot (placements run f)

abbrev pub version_or : Run → Parts → Option ℕ → List Moment → ℕ
version_or run parts None f = 0
version_or run parts (Some slot) f = version_in run parts slot f

-- and that of a session's slot
abbrev pub version_for : Run → Parts → ℕ → List Moment → ℕ
version_for run parts s f = version_or run parts (slot_of run s f) f

-- the open session of a datapath
abbrev pub is_named : ℕ → Option ℕ → Bool
is_named d None = false
is_named d (Some other) = other == d

abbrev pub is_session_of : Parts → ℕ → Placed → Bool
is_session_of parts d p = is_named d (datapath (parts p.session))

abbrev pub session_with : Parts → List Placed → ℕ → Option ℕ
session_with parts placed d = option_map (λ p. p.session) (find (is_session_of parts d) placed)

abbrev pub is_armed_one : Parts → Option ℕ → Bool
is_armed_one parts None = false
is_armed_one parts (Some r) = is_armed (parts r)

-- the other end of a link of a switch
abbrev pub near_with : ℕ → ℕ → ℕ → Option ℕ → Option Near
near_with port far far_port None = None
near_with port far far_port (Some t) = Some (record { port = port; switch = far; far_port = far_port; tag = t })

abbrev pub near_of : Run → ℕ → Link → Option Near
near_of run d l =
    if l.a == d then near_with l.a_port l.b l.b_port (tag_of l.b run.given)
    else (if l.b == d then near_with l.b_port l.a l.a_port (tag_of l.a run.given) else None)

-- by ascending port
abbrev pub by_port : Near → List Near → List Near
by_port n [] = n ∷ []
by_port n (m ∷ links) = if nat_lt n.port m.port then n ∷ m ∷ links else m ∷ by_port n links

abbrev pub with_near : Parts → List Placed → Option Near → List Near → List Near
with_near parts placed None links = links
with_near parts placed (Some n) links = if is_armed_one parts (session_with parts placed n.switch) then by_port n links else links

-- the links to neighbours whose sessions are armed
abbrev pub links_to_armed : Run → Parts → List Placed → ℕ → List Link → List Near
links_to_armed run parts placed d [] = []
links_to_armed run parts placed d (l ∷ ls) = with_near parts placed (near_of run d l) (links_to_armed run parts placed d ls)

abbrev pub number_or : Option ℕ → ℕ
number_or None = 0
number_or (Some n) = n

-- the view of a session whose datapath is known
abbrev pub view_in : Run → Parts → List Placed → ℕ → Viewing
view_in run parts placed s = record {
  switch = number_or (datapath (parts s));
  tag = number_or (tag run (parts s));
  tags = run.in_use;
  links = links_to_armed run parts placed (number_or (datapath (parts s))) run.topology.links;
  miss = miss (parts s);
}

-- the datapaths of the other open sessions
abbrev pub other_datapaths : Parts → ℕ → List Placed → List ℕ
other_datapaths parts r [] = []
other_datapaths parts r (p ∷ placed) =
    if p.session == r then other_datapaths parts r placed else cons_option (datapath (parts p.session)) (other_datapaths parts r placed)

-- what a session sees of a moment --------------------------------------------

-- the turn is that of a tick
abbrev pub is_tick : Option Moment → Bool
is_tick (Some (Is (Given Tick))) = true
is_tick other = false

-- the session of which a line tells
abbrev pub session_in : Line → ℕ
session_in (Armed session datapath tag) = session
session_in (line.Closed session why) = session
session_in (Confirmed session edit serial) = session
session_in (Fact session edit what) = session
session_in (Watch session matching priority serial what) = session

abbrev pub judged_if : Bool → Run → Parts → List Moment → Job → Kind → List Own
judged_if true run parts f job kind = Judged job.number job.edit kind (job.version == version_for run parts job.session f) ∷ []
judged_if false run parts f job kind = []

abbrev pub judged_as : Run → Parts → ℕ → List Moment → Option Job → Kind → List Own
judged_as run parts s f None kind = []
judged_as run parts s f (Some job) kind = judged_if (job.session == s) run parts f job kind

abbrev pub probed_if : Bool → Run → Parts → List Moment → ℕ → Job → Emission → List Own
probed_if true run parts f serial job e =
    Probes serial job.edit (version_for run parts job.session f) e (observed (view_in run parts (open_with_slot run f) job.session) e) ∷ []
probed_if false run parts f serial job e = []

abbrev pub probed_as : Run → Parts → ℕ → List Moment → ℕ → Option Job → Emission → List Own
probed_as run parts s f serial None e = []
probed_as run parts s f serial (Some job) e = probed_if (job.session == s) run parts f serial job e

abbrev pub of_event : Run → Parts → ℕ → List Moment → Event → List Own
of_event run parts s f (Closed r) = only (r == s) (Closes ∷ [])
of_event run parts s f Tick = Ticks (version_for run parts s f) ∷ []
of_event run parts s f event = []

abbrev pub of_note : Run → Parts → ℕ → List Moment → Note → List Own
of_note run parts s f (Offer j r k v) = only (r == s) (Offers j k ∷ [])
of_note run parts s f (Verdict j kind) = judged_as run parts s f (job_of j f) kind
of_note run parts s f (Probe n j e) = probed_as run parts s f n (job_of j f) e
of_note run parts s f (Report l) = []

abbrev pub of_entry : Run → Parts → ℕ → List Moment → Entry → List Own
of_entry run parts s f (Given event) = of_event run parts s f event
of_entry run parts s f (Noted note) = of_note run parts s f note
of_entry run parts s f (Put r to frame lost) = only (r == s) (Sends to frame lost ∷ [])
of_entry run parts s f (End r) = only (r == s) (Ends ∷ []) ++ neighbour_if run parts s r (is_armed (parts r))

abbrev pub others_if : Bool → Parts → ℕ → List Placed → List ℕ
others_if true parts r placed = other_datapaths parts r placed
others_if false parts r placed = []

-- the datapaths of the other sessions count at a FEATURES_REPLY alone
abbrev pub of_frame : Bool → Run → Parts → ℕ → List Moment → Side → List ℕ → List Own
of_frame false run parts r f side frame = []
of_frame true run parts r f Controller frame = From_controller frame ∷ []
of_frame true run parts r f Switch frame =
    From_switch frame (others_if (is_features_reply frame) parts r (open_with_slot run f)) ∷ []

-- what else a session sees while it is open, the newest first: a return is seen after the frame that brings it
abbrev pub sees : Run → Parts → ℕ → List Moment → Moment → List Own
sees run parts s f (Is entry) = of_entry run parts s f entry
sees run parts s f (Went r serial near frame lost) = only (near == s) (Carries lost ∷ []) ++ only (r == s) (Goes_out serial near frame ∷ [])
sees run parts s f (Came r side frame) =
    neighbour_if run parts s r (arms parts r side frame) ++ (returned run parts r side frame ++ of_frame (r == s) run parts r f side frame)
sees run parts s f (Broke r side fault) = only (r == s) (Breaks fault ∷ [])
sees run parts s f (Did r act) = only (r == s) (Acts act ∷ [])

-- it takes note of a report on it: of the one on its end once it has ended, and of all others while it is open
abbrev pub hears : Line → List Own → Bool
hears (line.Closed session why) own = has_ended own
hears l own = is_open own

-- its opening, and the reports on it
abbrev pub begun : Run → Parts → ℕ → List Moment → Moment → List Own
begun run parts s f (Is (Given Opened)) = only (openings run f == s) (Begins (next_slot run f) ∷ [])
begun run parts s f (Is (Noted (Report l))) = only ((session_in l == s) && hears l (parts s)) (Reports l ∷ [])
begun run parts s f m = []

abbrev pub own : Run → Parts → ℕ → List Moment → Moment → List Own
own run parts s f m = begun run parts s f m ++ if_open parts s (sees run parts s f m)

-- all that a session has seen, the newest first
abbrev pub part : Run → ℕ → List Moment → List Own
part run s [] = []
part run s (m ∷ f) = own run (λ r. part run r f) s f m ++ part run s f

-- facts of a session in a history --------------------------------------------

abbrev pub parts_of : Run → List Moment → Parts
parts_of run f s = part run s f

abbrev pub version : Run → ℕ → List Moment → ℕ
version run s f = version_for run (parts_of run f) s f

abbrev pub slot_version : Run → ℕ → List Moment → ℕ
slot_version run slot f = version_in run (parts_of run f) slot f

abbrev pub view : Run → ℕ → List Moment → Viewing
view run s f = view_in run (parts_of run f) (open_with_slot run f) s

-- the sessions that were opened, by rising number
abbrev pub opened : Run → List Moment → List ℕ
opened run [] = []
opened run (Is (Given Opened) ∷ f) = opened run f ++ openings run f ∷ []
opened run (m ∷ f) = opened run f

-- the open sessions, by rising number
abbrev pub open_ones : Run → List Moment → List ℕ
open_ones run f = filter (λ s. is_open (part run s f)) (opened run f)

-- a fact holds of every open session: of one that ended nothing is asked any more
abbrev pub OfEach : Run → List Moment → (ℕ → Type 0) → Type 0
OfEach run f P = AllByRecursion P (open_ones run f)

-- an output of the open session was lost
abbrev pub lost_one : List Own → Bool
lost_one [] = false
lost_one (Sends to frame lost ∷ before) = lost || lost_one before
lost_one (Carries lost ∷ before) = lost || lost_one before
lost_one (o ∷ before) = lost_one before

abbrev pub has_lost : List Own → Bool
has_lost own = is_open own && lost_one own
