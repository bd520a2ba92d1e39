-- All sessions as they stand, and what a history says of them.
use Rattle.std.specs.Prelude.{ℕ, Bool, nat_le, List, map, filter, Option, Some, None}
use Rattle.std.specs.List.{range_with_len}
use Rattle.mon_table.specs.declared.rule.Rule.{Rule}
use Rattle.mon_world.specs.declared.event.Side.TheVariants.{Controller, Switch}
use Rattle.of_frame.specs.Cut.{Pending, nothing_yet, cut}
use Rattle.mon_legal.specs.Runs.{Run}
use Rattle.mon_legal.specs.Moments.{Moment}
use Rattle.mon_legal.specs.Jobs.{Job, unanswered, openings, last_serial, last_job}
use Rattle.mon_legal.specs.Sessions.{part, open_ones, slot_of, slot_version, version, has_lost}
use Rattle.mon_legal.specs.Ordering.{stream}
use Rattle.mon_session.specs.Now.{Now, now_of}
use Rattle.mon_session.specs.Walks.{Known}
use Rattle.mon_session.specs.Beginning.{held_of}

-- an open session, the streams of its two sides as they are cut, and whether an output of it was lost
pub record Connected : Type 0 where
  pub session : Known
  pub from_controller : Pending
  pub from_switch : Pending
  pub lost : Bool

-- a job without an answer, and the slot of its session, which may have ended
pub record Waiting : Type 0 where
  pub job : Job
  pub slot : ℕ

-- the open sessions by rising number, the version of each of 64 slots, the numbers used so far, and the jobs without an answer in
-- the order of their offers
pub record State : Type 0 where
  pub sessions : List Connected
  pub versions : List ℕ
  pub openings : ℕ
  pub last_serial : ℕ
  pub last_job : ℕ
  pub jobs : List Waiting

-- a core: what its run was given, and its state
pub record Cored : Type 0 where
  pub run : Run
  pub state : State

-- what a history says ---------------------------------------------------------

abbrev pub SLOTS : ℕ
SLOTS = 64

abbrev pub slot_or : Option ℕ → ℕ
slot_or None = 0
slot_or (Some slot) = slot

-- what a session keeps, at the version of its slot
abbrev pub now_at : Run → List Moment → ℕ → Now
now_at run f s = record (now_of run 0 (part run s f)) { version = version run s f }

abbrev pub connected_at : Run → List Moment → ℕ → Connected
connected_at run f s = record {
  session = record { number = s; slot = slot_or (slot_of run s f); now = now_at run f s };
  from_controller = (cut nothing_yet (stream run s Controller f)).0;
  from_switch = (cut nothing_yet (stream run s Switch f)).0;
  lost = has_lost (part run s f);
}

abbrev pub waiting_at : Run → List Moment → Job → Waiting
waiting_at run f j = record { job = j; slot = slot_or (slot_of run j.session f) }

-- the version of each slot
abbrev pub versions_of : Run → List Moment → List ℕ
versions_of run f = map (λ slot. slot_version run slot f) (range_with_len 0 SLOTS)

abbrev pub state_of : Run → List Moment → State
state_of run f = record {
  sessions = map (connected_at run f) (open_ones run f);
  versions = versions_of run f;
  openings = openings run f;
  last_serial = last_serial run f;
  last_job = last_job run f;
  jobs = map (waiting_at run f) (unanswered f);
}

-- what a core shows -----------------------------------------------------------

-- the armed sessions by rising number, each with the entries that its controller should have on its switch
abbrev pub is_armed : Connected → Bool
is_armed c = c.session.now.armed

abbrev pub shown_of : Connected → ℕ × List Rule
shown_of c = (c.session.number, c.session.now.table)

abbrev pub armed : State → List (ℕ × List Rule)
armed core = map shown_of (filter is_armed core.sessions)

-- how many bytes of frames a session may hold before its controller is not read any more
abbrev pub GATE : ℕ
GATE = 1048576

abbrev pub is_full : Connected → Bool
is_full c = nat_le GATE (held_of c.session.now)

-- the sessions whose controller is not read, by rising number
abbrev pub gates : State → List ℕ
gates core = map (λ c. c.session.number) (filter is_full core.sessions)
