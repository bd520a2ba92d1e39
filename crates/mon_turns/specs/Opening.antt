-- What an opening makes of the state.
use Rattle.std.specs.Prelude.{ℕ, ◌+◌, ◌-◌, ◌^◌, ◌<◌, false, List, [], ◌∷◌, ◌++◌, length, slice_set, Option, Some, None}
use Rattle.of_frame.specs.Cut.{nothing_yet}
use Rattle.mon_world.specs.Crews.{version_at}
use Rattle.mon_world.specs.declared.event.Note.TheVariants.{Report}
use Rattle.mon_world.specs.declared.history.Entry.{Entry}
use Rattle.mon_world.specs.declared.history.Entry.TheVariants.{End, Noted}
use Rattle.mon_report.specs.declared.line.Line.TheVariants.{Closed}
use Rattle.mon_report.specs.declared.line.Cause.TheVariants.{TooMany}
use Rattle.mon_legal.specs.Runs.{Run}
use Rattle.mon_legal.specs.Moments.{Moment}
use Rattle.mon_legal.specs.Sessions.{opened}
use Rattle.mon_session.specs.Beginning as session
use Rattle.mon_turns.specs.Core.{Connected, State}

-- each session that was opened has a number of its own
abbrev pub HasRoom : Run → List Moment → Type 0
HasRoom run f = run.openings + length (opened run f) < 2 ^ 64

-- a session that was just opened, at this version of its slot
abbrev pub begun : ℕ → ℕ → ℕ → Connected
begun number slot version = record {
  session = session.opened number slot version;
  from_controller = nothing_yet;
  from_switch = nothing_yet;
  lost = false;
}

-- the next session opens in a slot, whose version rises by one
abbrev pub opened_in : ℕ → State → State
opened_in slot core = record core {
  sessions = core.sessions ++ begun core.openings slot (version_at slot core.versions + 1) ∷ [];
  versions = slice_set core.versions slot (version_at slot core.versions + 1);
  openings = core.openings + 1;
}

-- no slot was free: the session was ended at once, and only its number is used
abbrev pub refused : State → State
refused core = record core { openings = core.openings + 1 }

-- the next session opens, by the slot that is free
abbrev pub opening : Option ℕ → State → State
opening None core = refused core
opening (Some slot) core = opened_in slot core

-- the entries behind it: one without a slot is ended
abbrev pub opening_entries : Option ℕ → ℕ → List Entry → List Entry
opening_entries None number h = Noted (Report (Closed number TooMany)) ∷ End number ∷ h
opening_entries (Some slot) number h = h

-- a number is there for the session, and one for the version of its slot
abbrev pub MayOpen : Option ℕ → State → Type 0
MayOpen None core = core.openings < 2 ^ 64 - 1
MayOpen (Some slot) core = (core.openings < 2 ^ 64 - 1) × (version_at slot core.versions < 2 ^ 64 - 1)
