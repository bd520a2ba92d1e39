-- What `replay` writes.
use Rattle.std.specs.Prelude.{◌≡◌, ℕ, List, [], ◌∷◌, ◌++◌, Some, Ok, ◌⊎◌, reverse}
use Rattle.mon_world.specs.declared.event.Event.TheVariants.{Stop}
use Rattle.mon_world.specs.declared.history.Entry.{Entry}
use Rattle.mon_world.specs.Logs.{inputs}
use Rattle.mon_core.specs.History.{Legal, LegalSoFar}
use Rattle.mon_table.specs.declared.rule.Rule.{Rule}
use Rattle.mon_core.specs.Streams.{AtTurnEnds, IsPassed, armed_in}
use Rattle.mon_text.specs.BadLines.{IsFirstBadLine}
use Rattle.mon_trace.specs.Broken.{IsTrace}
use Rattle.mon_trace.specs.Grammar.{Traced, trace_of}
use Rattle.mon_trace.specs.Run.{text, events_of, LosesBy, WasBad}
use Rattle.mon_trace.specs.ToCome.{first_other}
use Rattle.mon_rule_line.specs.TableLines.{table_lines}
use Rattle.monocle.specs.Planning.{Contents}

-- the history of a run of this trace, its events in order and then Stop: at each turn's end each frame that came had its
-- fate, in order, and nothing else was put, and a session was ended exactly at the first fault; frames are lost as it says
pub record IsRunOf (t : Traced) (h : List Entry) : Type 0 where
  pub given : inputs h ≡ Stop ∷ reverse (events_of t)
  pub legal : Legal h
  pub passed : AtTurnEnds IsPassed h
  pub loses : LosesBy t h

-- a line for each entry of the tables of these sessions
abbrev pub lines_of_tables : List (ℕ × List Rule) → List ℕ
lines_of_tables [] = []
lines_of_tables (armed ∷ others) = table_lines armed.0 armed.1 ++ lines_of_tables others

-- the text of a history, and behind it the expected entries of each session that has not ended, by rising number and in
-- table order
abbrev pub answer_of : Traced → List Entry → List ℕ
answer_of t h = text t h ++ lines_of_tables (armed_in h)

-- a file of this name was there
abbrev pub IsFile : Contents → List ℕ → Type 0
IsFile files name = (content : List ℕ) × (files name ≡ Some content)

-- the file of this name is this trace; the settings were there
abbrev pub IsTraceFile : Contents → List ℕ → List ℕ → Traced → Type 0
IsTraceFile files settings name traced = IsFile files settings × ((content : List ℕ) × (files name ≡ Some content) × (trace_of content ≡ Ok traced))

-- the file of this name is no trace, and its first bad line begins at the offset; the settings were there
abbrev pub IsNoTrace : Contents → List ℕ → List ℕ → ℕ → Type 0
IsNoTrace files settings name offset = IsFile files settings × ((content : List ℕ) × (files name ≡ Some content) × IsFirstBadLine IsTrace content offset)

-- the first record that a replay does not follow yet begins at the offset; or one there could not be given in a run
abbrev pub IsUnfollowed : Traced → ℕ → Type 0
IsUnfollowed t offset = (first_other t.events ≡ Some offset) ⊎ ((log : List Entry) × LegalSoFar log × WasBad t offset log)

-- the file of this name can't be run from a line on
abbrev pub CantRun : Contents → List ℕ → List ℕ → ℕ → Type 0
CantRun files settings name offset =
    IsNoTrace files settings name offset ⊎ ((traced : Traced) × IsTraceFile files settings name traced × IsUnfollowed traced offset)

-- what a replay of the files of these names writes: what a run of the trace gives
abbrev pub IsReplay : Contents → List ℕ → List ℕ → List ℕ → Type 0
IsReplay files settings name bytes =
    (traced : Traced) × IsTraceFile files settings name traced × ((h : List Entry) × IsRunOf traced h × (bytes ≡ answer_of traced h))
