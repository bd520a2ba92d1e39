-- A run of a trace: what was given and taken, and its text.
use Rattle.std.specs.Prelude.{ℕ, zero, suc, ◌≡◌, ◌<◌, ◌≤◌, ◌+◌, ◌-◌, Bool, true, false, nat_lt, List, [], ◌∷◌, ◌++◌, length, map, Contains, Option, Some, None, codes, decimal}
use Rattle.std.specs.List.{slice_get}
use Rattle.mon_report.specs.Lines.{text_of}
use Rattle.mon_world.specs.declared.event.Side.{Side}
use Rattle.mon_world.specs.declared.event.Side.TheVariants.{Controller, Switch}
use Rattle.mon_world.specs.declared.event.Event.{Event}
use Rattle.mon_world.specs.declared.event.Event.TheVariants.{Stop, Piece, Answer}
use Rattle.mon_world.specs.declared.event.Kind.{Kind}
use Rattle.mon_world.specs.declared.event.Kind.TheVariants as kind
use Rattle.mon_world.specs.declared.event.Note.{Note}
use Rattle.mon_world.specs.declared.event.Note.TheVariants.{Offer, Verdict, Probe, Report}
use Rattle.mon_world.specs.declared.event.Out.{Out}
use Rattle.mon_world.specs.declared.event.Out.TheVariants.{Send, Close}
use Rattle.mon_world.specs.declared.history.Entry.{Entry}
use Rattle.mon_world.specs.declared.history.Entry.TheVariants.{Given, Noted, Put, End}
use Rattle.mon_world.specs.Logs.{inputs}
use Rattle.mon_text.specs.Hex.{hex}
use Rattle.mon_trace.specs.Grammar.{Recorded, Traced}

abbrev pub the_event : Recorded → Event
the_event r = r.event

-- the events of a trace
abbrev pub events_of : Traced → List Event
events_of t = map the_event t.events

-- where a record begins, and how many `lose` records stand before it
abbrev pub mark_of : Recorded → ℕ × ℕ
mark_of r = (r.offset, r.losing)

-- a record's event, and Stop behind the last record
abbrev pub event_or_stop : Option Recorded → Event
event_or_stop None = Stop
event_or_stop (Some r) = r.event

-- how many `lose` records stand before a record, or behind the last record how many there are
abbrev pub losing_or : ℕ → Option Recorded → ℕ
losing_or all None = all
losing_or all (Some r) = r.losing

-- the n-th input of a run, counted from 0: those of the trace, and then Stop
abbrev pub event_at : List Recorded → ℕ → Event
event_at events n = event_or_stop (slice_get events n)

-- how many `lose` records stand before the record of the n-th input, counted from 1; none before any
abbrev pub losing_at : List Recorded → ℕ → ℕ → ℕ
losing_at events all zero = 0
losing_at events all (suc n) = losing_or all (slice_get events n)

abbrev pub losing_before : Traced → ℕ → ℕ
losing_before t n = losing_at t.events t.losing n

-- the inputs so far, the newest first, are those of the trace in order
abbrev pub AreGiven : List Recorded → List Event → Type 0
AreGiven events [] = Unit {0}
AreGiven events (event ∷ before) = (event ≡ event_at events (length before)) × AreGiven events before

-- the number of the record that is handled: records are events, or lose
abbrev pub number_of : Traced → List Entry → ℕ
number_of t h = length (inputs h) + losing_before t (length (inputs h))

-- a frame may be lost, and no end of a session
abbrev pub is_lost : Out → Bool → Bool
is_lost (Send session to frame) losing = losing
is_lost (Close session) losing = false

abbrev pub lost_after : Bool → ℕ → ℕ
lost_after true lost = lost + 1
lost_after false lost = lost

-- how many outputs were lost
abbrev pub lost_in : List Entry → ℕ
lost_in [] = 0
lost_in (Put session to frame true ∷ h) = lost_in h + 1
lost_in (entry ∷ h) = lost_in h

-- a frame is lost exactly where more `lose` records stand before the record that is handled than outputs were lost before it
abbrev pub LosesBy : Traced → List Entry → Type 0
LosesBy t [] = Unit {0}
LosesBy t (Put session to frame lost ∷ h) = (lost ≡ nat_lt (lost_in h) (losing_before t (length (inputs h)))) × LosesBy t h
LosesBy t (entry ∷ h) = LosesBy t h

-- how many jobs have no verdict after a note
abbrev pub jobs_after : Note → ℕ → ℕ
jobs_after (Offer job session edit version) jobs = jobs + 1
jobs_after (Verdict job k) jobs = jobs - 1
jobs_after note jobs = jobs

-- how many jobs have no verdict
abbrev pub unanswered : List Entry → ℕ
unanswered [] = 0
unanswered (Noted note ∷ h) = jobs_after note (unanswered h)
unanswered (entry ∷ h) = unanswered h

-- the event can't be given: it is a piece of a controller whose session is gated, or an answer of a job that is not there
abbrev pub IsRefused : List ℕ → ℕ → Event → Type 0
IsRefused gates jobs (Piece session Controller bytes) = Contains gates session
IsRefused gates jobs (Answer index) = jobs ≤ index
IsRefused gates jobs event = ⊥

abbrev pub side_name : Side → List ℕ
side_name Controller = codes "controller"
side_name Switch = codes "switch"

abbrev pub put_word : Bool → List ℕ
put_word true = codes " lost "
put_word false = codes " put "

-- a line begins with the number of the record that is handled
abbrev pub put_head : ℕ → ℕ → Side → Bool → List ℕ
put_head number session to lost = decimal number ++ (put_word lost ++ (decimal session ++ (codes " " ++ (side_name to ++ codes " "))))

abbrev pub put_line : ℕ → ℕ → Side → List ℕ → Bool → List ℕ
put_line number session to frame lost = put_head number session to lost ++ (hex frame ++ 10 ∷ [])

abbrev pub end_line : ℕ → ℕ → List ℕ
end_line number session = decimal number ++ (codes " end " ++ (decimal session ++ 10 ∷ []))

abbrev pub kind_name : Kind → List ℕ
kind_name kind.Probe = codes "probe"
kind_name kind.Indistinguishable = codes "indistinguishable"
kind_name kind.Skipped = codes "skipped"

-- a number behind a word
abbrev pub counted_by : List ℕ → ℕ → List ℕ
counted_by word n = word ++ decimal n

abbrev pub offer_words : ℕ → ℕ → ℕ → ℕ → List ℕ
offer_words job session edit version =
    counted_by (codes " offer ") job ++ (counted_by (codes " ") session ++ (counted_by (codes " ") edit ++ counted_by (codes " ") version))

abbrev pub verdict_words : ℕ → Kind → List ℕ
verdict_words job k = counted_by (codes " verdict ") job ++ (codes " " ++ kind_name k)

abbrev pub probe_words : ℕ → ℕ → List ℕ
probe_words serial job = counted_by (codes " probe ") serial ++ counted_by (codes " ") job

-- what a note says
abbrev pub note_words : Note → List ℕ
note_words (Offer job session edit version) = offer_words job session edit version
note_words (Verdict job k) = verdict_words job k
note_words (Probe serial job emission) = probe_words serial job
note_words (Report line) = codes " line " ++ text_of line

abbrev pub note_line : ℕ → Note → List ℕ
note_line number note = decimal number ++ (note_words note ++ 10 ∷ [])

-- the line of an entry; an input has none
abbrev pub line_of : ℕ → Entry → List ℕ
line_of number (Given event) = []
line_of number (Noted note) = note_line number note
line_of number (Put session to frame lost) = put_line number session to frame lost
line_of number (End session) = end_line number session

-- the text of a history: a line for each entry that is no input, with the number of the record that is handled
abbrev pub text : Traced → List Entry → List ℕ
text t [] = []
text t (Given event ∷ h) = text t h
text t (Noted note ∷ h) = text t h ++ line_of (number_of t h) (Noted note)
text t (Put session to frame lost ∷ h) = text t h ++ line_of (number_of t h) (Put session to frame lost)
text t (End session ∷ h) = text t h ++ line_of (number_of t h) (End session)

-- where the record begins that is handled next, and its event
abbrev pub IsNextBad : Traced → List ℕ → ℕ → List Entry → Type 0
IsNextBad t gates offset h =
    (r : Recorded) × (slice_get t.events (length (inputs h)) ≡ Some r) × (r.offset ≡ offset) × IsRefused gates (unanswered h) r.event

-- the record at the offset could not be given behind an earlier history, with these gates
pub record WasBad (t : Traced) (offset : ℕ) (log : List Entry) : Type 0 where
  pub since : List Entry
  pub before : List Entry
  pub gates : List ℕ
  pub log_is : log ≡ since ++ before
  pub is_bad : IsNextBad t gates offset before

-- the trace and the history so far, the gates of each call for an event, how often a record was bad, and where the last such
-- record begins
pub record Running : Type 0 where
  pub trace : Traced
  pub log : List Entry
  pub calls : List (List ℕ)
  pub faults : ℕ
  pub bad : Option ℕ
