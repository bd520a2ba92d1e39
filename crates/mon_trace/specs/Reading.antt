-- What is read of a text, step by step.
use Rattle.std.specs.Prelude.{ℕ, ◌≡◌, ◌+◌, ◌<◌, List, [], ◌∷◌, ◌++◌, length, take, drop, Option, Some, None, Result, Ok, Err}
use Rattle.mon_world.specs.declared.event.Event.{Event}
use Rattle.mon_text.specs.declared.fault.FileFault.{FileFault}
use Rattle.mon_text.specs.Faults.{OnBadAt}
use Rattle.mon_trace.specs.Grammar.{Recorded, Records, Lines, lines_of, line_before, records_in}

-- what a search for a line feed says of the lines
abbrev pub FirstLine : List ℕ → Option ℕ → Type 0
FirstLine text None = lines_of text ≡ record { ended = []; rest = text }
FirstLine text (Some n) = (n < length text) × (lines_of text ≡ line_before (take n text) (lines_of (drop (n + 1) text)))

-- what was read before, and what is still read
abbrev pub onto : {A : Type 0} → List A → Option (List A) → Option (List A)
onto front None = None
onto front (Some more) = Some (front ++ more)

-- the record of an event
abbrev pub one : ℕ → ℕ → Option Event → Option (List Recorded)
one offset losing None = None
one offset losing (Some event) = Some (record { offset = offset; losing = losing; event = event } ∷ [])

-- the records of a text that begins at an offset
abbrev pub records_of : ℕ → ℕ → ℕ → List ℕ → Records
records_of offset opened losing text = records_in offset opened losing (lines_of text).ended (lines_of text).rest

-- records that were read before
abbrev pub behind_events : List Recorded → Records → Records
behind_events front (Ok found) = Ok (front ++ found.0, found.1)
behind_events front (Err offset) = Err offset

-- what is read is what the text says, or the text is bad where it says so
abbrev pub Gives : {X Y : Type 0} → (X → Y) → Result X FileFault → Result Y ℕ → Type 0
Gives view (Ok x) said = said ≡ Ok (view x)
Gives view (Err fault) said = OnBadAt fault (λ offset. said ≡ Err offset)

-- a step leads on to the same records, or the text is bad where these are
abbrev pub GoesOn : {X : Type 0} → Result X FileFault → Records → Records → Type 0
GoesOn (Ok x) now before = now ≡ before
GoesOn (Err fault) now before = OnBadAt fault (λ offset. before ≡ Err offset)
