-- The text of a trace: a first line with the key, and a line for each record.
use Rattle.std.specs.Prelude.{ℕ, ◌+◌, ◌^◌, Bool, true, false, List, [], ◌∷◌, length, drop, Option, Some, None, Result, Ok, Err, ◌==◌, nat_lt, nat_le, nat_eq, ◌&&◌, codes, if◌then◌else◌}
use Rattle.std.specs.List.{starts_with}
use Rattle.byteorder.specs.Endian.{big_number}
use Rattle.mon_world.specs.declared.event.Side.{Side}
use Rattle.mon_world.specs.declared.event.Side.TheVariants.{Controller, Switch}
use Rattle.mon_world.specs.declared.event.Event.{Event}
use Rattle.mon_world.specs.declared.event.Event.TheVariants.{Opened, Piece, Closed, Tick, Answer}
use Rattle.mon_world.specs.Causes.{counted}
use Rattle.mon_text.specs.Hex.{unhex}
use Rattle.mon_text.specs.Numbers.{number_in}
use Rattle.mon_text.specs.Parts.{Part, behind}

-- a record that is an event: where its line begins, and how many `lose` records stand before it
pub record Recorded : Type 0 where
  pub offset : ℕ
  pub losing : ℕ
  pub event : Event

-- a trace: its key, its records that are events in order, and how many `lose` records it has
pub record Traced : Type 0 where
  pub key : ℕ
  pub events : List Recorded
  pub losing : ℕ

-- the lines of a text that a line feed ends, and what stands behind the last of these
pub record Lines : Type 0 where
  pub ended : List (List ℕ)
  pub rest : List ℕ

-- one line more, before the others
abbrev pub line_before : List ℕ → Lines → Lines
line_before line lines = record { ended = line ∷ lines.ended; rest = lines.rest }

-- a byte of the first line
abbrev pub byte_on : ℕ → List (List ℕ) → List ℕ → Lines
byte_on byte [] rest = record { ended = []; rest = byte ∷ rest }
byte_on byte (line ∷ lines) rest = record { ended = (byte ∷ line) ∷ lines; rest = rest }

abbrev pub byte_before : ℕ → Lines → Lines
byte_before byte lines = byte_on byte lines.ended lines.rest

abbrev pub lines_of : List ℕ → Lines
lines_of [] = record { ended = []; rest = [] }
lines_of (byte ∷ bytes) = if byte == 10 then line_before [] (lines_of bytes) else byte_before byte (lines_of bytes)

-- sixteen digits are the eight bytes of the key, the highest first
abbrev pub key_in : Option (List ℕ) → Option ℕ
key_in None = None
key_in (Some bytes) = Some (big_number 8 bytes)

abbrev pub header : List ℕ
header = codes "monocle-trace 1 "

-- the key that the first line gives
unfoldable pub key_of : List ℕ → Option ℕ
key_of line = if starts_with nat_eq line header && (length line == 32) then key_in (unhex (drop 16 line)) else None

-- a text of just these bytes
abbrev pub is_word : List ℕ → List ℕ → Bool
is_word word line = starts_with nat_eq line word && (length line == length word)

-- a piece has 1 to 4096 bytes
abbrev pub piece_of : Side → ℕ → Option (List ℕ) → Option Event
piece_of side session None = None
piece_of side session (Some bytes) = if nat_lt 0 (length bytes) && nat_le (length bytes) 4096 then Some (Piece session side bytes) else None

-- the bytes that the digits behind a space say
abbrev pub bytes_behind : Option (List ℕ) → Option (List ℕ)
bytes_behind None = None
bytes_behind (Some digits) = unhex digits

-- a number below a bound, where it is one
abbrev pub below : ℕ → Part ℕ → Part ℕ
below bound None = None
below bound (Some found) = if nat_lt found.0 bound then Some found else None

-- a number below a bound at the front, and what stands behind it
unfoldable pub number_below : ℕ → List ℕ → Part ℕ
number_below bound text = below bound (number_in text)

-- the number is the whole text
abbrev pub whole : Part ℕ → Option ℕ
whole None = None
whole (Some (n, [])) = Some n
whole (Some (n, b ∷ bs)) = None

-- a session, and a piece of it in digits
abbrev pub piece_with : Side → Part ℕ → Option Event
piece_with side None = None
piece_with side (Some found) = piece_of side found.0 (bytes_behind (behind (codes " ") found.1))

-- a session that is closed
abbrev pub closing_of : Option ℕ → Option Event
closing_of None = None
closing_of (Some session) = Some (Closed session)

-- a job that is answered
abbrev pub answer_of : Option ℕ → Option Event
answer_of None = None
answer_of (Some index) = Some (Answer index)

-- what stands behind `answer`, where it is the first word; and so on
abbrev pub answer_or : Option (List ℕ) → Option Event → Option Event
answer_or None other = other
answer_or (Some rest) other = answer_of (whole (number_below (2 ^ 32) rest))

abbrev pub closing_or : ℕ → Option (List ℕ) → Option Event → Option Event
closing_or opened None other = other
closing_or opened (Some rest) other = closing_of (whole (number_below opened rest))

abbrev pub piece_or : Side → ℕ → Option (List ℕ) → Option Event → Option Event
piece_or side opened None other = other
piece_or side opened (Some rest) other = piece_with side (number_below opened rest)

unfoldable pub tick_event : List ℕ → Option Event
tick_event line = if is_word (codes "tick") line then Some Tick else None

unfoldable pub answer_event : List ℕ → Option Event
answer_event line = answer_or (behind (codes "answer ") line) (tick_event line)

unfoldable pub closing_event : ℕ → List ℕ → Option Event
closing_event opened line = closing_or opened (behind (codes "close ") line) (answer_event line)

unfoldable pub switch_event : ℕ → List ℕ → Option Event
switch_event opened line = piece_or Switch opened (behind (codes "from switch ") line) (closing_event opened line)

unfoldable pub later_event : ℕ → List ℕ → Option Event
later_event opened line = piece_or Controller opened (behind (codes "from controller ") line) (switch_event opened line)

abbrev pub is_open : List ℕ → Bool
is_open line = is_word (codes "open") line

-- the event of a record, where so many sessions were opened before it
abbrev pub event_of : ℕ → List ℕ → Option Event
event_of opened line = if is_open line then Some Opened else later_event opened line

-- a record that is no event: one more of the outputs that follow is lost
abbrev pub is_lose : List ℕ → Bool
is_lose line = is_word (codes "lose") line

-- how many sessions were opened after a record, by whether it is `lose` or `open`
abbrev pub opened_behind : Bool → Bool → ℕ → ℕ
opened_behind true open_ opened = opened
opened_behind false true opened = counted opened
opened_behind false false opened = opened

abbrev pub losing_behind : Bool → ℕ → ℕ
losing_behind true losing = losing + 1
losing_behind false losing = losing

-- the events of records, and how many `lose` records there are; or where a record is bad
abbrev pub Records : Type 0
Records = Result (List Recorded × ℕ) ℕ

abbrev pub event_before : Recorded → Records → Records
event_before r (Ok found) = Ok (r ∷ found.0, found.1)
event_before r (Err offset) = Err offset

-- a record before others, by whether it is `lose` and by the event that it else is
abbrev pub record_before : ℕ → ℕ → Bool → Option Event → Records → Records
record_before offset losing true event others = others
record_before offset losing false None others = Err offset
record_before offset losing false (Some event) others = event_before (record { offset = offset; losing = losing; event = event }) others

-- what stands behind the last line is bad
abbrev pub unended : ℕ → ℕ → List ℕ → Records
unended offset losing [] = Ok ([], losing)
unended offset losing (byte ∷ bytes) = Err offset

-- the records of lines that begin at an offset, behind records that opened so many sessions and lose so many outputs
abbrev pub records_in : ℕ → ℕ → ℕ → List (List ℕ) → List ℕ → Records
records_in offset opened losing [] rest = unended offset losing rest
records_in offset opened losing (line ∷ lines) rest =
    record_before offset losing (is_lose line) (event_of opened line)
    (records_in (offset + (length line + 1)) (opened_behind (is_lose line) (is_open line) opened) (losing_behind (is_lose line) losing) lines rest)

abbrev pub with_key : Option ℕ → Records → Result Traced ℕ
with_key None records = Err 0
with_key (Some key) (Err offset) = Err offset
with_key (Some key) (Ok found) = Ok (record { key = key; events = found.0; losing = found.1 })

abbrev pub traced_in : List (List ℕ) → List ℕ → Result Traced ℕ
traced_in [] rest = Err 0
traced_in (first ∷ lines) rest = with_key (key_of first) (records_in (length first + 1) 0 0 lines rest)

-- the trace that a text is, or the offset of the first line that makes it none
abbrev pub trace_of : List ℕ → Result Traced ℕ
trace_of text = traced_in (lines_of text).ended (lines_of text).rest
