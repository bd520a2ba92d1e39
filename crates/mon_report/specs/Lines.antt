-- What each line says: a JSON object of members in alphabetical order, and its text.
use Rattle.std.specs.Prelude.{ℕ, List, Option, Some, None, codes}
use Rattle.std.specs.Int.{w64, to_be_bytes}
use Rattle.hex.specs.Hex.{encode_lower}
use Rattle.serde_json.specs.Data.{Data, string, number, unsigned, object, Members, no_members, member}
use Rattle.serde_json.specs.Written.{compact_text}
use Rattle.mon_report.specs.declared.line.Line.{Line}
use Rattle.mon_report.specs.declared.line.Line.TheVariants.{Armed, Closed, Confirmed, Fact, Watch}
use Rattle.mon_report.specs.declared.line.What.{What}
use Rattle.mon_report.specs.declared.line.What.TheVariants.{NoChange, Overlap, Indistinguishable, Closing, Settled, Rejected, Silent}
use Rattle.mon_report.specs.declared.line.WatchWhat.{WatchWhat}
use Rattle.mon_report.specs.declared.line.WatchWhat.TheVariants.{Seen, Missing, Unwatchable}
use Rattle.mon_report.specs.declared.line.Cause.{Cause}
use Rattle.mon_report.specs.declared.line.Cause.TheVariants.{Peer, BadLength, BadVersion, Lost, TooMany, Features, UnknownSwitch, SameSwitch, NotArmed}

-- a whole number as a value of JSON
abbrev pub whole : ℕ → Data
whole n = number (unsigned n)

-- the word for a fact
abbrev pub fact_word : What → List ℕ
fact_word NoChange = codes "nochange"
fact_word Overlap = codes "overlap"
fact_word Indistinguishable = codes "indistinguishable"
fact_word Closing = codes "closing"
fact_word Settled = codes "settled"
fact_word Rejected = codes "rejected"
fact_word Silent = codes "silent"

-- the word for what became of a watch
abbrev pub watch_word : WatchWhat → List ℕ
watch_word Seen = codes "seen"
watch_word Missing = codes "missing"
watch_word Unwatchable = codes "unwatchable"

-- the word for the end of a session
abbrev pub cause_word : Cause → List ℕ
cause_word Peer = codes "peer"
cause_word BadLength = codes "bad-length"
cause_word BadVersion = codes "bad-version"
cause_word Lost = codes "lost"
cause_word TooMany = codes "too-many"
cause_word Features = codes "features"
cause_word UnknownSwitch = codes "unknown-switch"
cause_word SameSwitch = codes "same-switch"
cause_word NotArmed = codes "not-armed"

-- the serial of a probe that came back, and the members behind it
abbrev pub with_serial : Option ℕ → Members → Members
with_serial None rest = rest
with_serial (Some serial) rest = member (codes "serial") (whole serial) rest

-- the members of a line
abbrev pub members : Line → Members
members (Armed session datapath tag) =
    member (codes "datapath") (string (encode_lower (to_be_bytes w64 datapath)))
    (member (codes "event") (string (codes "armed"))
    (member (codes "session") (whole session)
    (member (codes "tag") (whole tag)
    no_members)))
members (Closed session cause) =
    member (codes "cause") (string (cause_word cause))
    (member (codes "event") (string (codes "closed"))
    (member (codes "session") (whole session)
    no_members))
members (Confirmed session edit serial) =
    member (codes "edit") (whole edit)
    (member (codes "event") (string (codes "confirmed"))
    (member (codes "serial") (whole serial)
    (member (codes "session") (whole session)
    no_members)))
members (Fact session edit what) =
    member (codes "edit") (whole edit)
    (member (codes "event") (string (fact_word what))
    (member (codes "session") (whole session)
    no_members))
members (Watch session matching priority serial what) =
    member (codes "event") (string (watch_word what))
    (member (codes "match") (string (encode_lower matching))
    (member (codes "priority") (whole priority)
    (with_serial serial
    (member (codes "session") (whole session)
    no_members))))

-- a line as a value of JSON
abbrev pub value_of : Line → Data
value_of line = object (members line)

-- the text of a line: that of its value, with no space
abbrev pub text_of : Line → List ℕ
text_of line = compact_text (value_of line)
