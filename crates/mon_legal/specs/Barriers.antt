-- Barriers that a session asked for, and their answers (OpenFlow 1.0.0, barrier messages).
use Rattle.std.specs.Prelude.{ℕ, ◌+◌, Bool, true, false, ◌==◌, ◌||◌, if◌then◌else◌, List, [], ◌∷◌, drop, find, Option, Some, None, option_map, is_some}
use Rattle.mon_table.specs.declared.edit.Edit.{Edit}
use Rattle.mon_table.specs.Rules.{Identity, identity_of}
use Rattle.mon_table.specs.Edits.{edited}
use Rattle.mon_world.specs.declared.event.Side.TheVariants.{Switch}
use Rattle.mon_report.specs.declared.line.Line.TheVariants.{Confirmed, Fact}
use Rattle.mon_report.specs.declared.line.What.{What}
use Rattle.mon_report.specs.declared.line.What.TheVariants.{Overlap, Indistinguishable, Closing as Was_closing}
use Rattle.mon_barriers.specs.declared.barriers.Asker.{Asker}
use Rattle.mon_barriers.specs.declared.barriers.Asker.TheVariants as asker
use Rattle.mon_barriers.specs.declared.barriers.Reply.{Reply}
use Rattle.mon_barriers.specs.Barriers.{replies_with}
use Rattle.mon_legal.specs.Changing.{plus_if, with_if, drop_if}
use Rattle.mon_legal.specs.Owns.{Own}
use Rattle.mon_legal.specs.Owns.Own.{From_switch, Sends, Reports, Acts}
use Rattle.mon_legal.specs.Owns.Act.{Closing, Step, Reply as Release}
use Rattle.mon_legal.specs.Messages.{is_barrier_request, is_barrier_reply}

-- how many requests were output
abbrev pub requests : List Own → ℕ
requests [] = 0
requests (Sends Switch frame lost ∷ before) = plus_if (is_barrier_request frame) (requests before)
requests (o ∷ before) = requests before

-- the edit that the step just taken lets out: its frame comes next
abbrev pub edit_out : List Own → Option Edit
edit_out (Acts (Step Switch frame (Some change)) ∷ before) = Some change.edit
edit_out (Acts (Closing edit close) ∷ before) = Some close.edit
edit_out before = None

-- a frame that is sent to the switch now is that of an edit
abbrev pub is_edit : List Own → Bool
is_edit before = is_some (edit_out before)

-- how many edits were passed, closings counted
abbrev pub count : List Own → ℕ
count [] = 0
count (Sends Switch frame lost ∷ before) = plus_if (is_edit before) (count before)
count (o ∷ before) = count before

-- the identities of all edits that were passed, the newest first, by number
pub record Named : Type 0 where
  pub number : ℕ
  pub identity : Identity

abbrev pub with_named : ℕ → Option Edit → List Named → List Named
with_named number None named = named
with_named number (Some x) named = record { number = number; identity = identity_of (edited x) } ∷ named

abbrev pub named : List Own → List Named
named [] = []
named (Sends Switch frame lost ∷ before) = with_named (count before + 1) (edit_out before) (named before)
named (o ∷ before) = named before

-- a report that an own barrier follows at once
abbrev pub is_barriered : What → Bool
is_barriered Overlap = true
is_barriered Indistinguishable = true
is_barriered Was_closing = true
is_barriered what = false

-- the edit that such a report has just named. A barrier that directly follows a confirmation is the proxy's own too: a step
-- comes before each request of the controller
abbrev pub just_reported : List Own → Option ℕ
just_reported (Reports (Fact session edit what) ∷ before) = if is_barriered what then Some edit else None
just_reported (Reports (Confirmed session edit serial) ∷ before) = Some edit
just_reported before = None

abbrev pub own_or_controllers : Option ℕ → ℕ → Asker
own_or_controllers (Some edit) edits = asker.Own edit
own_or_controllers None edits = asker.Controller edits

-- whose the request is that is output now. The first is the arming's; the proxy's own follow reports at once; all others
-- are the controller's, which passed so many edits before
abbrev pub asker_now : List Own → Asker
asker_now before = if requests before == 0 then asker.Arming else own_or_controllers (just_reported before) (count before)

-- who still waits for an answer, the oldest first: a reply answers the oldest
abbrev pub unanswered : List Own → List Asker
unanswered [] = []
unanswered (Sends Switch frame lost ∷ before) = with_if (is_barrier_request frame) (unanswered before) (asker_now before)
unanswered (From_switch frame others ∷ before) = drop_if (is_barrier_reply frame) (unanswered before)
unanswered (o ∷ before) = unanswered before

-- beside each of them the identity of the edit whose report an own barrier follows, by which a FLOW_REMOVED
-- that speaks of the old entry is held off
abbrev pub identity_with : Option ℕ → List Named → Option Identity
identity_with None named = None
identity_with (Some k) named = option_map (λ n. n.identity) (find (λ n. n.number == k) named)

abbrev pub guards : List Own → List (Option Identity)
guards [] = []
guards (Sends Switch frame lost ∷ before) = with_if (is_barrier_request frame) (guards before) (identity_with (just_reported before) (named before))
guards (From_switch frame others ∷ before) = drop_if (is_barrier_reply frame) (guards before)
guards (o ∷ before) = guards before

abbrev pub first_asker : List Asker → Option Asker
first_asker [] = None
first_asker (who ∷ later) = Some who

-- whom a frame of the switch answers
abbrev pub answered_by : List Own → List ℕ → Option Asker
answered_by before frame = if is_barrier_reply frame then first_asker (unanswered before) else None

-- the edit that the reply to an own barrier settles
abbrev pub own_edit : Option Asker → Option ℕ
own_edit (Some (asker.Own edit)) = Some edit
own_edit other = None

abbrev pub is_arming : Option Asker → Bool
is_arming (Some asker.Arming) = true
is_arming other = false

-- the barrier that arms the switch was answered
abbrev pub is_armed : List Own → Bool
is_armed [] = false
is_armed (From_switch frame others ∷ before) = is_armed before || is_arming (answered_by before frame)
is_armed (o ∷ before) = is_armed before

abbrev pub kept_if : Bool → List Asker → List ℕ → List Reply → List Reply
kept_if true askers frame replies = replies_with askers frame replies
kept_if false askers frame replies = replies

-- the replies to the controller's requests that were not let go yet, the oldest first, each with the number of edits that
-- were passed before its request
abbrev pub kept : List Own → List Reply
kept [] = []
kept (From_switch frame others ∷ before) = kept_if (is_barrier_reply frame) (unanswered before) frame (kept before)
kept (Acts (Release frame) ∷ before) = drop 1 (kept before)
kept (o ∷ before) = kept before
