-- What has to follow directly in a session, the oldest first.
use Rattle.std.specs.Prelude.{ℕ, ◌+◌, Bool, true, false, not, ◌==◌, ◌&&◌, if◌then◌else◌, List, [], ◌∷◌, ◌++◌, map, Option, Some, None, option_map, is_none}
use Rattle.std.specs.List.{list_any}
use Rattle.of_frame.specs.declared.fault.FrameFault.{FrameFault}
use Rattle.of_frame.specs.declared.fault.FrameFault.TheVariants.{BadLength, BadVersion}
use Rattle.of_msgs.specs.Layout.{datapath_of}
use Rattle.mon_topo.specs.Tags.{tag_of}
use Rattle.mon_barriers.specs.declared.barriers.Asker.{Asker}
use Rattle.mon_barriers.specs.declared.barriers.Asker.TheVariants as asker
use Rattle.mon_table.specs.declared.rule.Rule.{Rule}
use Rattle.mon_table.specs.declared.edit.Edit.{Edit}
use Rattle.mon_legal.specs.Ties.{tie}
use Rattle.mon_packet.specs.declared.nonce.Nonce.{Nonce}
use Rattle.mon_packet.specs.Reading.{Read}
use Rattle.mon_report.specs.declared.line.Line.{Line}
use Rattle.mon_report.specs.declared.line.Line.TheVariants as line
use Rattle.mon_report.specs.declared.line.What.{What}
use Rattle.mon_report.specs.declared.line.What.TheVariants as what
use Rattle.mon_report.specs.declared.line.WatchWhat.{WatchWhat}
use Rattle.mon_report.specs.declared.line.WatchWhat.TheVariants as watch_what
use Rattle.mon_report.specs.declared.line.Cause.{Cause}
use Rattle.mon_report.specs.declared.line.Cause.TheVariants as cause
use Rattle.mon_world.specs.declared.event.Kind.{Kind}
use Rattle.mon_world.specs.declared.event.Kind.TheVariants as kind
use Rattle.mon_world.specs.declared.event.Side.{Side}
use Rattle.mon_world.specs.declared.event.Side.TheVariants.{Controller, Switch}
use Rattle.mon_legal.specs.Runs.{Run}
use Rattle.mon_legal.specs.Changing.{drop_if}
use Rattle.mon_legal.specs.Owns.{Own, Act}
use Rattle.mon_legal.specs.Owns.Own.{Begins, From_controller, From_switch, Breaks, Closes, Ticks, Returns, Judged, Acts, Probes, Goes_out, Sends, Reports, Ends}
use Rattle.mon_legal.specs.Owns.Act.{Closing, Reply, Plan, Step}
use Rattle.mon_legal.specs.Datapaths.{from_switch, replied, datapath, tag, catching}
use Rattle.mon_legal.specs.Messages.{is_light, is_features_reply, is_barrier_reply, is_error, is_own_error, carried_in, features_request, own_barrier, arming_frames}
use Rattle.mon_legal.specs.Barriers.{edit_out, is_edit, count, answered_by, is_armed}
use Rattle.mon_legal.specs.Edits.{passed, expected, unsettled, is_unsettled, find_passed, is_over_unsure, changes_nothing, rejected_by, Passed}
use Rattle.mon_legal.specs.Watching.{Watch, watch, watch_again, missing, seen_by, is_of_job, line_of}
use Rattle.mon_legal.specs.Probes.{live, again, silent, confirmed_by}

-- one entry that has to come: a frame to a side, a line of the report, the end, a probe note for a job, or the probe of a
-- serial at a neighbour
pub data Due : Type 0 where
  Frame : (to : Side) (frame : List ℕ) → Due
  Tells : (line : Line) → Due
  Ending : (cause : Cause) → Due
  Probing : (job edit : ℕ) → Due
  Going : (serial : ℕ) → Due

-- a line on an edit of the session
abbrev pub fact : ℕ → ℕ → What → Due
fact s k w = Tells (line.Fact s k w)

-- the frame is the reply to the proxy's own FEATURES_REQUEST, which goes out behind the switch's first frame
abbrev pub is_own_reply : List Own → List ℕ → Bool
is_own_reply before frame = is_none (replied before) && (not (from_switch before == 0) && is_features_reply frame)

-- the cause for which the own FEATURES_REPLY ends the session, where there is one; `taken` are the datapaths of the other
-- open sessions
abbrev pub refused_reply : Run → List ℕ → Option ℕ → Option Cause
refused_reply run taken None = Some cause.Features
refused_reply run taken (Some d) =
    if is_none (tag_of d run.given) then Some cause.UnknownSwitch
    else (if list_any (λ other. other == d) taken then Some cause.SameSwitch else None)

abbrev pub frames_to : Side → List (List ℕ) → List Due
frames_to to frames = map (Frame to) frames

abbrev pub arming_of : Run → Option ℕ → List Due
arming_of run None = []
arming_of run (Some tag) = frames_to Switch (arming_frames tag run.in_use)

abbrev pub ends_or_arms : Run → Option ℕ → Option Cause → List Due
ends_or_arms run d (Some c) = Ending c ∷ []
ends_or_arms run None None = []
ends_or_arms run (Some d) None = arming_of run (tag_of d run.given)

abbrev pub armed_with : ℕ → ℕ → Option ℕ → List Due
armed_with s d None = []
armed_with s d (Some tag) = Tells (line.Armed s d tag) ∷ []

-- the line that tells that the session is armed
abbrev pub armed_line : Run → ℕ → Option ℕ → List Due
armed_line run s None = []
armed_line run s (Some d) = armed_with s d (tag_of d run.given)

-- the answer to a barrier: one that answers no request goes on, the one to the arming arms, one to an own barrier settles its
-- edit, and one to the controller waits
abbrev pub on_barrier : Run → ℕ → List Own → List ℕ → Option Asker → List Due
on_barrier run s before frame None = Frame Controller frame ∷ []
on_barrier run s before frame (Some asker.Arming) = armed_line run s (datapath before)
on_barrier run s before frame (Some (asker.Own k)) = if is_unsettled before k then fact s k what.Settled ∷ [] else []
on_barrier run s before frame (Some (asker.Controller edits)) = []

-- an ERROR: the one for an unsettled edit passes and rejects it; any other with the proxy's xid goes no further
abbrev pub on_error : ℕ → List Own → List ℕ → Option ℕ → List Due
on_error s before frame (Some k) = Frame Controller frame ∷ fact s k what.Rejected ∷ []
on_error s before frame None =
    if is_own_error frame then (if is_armed before then [] else Ending cause.NotArmed ∷ []) else Frame Controller frame ∷ []

-- a return of a probe of this run goes no further
abbrev pub is_own_nonce : ℕ → Option Nonce → Bool
is_own_nonce key None = false
is_own_nonce key (Some n) = n.key == key

abbrev pub is_return_in : ℕ → Read → Bool
is_return_in key None = false
is_return_in key (Some found) = is_own_nonce key found.1

abbrev pub is_return : Run → List ℕ → Bool
is_return run frame = is_return_in run.key (carried_in frame)

-- what a frame of the switch leads to: the first of these fates that applies
unfoldable pub on_switch : Run → ℕ → List ℕ → List Own → List ℕ → List Due
on_switch run s taken before frame =
    if is_own_reply before frame then ends_or_arms run (datapath_of frame) (refused_reply run taken (datapath_of frame))
    else (if is_barrier_reply frame then on_barrier run s before frame (answered_by before frame)
    else (if is_error frame then on_error s before frame (rejected_by frame (passed before))
    else (if is_return run frame then []
    else Frame Controller frame ∷ [])))

abbrev pub ends_in : List Due → Bool
ends_in [] = false
ends_in (Ending c ∷ later) = true
ends_in (due ∷ later) = ends_in later

-- after its first frame the switch is asked for its features, where that frame did not end the session
abbrev pub and_request : List Own → List Due → List Due
and_request before dues = if (from_switch before == 0) && not (ends_in dues) then dues ++ Frame Switch features_request ∷ [] else dues

abbrev pub of_fault : FrameFault → Cause
of_fault BadLength = cause.BadLength
of_fault BadVersion = cause.BadVersion

-- what an edit leads to that was just passed: it changes nothing, or its rule is tied
abbrev pub on_edit : ℕ → ℕ → List Rule → Option Edit → List Due
on_edit s k t None = []
on_edit s k t (Some x) =
    if changes_nothing x then fact s k what.NoChange ∷ []
    else (if tie t x then fact s k what.Overlap ∷ Frame Switch own_barrier ∷ [] else [])

-- the frame that goes out is a closing
abbrev pub is_closing : List Own → Bool
is_closing (Acts (Closing edit close) ∷ before) = true
is_closing before = false

-- the line that tells what became of a watch, whose number among edits is 0
abbrev pub told : ℕ → Option ℕ → WatchWhat → Option Rule → List Due
told s serial w None = []
told s serial w (Some r) = Tells (line_of s r serial w) ∷ []

abbrev pub rule_of_watch : Option Watch → Option Rule
rule_of_watch w = option_map (λ x. x.rule) w

abbrev pub on_indistinguishable : Run → ℕ → List Own → ℕ → List Due
on_indistinguishable run s before k =
    if k == 0 then told s None watch_what.Unwatchable (rule_of_watch (watch run before))
    else fact s k what.Indistinguishable ∷ Frame Switch own_barrier ∷ []

abbrev pub on_judged : Run → ℕ → List Own → ℕ → ℕ → Kind → List Due
on_judged run s before job k kind.Probe = Probing job k ∷ []
on_judged run s before job k kind.Indistinguishable = on_indistinguishable run s before k
on_judged run s before job k kind.Skipped = []

-- the job still stands: its edit is unsettled, or it is that of the present watch
abbrev pub job_stands : Run → List Own → ℕ → ℕ → Bool
job_stands run before job k = if k == 0 then is_of_job job (watch run before) else is_unsettled before k

-- the answer is current: it is of the slot's version, and its job stands
abbrev pub is_current : Run → List Own → ℕ → ℕ → Bool → Bool
is_current run before job k fresh = fresh && job_stands run before job k

-- an own barrier directly follows the confirmation of a put whose old rule may be gone
abbrev pub is_over : Option Passed → Bool
is_over None = false
is_over (Some p) = is_over_unsure p.edit

abbrev pub confirmed_with : Bool → List Due
confirmed_with true = Frame Switch own_barrier ∷ []
confirmed_with false = []

abbrev pub on_return : ℕ → List Own → ℕ → Option ℕ → List Due
on_return s before serial None = []
on_return s before serial (Some k) = Tells (line.Confirmed s k serial) ∷ confirmed_with (is_over (find_passed k before))

abbrev pub on_act : ℕ → List Own → Act → List Due
on_act s before (Closing k close) = Frame Switch close.frame ∷ fact s (count before + 1) what.Closing ∷ Frame Switch own_barrier ∷ []
on_act s before (Reply frame) = Frame Controller frame ∷ []
on_act s before (Plan frame) = []
on_act s before (Step to frame change) = Frame to frame ∷ []

-- the cause of an end: the one that was due, or else a lost output
abbrev pub cause_in : List Due → Cause
cause_in (Ending c ∷ later) = c
cause_in dues = cause.Lost

-- what an entry makes due, by what is due already
abbrev pub owes : Run → ℕ → List Due → List Own → Own → List Due
owes run s dues before (Begins None) = Ending cause.TooMany ∷ []
owes run s dues before (From_controller frame) = if is_light frame then Frame Switch frame ∷ [] else []
owes run s dues before (From_switch frame others) = and_request before (on_switch run s others before frame)
owes run s dues before (Breaks fault) = Ending (of_fault fault) ∷ []
owes run s dues before Closes = Ending cause.Peer ∷ []
owes run s dues before (Ticks version) =
    map Going (again run version (unsettled before) (live run before) ++ watch_again run version (watch run before))
    ++ (map (λ k. fact s k what.Silent) (silent run (unsettled before)) ++ told s None watch_what.Missing (missing run version (watch run before)))
owes run s dues before (Returns serial seen) =
    on_return s before serial (confirmed_by serial seen before) ++ told s (Some serial) watch_what.Seen (seen_by serial seen (watch run before))
owes run s dues before (Judged job k kind fresh) = if is_current run before job k fresh then on_judged run s before job k kind else []
owes run s dues before (Acts act) = on_act s before act
owes run s dues before (Probes serial k version emission shows) = Going serial ∷ []
owes run s dues before (Sends Switch frame lost) =
    if is_edit before && not (is_closing before)
    then on_edit s (count before + 1) (expected (catching run before) (Sends Switch frame lost ∷ before)) (edit_out before)
    else []
owes run s dues before Ends = Tells (line.Closed s (cause_in dues)) ∷ []
owes run s dues before o = []

-- an entry that meets what is due
abbrev pub is_output : Own → Bool
is_output (Probes serial k version emission shows) = true
is_output (Goes_out serial near frame) = true
is_output (Sends to frame lost) = true
is_output (Reports line) = true
is_output Ends = true
is_output o = false

-- what is due after an entry, by what was due before it
abbrev pub due_after : Run → ℕ → List Own → Own → List Due → List Due
due_after run s before o dues = owes run s dues before o ++ drop_if (is_output o) dues

-- what has to follow directly, the oldest first
abbrev pub owed : Run → ℕ → List Own → List Due
owed run s [] = []
owed run s (o ∷ before) = due_after run s before o (owed run s before)
