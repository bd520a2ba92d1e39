-- What has to follow directly what a session takes, by what the session keeps.
use Rattle.std.specs.Prelude.{ℕ, Bool, true, false, not, ◌&&◌, if◌then◌else◌, List, [], ◌∷◌, ◌++◌, Option, Some, None}
use Rattle.std.specs.List.{list_any}
use Rattle.of_msgs.specs.Layout.{datapath_of}
use Rattle.mon_barriers.specs.declared.barriers.Asker.{Asker}
use Rattle.mon_barriers.specs.declared.barriers.Asker.TheVariants as asker
use Rattle.mon_report.specs.declared.line.What.TheVariants as what
use Rattle.mon_report.specs.declared.line.Cause.TheVariants as cause
use Rattle.mon_world.specs.declared.event.Side.TheVariants.{Controller, Switch}
use Rattle.mon_legal.specs.Runs.{Run}
use Rattle.mon_legal.specs.Owns.{Own}
use Rattle.mon_legal.specs.Owns.Own.{Sends, Reports}
use Rattle.mon_legal.specs.Messages.{is_light, is_features_reply, is_barrier_reply, is_error, is_own_error, features_request}
use Rattle.mon_legal.specs.Edits.{is_number, rejected_by}
use Rattle.mon_legal.specs.Directly.{Due, fact, refused_reply, ends_or_arms, armed_line, is_return, ends_in}
use Rattle.mon_legal.specs.Directly.Due.{Frame, Tells, Ending}
use Rattle.mon_session.specs.Now.{Now, is_reply, answered}
use Rattle.mon_session.specs.Walks.{Known}

-- a frame of the controller
abbrev pub controller_dues : List ℕ → List Due
controller_dues frame = if is_light frame then Frame Switch frame ∷ [] else []

-- the answer to a barrier
abbrev pub barrier_dues : Run → ℕ → Now → List ℕ → Option Asker → List Due
barrier_dues run s n frame None = Frame Controller frame ∷ []
barrier_dues run s n frame (Some asker.Arming) = armed_line run s n.datapath
barrier_dues run s n frame (Some (asker.Own k)) = if list_any (is_number k) n.unsettled then fact s k what.Settled ∷ [] else []
barrier_dues run s n frame (Some (asker.Controller edits)) = []

-- an ERROR, and the edit that it rejects
abbrev pub error_dues : ℕ → Bool → List ℕ → Option ℕ → List Due
error_dues s armed frame (Some k) = Frame Controller frame ∷ fact s k what.Rejected ∷ []
error_dues s armed frame None =
    if is_own_error frame then (if armed then [] else Ending cause.NotArmed ∷ []) else Frame Controller frame ∷ []

-- a frame of the switch; `taken` are the datapaths of the other open sessions
unfoldable pub switch_dues : Run → ℕ → List ℕ → Now → List ℕ → List Due
switch_dues run s taken n frame =
    if is_reply n frame then ends_or_arms run (datapath_of frame) (refused_reply run taken (datapath_of frame))
    else (if is_barrier_reply frame then barrier_dues run s n frame (answered n frame)
    else (if is_error frame then error_dues s n.armed frame (rejected_by frame n.unsettled)
    else (if is_return run frame then []
    else Frame Controller frame ∷ [])))

abbrev pub request_if : Bool → List Due → List Due
request_if true dues = dues ++ Frame Switch features_request ∷ []
request_if false dues = dues

-- the switch is asked for its features behind its first frame
abbrev pub with_request : Now → List Due → List Due
with_request n dues = request_if (not n.greeted && not (ends_in dues)) dues

abbrev pub dues_from_switch : Run → ℕ → List ℕ → Now → List ℕ → List Due
dues_from_switch run s taken n frame = with_request n (switch_dues run s taken n frame)

-- the datapaths of the other open sessions count at a FEATURES_REPLY alone
abbrev pub others_if : Bool → List ℕ → List ℕ
others_if true taken = taken
others_if false taken = []

abbrev pub others_at : List ℕ → List ℕ → List ℕ
others_at taken frame = others_if (is_features_reply frame) taken

abbrev pub dues_at : Run → Known → List ℕ → List ℕ → List Due
dues_at run k taken frame = dues_from_switch run k.number (others_at taken frame) k.now frame

-- the entries that meet them, as far as the session makes them itself
abbrev pub meets : Due → List Own
meets (Frame to frame) = Sends to frame false ∷ []
meets (Tells line) = Reports line ∷ []
meets due = []

abbrev pub met : List Due → List Own
met [] = []
met (due ∷ dues) = meets due ++ met dues

-- those of the own FEATURES_REPLY
abbrev pub reply_dues : Run → List ℕ → List ℕ → List Due
reply_dues run taken frame = ends_or_arms run (datapath_of frame) (refused_reply run taken (datapath_of frame))

-- those of the answer to an own barrier
abbrev pub settled_dues : ℕ → ℕ → Bool → List Due
settled_dues s k was = if was then fact s k what.Settled ∷ [] else []
