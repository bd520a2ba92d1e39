-- All frames of a side go on, in their order: what becomes of each frame of a session's controller and of its switch.
use Rattle.std.specs.Prelude.{◌≡◌, ◌⊎◌, ℕ, Bool, true, false, not, ◌&&◌, ◌||◌, if◌then◌else◌, List, [], ◌∷◌, ◌++◌, map, Option, None, is_none, is_some}
use Rattle.mon_list.specs.Has.{Has}
use Rattle.mon_table.specs.declared.rule.Rule.{Rule}
use Rattle.mon_barriers.specs.declared.barriers.Asker.{Asker}
use Rattle.mon_barriers.specs.declared.barriers.Asker.TheVariants as asker
use Rattle.mon_world.specs.declared.event.Side.{Side}
use Rattle.mon_world.specs.declared.event.Side.TheVariants.{Controller, Switch}
use Rattle.mon_legal.specs.Runs.{Run}
use Rattle.mon_legal.specs.Changing.{with_if, only}
use Rattle.mon_legal.specs.Owns.{Own, Act}
use Rattle.mon_legal.specs.Owns.Own.{From_controller, From_switch, Acts, Sends}
use Rattle.mon_legal.specs.Owns.Act.{Closing, Plan, Step, Reply}
use Rattle.mon_legal.specs.Messages.{features_request, own_barrier, arming_frames, is_light, is_error, is_own_error, is_barrier_reply}
use Rattle.mon_legal.specs.Barriers.{answered_by, unanswered, kept}
use Rattle.mon_legal.specs.Edits.{passed, rejected_by, entries, unsettled}
use Rattle.mon_legal.specs.Datapaths.{catching}
use Rattle.mon_legal.specs.Held.{Part, fate, change_of, waiting, under_way}
use Rattle.mon_legal.specs.Held.Part.{Whole, Refused, Changed}
use Rattle.mon_legal.specs.Directly.{Due, owes, owed, is_own_reply, is_return}
use Rattle.mon_legal.specs.Directly.Due.{Frame}
use Rattle.mon_legal.specs.Moments.{Moment}
use Rattle.mon_legal.specs.Sessions.{part, OfEach}
use Rattle.mon_legal.specs.Ordering.{same_side, frames_in}

-- the frames of the controller and of the switch that were handled
abbrev pub from_controller : List Own → List (List ℕ)
from_controller [] = []
from_controller (From_controller frame ∷ before) = from_controller before ++ frame ∷ []
from_controller (o ∷ before) = from_controller before

abbrev pub from_switch : List Own → List (List ℕ)
from_switch [] = []
from_switch (From_switch frame others ∷ before) = from_switch before ++ frame ∷ []
from_switch (o ∷ before) = from_switch before

-- the frames that were output to a side, or lost: all but probes for a neighbour
abbrev pub sent : Side → List Own → List (List ℕ)
sent to [] = []
sent to (Sends side frame lost ∷ before) = with_if (same_side side to) (sent to before) frame
sent to (o ∷ before) = sent to before

-- to the controller ------------------------------------------------------------

-- a frame of the switch goes on as it came. The own FEATURES_REPLY does not, nor does a barrier reply for which a request
-- waits, an ERROR for a frame of the proxy's own, or a probe that comes back
abbrev pub goes_on : Run → List Own → List ℕ → Bool
goes_on run before frame =
    if is_own_reply before frame then false
    else (if is_barrier_reply frame then is_none (answered_by before frame)
    else (if is_error frame then is_some (rejected_by frame (passed before)) || not (is_own_error frame)
    else not (is_return run frame)))

-- what the controller is to get, in this order: the frames of its switch that go on, the kept replies to its barriers as they
-- are let go, and the ERRORs for its own frames
abbrev pub for_controller : Run → List Own → List (List ℕ)
for_controller run [] = []
for_controller run (From_switch frame others ∷ before) = with_if (goes_on run before frame) (for_controller run before) frame
for_controller run (Acts (Reply frame) ∷ before) = for_controller run before ++ frame ∷ []
for_controller run (Acts (Step Controller error change) ∷ before) = for_controller run before ++ error ∷ []
for_controller run (o ∷ before) = for_controller run before

-- the replies to the controller's barriers that came, and those that were let go
abbrev pub is_controllers : List Asker → Bool
is_controllers (asker.Controller edits ∷ later) = true
is_controllers other = false

abbrev pub replies : List Own → List (List ℕ)
replies [] = []
replies (From_switch frame others ∷ before) =
    with_if (is_barrier_reply frame && is_controllers (unanswered before)) (replies before) frame
replies (o ∷ before) = replies before

abbrev pub let_go : List Own → List (List ℕ)
let_go [] = []
let_go (Acts (Reply frame) ∷ before) = let_go before ++ frame ∷ []
let_go (o ∷ before) = let_go before

-- to the switch ----------------------------------------------------------------

-- the frames to a side that have to come
abbrev pub frame_due : Side → Due → List (List ℕ)
frame_due to (Frame side frame) = only (same_side side to) (frame ∷ [])
frame_due to due = []

abbrev pub frames_due : Side → List Due → List (List ℕ)
frames_due to [] = []
frames_due to (due ∷ dues) = frame_due to due ++ frames_due to dues

-- the frames of the proxy's own to which an entry leads: its FEATURES_REQUEST, the arming frames, its barriers, and closings
abbrev pub own_frames : Run → ℕ → List Own → Own → List (List ℕ)
own_frames run s before o = frames_due Switch (owes run s (owed run s before) before o)

-- each is one of these
abbrev pub IsClosing : Own → List ℕ → Type 0
IsClosing (Acts (Closing edit close)) frame = frame ≡ close.frame
IsClosing o frame = ⊥

abbrev pub IsArming : Run → List ℕ → Type 0
IsArming run frame = (tag : ℕ) × Has (arming_frames tag run.in_use) frame

abbrev pub IsProxys : Run → Own → List ℕ → Type 0
IsProxys run o frame = (frame ≡ features_request) ⊎ ((frame ≡ own_barrier) ⊎ (IsArming run frame ⊎ IsClosing o frame))

-- a frame of the controller, or a step that lets out what one leads to
abbrev pub is_controllers_own : Own → Bool
is_controllers_own (From_controller frame) = true
is_controllers_own (Acts (Step to frame change)) = true
is_controllers_own o = false

-- what the switch is to get, in this order: the light frames of its controller, what the steps let out of the others, and
-- between them the proxy's own
abbrev pub for_switch : Run → ℕ → List Own → List (List ℕ)
for_switch run s [] = []
for_switch run s (From_controller frame ∷ before) = with_if (is_light frame) (for_switch run s before) frame
for_switch run s (Acts (Step Switch frame change) ∷ before) = for_switch run s before ++ frame ∷ []
for_switch run s (Acts (Step Controller error change) ∷ before) = for_switch run s before
for_switch run s (o ∷ before) = for_switch run s before ++ own_frames run s before o

-- the frames of the controller that may not overtake one another, and those of them that were planned
abbrev pub ordered : List Own → List (List ℕ)
ordered [] = []
ordered (From_controller frame ∷ before) = with_if (not (is_light frame)) (ordered before) frame
ordered (o ∷ before) = ordered before

abbrev pub planned : List Own → List (List ℕ)
planned [] = []
planned (Acts (Plan frame) ∷ before) = planned before ++ frame ∷ []
planned (o ∷ before) = planned before

-- the fates of those that were planned, each over the entries and the unsettled edits of its planning
abbrev pub fates : Run → List Own → List Part
fates run [] = []
fates run (Acts (Plan frame) ∷ before) = fates run before ++ fate (catching run before) (entries before) (unsettled before) frame
fates run (o ∷ before) = fates run before

-- the steps that let them out
abbrev pub steps : List Own → List Act
steps [] = []
steps (Acts (Step to frame change) ∷ before) = steps before ++ Step to frame change ∷ []
steps (o ∷ before) = steps before

-- a step lets out what is left of a frame: the frame as it came, its ERROR, or the frame of an edit or of its stand-in
abbrev pub LetsOut : Part → Act → Type 0
LetsOut (Whole frame) act = act ≡ Step Switch frame None
LetsOut (Refused error) act = act ≡ Step Controller error None
LetsOut (Changed frame m x first) act = (r : Option Rule) × (act ≡ change_of r frame m x first)

-- the steps let the first of these out, one each, and the rest is left
abbrev pub LetOut : List Part → List Act → List Part → Type 0
LetOut parts [] rest = parts ≡ rest
LetOut [] (act ∷ acts) rest = ⊥
LetOut (part ∷ parts) (act ∷ acts) rest = LetsOut part act × LetOut parts acts rest

-- the whole --------------------------------------------------------------------

-- the second list begins with the first
abbrev pub IsFront : List (List ℕ) → List (List ℕ) → Type 0
IsFront some all = (rest : List (List ℕ)) × (some ++ rest ≡ all)

-- of a session at any moment: its frames are handled in the order of their sides, and what they lead to goes out in order
pub record FramesGoOn (run : Run) (s : ℕ) (f : List Moment) : Type 0 where
  pub controller : IsFront (from_controller (part run s f)) (frames_in run s Controller f)
  pub switch : IsFront (from_switch (part run s f)) (frames_in run s Switch f)
  pub to_controller : IsFront (sent Controller (part run s f)) (for_controller run (part run s f))
  pub to_switch : IsFront (sent Switch (part run s f)) (for_switch run s (part run s f))
  pub replies_kept : let_go (part run s f) ++ map (λ r. r.frame) (kept (part run s f)) ≡ replies (part run s f)
  pub all_planned : planned (part run s f) ++ waiting (part run s f) ≡ ordered (part run s f)
  pub all_let_out : LetOut (fates run (part run s f)) (steps (part run s f)) (under_way run (part run s f))

-- of an open session where a turn has ended: each frame that came is handled, and all that it led to is out
pub record FramesWentOn (run : Run) (s : ℕ) (f : List Moment) : Type 0 where
  pub controller : from_controller (part run s f) ≡ frames_in run s Controller f
  pub switch : from_switch (part run s f) ≡ frames_in run s Switch f
  pub to_controller : sent Controller (part run s f) ≡ for_controller run (part run s f)
  pub to_switch : sent Switch (part run s f) ≡ for_switch run s (part run s f)

abbrev pub AllFramesGoOn : Run → List Moment → Type 0
AllFramesGoOn run f = (s : ℕ) → FramesGoOn run s f

abbrev pub AllFramesWentOn : Run → List Moment → Type 0
AllFramesWentOn run f = OfEach run f (λ s. FramesWentOn run s f)
