-- What one session sees of a history, the newest first. It sees nothing before it opens, and behind its end the report on
-- that alone.
use Rattle.std.specs.Prelude.{ℕ, Bool, List, Option}
use Rattle.mon_table.specs.declared.edit.Edit.{Edit}
use Rattle.of_frame.specs.declared.fault.FrameFault.{FrameFault}
use Rattle.mon_outcome.specs.declared.emission.Emission.{Emission}
use Rattle.mon_shows.specs.declared.seen.Seen.{Seen}
use Rattle.mon_report.specs.declared.line.Line.{Line}
use Rattle.mon_world.specs.declared.event.Side.{Side}
use Rattle.mon_world.specs.declared.event.Kind.{Kind}

-- the closing of a rule that was passed by a stand-in: the edit that puts the true rule, and its frame
pub record Close : Type 0 where
  pub edit : Edit
  pub frame : List ℕ

-- an edit that goes out, as it was planned; where it puts a stand-in, the closing that is to come
pub record Change : Type 0 where
  pub edit : Edit
  pub closing : Option Close

-- what a session does by itself, one step after the other
pub data Act : Type 0 where
  -- the closing of a stand-in: the edit of this number is settled
  Closing : (edit : ℕ) (close : Close) → Act
  -- the oldest kept barrier reply
  Reply : (frame : List ℕ) → Act
  -- the first frame of the controller that waits is planned on the expected table
  Plan : (frame : List ℕ) → Act
  -- the next output of the frame that was planned last, and where it is an edit, that edit
  Step : (to : Side) (frame : List ℕ) (change : Option Change) → Act

pub data Own : Type 0 where
  -- it opens, with a slot where one was free
  Begins : (slot : Option ℕ) → Own
  -- the next frame of a side's stream is handled, or the fault in which the stream ends; `others` are the datapaths of the
  -- other open sessions as it comes
  From_controller : (frame : List ℕ) → Own
  From_switch : (frame : List ℕ) (others : List ℕ) → Own
  Breaks : (fault : FrameFault) → Own
  -- a connection is gone
  Closes : Own
  -- a tick, at this version of the slot
  Ticks : (version : ℕ) → Own
  -- a probe of this serial came back, and shows this
  Returns : (serial : ℕ) (seen : Seen) → Own
  -- a job of an edit, or of a watch where that is 0, was answered, by whether the answer is of the slot's version
  Judged : (job edit : ℕ) (kind : Kind) (fresh : Bool) → Own
  -- the session of a linked switch was armed, or an armed one ended
  Neighbour : Own
  Acts : (act : Act) → Own
  Offers : (job edit : ℕ) → Own
  -- an answer becomes the probe of a serial, which is to show this
  Probes : (serial edit version : ℕ) (emission : Emission) (shows : Option Seen) → Own
  -- the probe of a serial goes out, to the switch of a session nearby, in this frame
  Goes_out : (serial near : ℕ) (frame : List ℕ) → Own
  -- a frame is output to a side, or lost: one of the session's own to its controller or its switch, or a probe for a neighbour
  -- to its switch
  Sends : (to : Side) (frame : List ℕ) (lost : Bool) → Own
  Carries : (lost : Bool) → Own
  Reports : (line : Line) → Own
  Ends : Own
