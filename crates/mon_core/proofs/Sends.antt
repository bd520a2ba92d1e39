-- Outputs that end no session: those of frames.
use Rattle.std.proofs.Common.{ℕ, List, [], ◌∷◌, ◌++◌}
use Rattle.mon_table.specs.declared.rule.Rule.{Rule}
use Rattle.mon_world.specs.declared.event.Side.{Side}
use Rattle.mon_world.specs.declared.event.Side.TheVariants.{Controller, Switch}
use Rattle.mon_world.specs.declared.event.Out.{Out}
use Rattle.mon_world.specs.declared.event.Out.TheVariants.{Send, Close}
use Rattle.mon_core.specs.Fates.{fated, passed, errors, followed}
use Rattle.mon_core.specs.History.{sent, from_frame, from_frames, from_side}

-- each output is a frame
abbrev pub AllSends : List Out → Type 0
AllSends [] = Unit {0}
AllSends (Send n to frame ∷ outs) = AllSends outs
AllSends (Close n ∷ outs) = ⊥

sends-append : (a b : List Out) → AllSends a → AllSends b → AllSends (a ++ b)
sends-append [] b p q = q
sends-append (Send n to frame ∷ a) b p q = sends-append a b p q
sends-append (Close n ∷ a) b p q = absurd p

sends-sent : (n : ℕ) (to : Side) (frames : List (List ℕ)) → AllSends (sent n to frames)
sends-sent n to [] = tt
sends-sent n to (frame ∷ frames) = sends-sent n to frames

sends-frames : (n : ℕ) (t : List Rule) (frames : List (List ℕ)) → AllSends (from_frames n t frames)
sends-frames n t [] = tt
sends-frames n t (frame ∷ frames) =
    sends-append (from_frame n t frame) (from_frames n (followed t frame) frames)
    (sends-append (sent n Switch (passed (fated t frame))) (sent n Controller (errors (fated t frame))) (sends-sent n Switch (passed (fated t frame))) (sends-sent n Controller (errors (fated t frame))))
    (sends-frames n (followed t frame) frames)

pub sends-side : (n : ℕ) (t : List Rule) (from : Side) (frames : List (List ℕ)) → AllSends (from_side n t from frames)
sends-side n t Controller frames = sends-frames n t frames
sends-side n t Switch frames = sends-sent n Controller frames
