use Rattle.std.proofs.Common.{◌≡◌, ◌∷◌, ◌++◌, drop, map}
use Rattle.of_msgs.specs.declared.command.Command.TheVariants.{Add}
use Rattle.mon_legal.specs.Messages.{catching_rule, other_tags, own_mod}
use Rattle.mon_session.specs.Arming.{clearing, setting}
use Rattle.mon_session.proofs.arming.opening_frames.Given as goal

abbrev pub invariant-loop-other : goal.invariant-loop-other
invariant-loop-other l =
    l.frames ++ map (λ o. own_mod Add (catching_rule o)) (other_tags l.tag (drop l.other-index l.in_use))
    ≡ clearing ∷ setting ∷ map (λ o. own_mod Add (catching_rule o)) (other_tags l.tag l.in_use)
