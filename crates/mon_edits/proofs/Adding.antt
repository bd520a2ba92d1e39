-- How an ADD goes to the switch.
use Rattle.std.proofs.Common.{◌≡◌, ℕ, Bool, true, false, not, ◌&&◌, if◌then◌else◌, List, [], ◌∷◌, refl, sym, ap, ◌∙◌}
use Rattle.std.proofs.lemmas.Bool.{false≢true}
use Rattle.mon_table.specs.declared.rule.Rule.{Rule}
use Rattle.mon_table.specs.declared.edit.Edit.{Edit}
use Rattle.of_msgs.specs.declared.command.Command.{Command}
use Rattle.of_msgs.specs.declared.command.Command.TheVariants.{Add, Modify, ModifyStrict, Delete, DeleteStrict}
use Rattle.of_msgs.specs.declared.flow_mod.FlowMod.{FlowMod}
use Rattle.of_msgs.specs.FlowMods.{IsFlowMod, IsFlowModFrame, flow_mod_of, with_flags}
use Rattle.of_msgs.proofs.Spelling.{flagged, written}
use Rattle.mon_edits.specs.Naming.{has_timeout, is_add}
use Rattle.mon_edits.specs.Edits.{added, edits_by, edits_of}
use Rattle.mon_edits.specs.Frames.{with_removal, flags_for, message_for, part_for, frames_of}

only_put : (c : Command) (t : List Rule) (m : FlowMod) → is_add c ≡ true → edits_by c t m ≡ added t m ∷ []
only_put Add t m e = refl
only_put Modify t m e = absurd (false≢true e)
only_put ModifyStrict t m e = absurd (false≢true e)
only_put Delete t m e = absurd (false≢true e)
only_put DeleteStrict t m e = absurd (false≢true e)

-- the frame that came, or the one that is written
chosen : (adds timed : Bool) (bytes whole part : List ℕ) (more own : ℕ) → adds ≡ true → whole ≡ with_flags (if timed then more else own) bytes
    → with_flags own bytes ≡ bytes
    → (if adds && not timed then bytes ∷ [] else (if adds then whole else part) ∷ []) ≡ with_flags (if timed then more else own) bytes ∷ []
chosen false timed bytes whole part more own a e same = absurd (false≢true a)
chosen true true bytes whole part more own a e same = ap (λ (frame : List ℕ). frame ∷ []) e
chosen true false bytes whole part more own a e same = ap (λ (frame : List ℕ). frame ∷ []) (sym same)

pub goes-on : (t : List Rule) (m : FlowMod) (bytes : List ℕ) → IsFlowModFrame bytes → IsFlowMod bytes m → is_add m.command ≡ true
    → frames_of m (edits_of t m) bytes ≡ with_flags (if has_timeout m then with_removal m.flags else m.flags) bytes ∷ []
goes-on t m bytes w p a =
    ap (λ (edits : List Edit). frames_of m edits bytes) (only_put m.command t m a)
    ∙ chosen (is_add m.command) (has_timeout m) bytes (flow_mod_of (message_for m (added t m))) (part_for m (added t m) true)
    (with_removal m.flags) m.flags a (flagged bytes m (flags_for m (added t m)) w p) (sym (flagged bytes m m.flags w p) ∙ written bytes m w p)
