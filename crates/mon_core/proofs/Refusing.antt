-- The fate of a frame that is answered by an ERROR.
use Rattle.std.proofs.Common.{◌≡◌, ◌≢◌, ℕ, false, List, [], Some, Result, Ok, Err, sym, subst, ◌∙◌, ◌⊎◌, inl, inr}
use Rattle.std.specs.Prelude.{IfOk}
use Rattle.of_frame.specs.Kinds.{FLOW_MOD}
use Rattle.of_frame.specs.Header.{kind_of}
use Rattle.mon_table.specs.declared.rule.Rule.{Rule}
use Rattle.of_msgs.specs.declared.fault.ModFault.{ModFault}
use Rattle.of_msgs.specs.declared.fault.ModFault.TheVariants as faults
use Rattle.of_msgs.specs.declared.flow_mod.FlowMod.{FlowMod}
use Rattle.of_msgs.specs.ReadMods.{flow_mod_in}
use Rattle.mon_edits.specs.declared.refusal.ModRefusal.{ModRefusal}
use Rattle.mon_edits.specs.declared.refusal.ModRefusal.TheVariants as refusals
use Rattle.mon_edits.specs.Naming.{is_emergency}
use Rattle.mon_edits.specs.Refusals.{refusal}
use Rattle.mon_core.specs.declared.fate.Fate.{Fate}
use Rattle.mon_core.specs.Fates.{fate, planned, of_fault, of_refusal}

pub refused-is : {E : Type 0} (r : Result Fate E) (refused : ModRefusal) (t catching : List Rule) (m : FlowMod) → is_emergency m ≡ false → catching ≡ []
    → (refused ≡ refusals.OutOfMemory) ⊎ (refusal t catching 0 m ≡ Some refused)
    → IfOk r (λ found. found ≡ of_refusal refused) → IfOk r (λ found. refused ≢ refusals.OutOfMemory) → IfOk r (λ found. found ≡ planned t m)
refused-is (Err x) refused t catching m calm none answer value memory = tt
refused-is (Ok x) refused t catching m calm none (inl e) value memory = absurd (memory e)
refused-is (Ok x) refused t catching m calm none (inr e) value memory =
    let first : refusal t [] 0 m ≡ Some refused = subst (λ (c : List Rule). refusal t c 0 m ≡ Some refused) none e in
    rw (calm, first) value

pub unread-is : {E : Type 0} (r : Result Fate E) (answer : Result FlowMod ModFault) (fault : ModFault) (t : List Rule) (frame : List ℕ) → kind_of frame ≡ FLOW_MOD → answer ≡ Err fault
    → (answer ≡ Err faults.OutOfMemory) ⊎ (answer ≡ flow_mod_in frame)
    → IfOk r (λ found. found ≡ of_fault fault) → IfOk r (λ found. fault ≢ faults.OutOfMemory) → IfOk r (λ found. found ≡ fate t frame)
unread-is (Err x) answer fault t frame kind is read value memory = tt
unread-is (Ok x) answer fault t frame kind is (inl e) value memory = absurd (memory (let same : fault ≡ faults.OutOfMemory = cc in same))
unread-is (Ok x) answer fault t frame kind is (inr e) value memory =
    let found : flow_mod_in frame ≡ Err fault = sym e ∙ is in
    rw (kind, found) value
