-- What is read of a FLOW_MOD is determined by its bytes.
use Rattle.std.proofs.Common.{◌≡◌, ◌≢◌, ◌⊎◌, ◌↔◌, inl, inr, ℕ, zero, suc, ◌<◌, ◌≤◌, Bool, true, false, nat_lt, if◌then◌else◌, List, length, drop, Option, Some, None, Result, Ok, Err, MatchOption, refl, sym, ap, ◌∙◌, subst, arith}
use mathlib.Core.HLevel.{is_prop→PathP}
use Rattle.std.proofs.Math.Bridge.{le_prop}
use Rattle.std.proofs.Props.{props}
use Rattle.std.proofs.lemmas.Bool.{lt-ltb, le-ltb, ltb-true, ltb-false}
use Rattle.std.proofs.lemmas.Bool.Decides.{eqb_tells}
use Rattle.std.proofs.lemmas.List.{length-drop}
use Rattle.mon_header.specs.Matching.{Matching}
use Rattle.mon_header.specs.declared.action.Action.{Action}
use Rattle.of_match.specs.Layout.{match_of}
use Rattle.of_action.specs.Reading.{actions_of}
use Rattle.of_msgs.specs.Kept.{Means}
use Rattle.of_msgs.specs.declared.command.Command.{Command}
use Rattle.of_msgs.specs.declared.command.Command.TheVariants.{Add, Modify, ModifyStrict, Delete, DeleteStrict}
use Rattle.of_msgs.specs.declared.fault.ModFault.{ModFault}
use Rattle.of_msgs.specs.declared.fault.ModFault.TheVariants as faults
use Rattle.of_msgs.specs.declared.flow_mod.FlowMod.{FlowMod}
use Rattle.of_msgs.specs.FlowMods.{command_number, command_at, IsFlowMod, ReadsFlowMod}
use Rattle.of_msgs.proofs.Mods.{few_commands}
use Rattle.of_msgs.specs.ReadMods.{command_numbered, mod_of, mod_in_frame, mod_of_actions, mod_of_command, flow_mod_in}

-- ---- one message for the same fields

matching_set : IsSet Matching
matching_set = hlevel props

read_set : IsSet (Result (List Action) ℕ)
read_set = hlevel props

-- the facts that a message keeps have one proof at most
pub same_mod : (m n : FlowMod) → m.xid ≡ n.xid → m.spelled ≡ n.spelled → m.matching ≡ n.matching → m.cookie ≡ n.cookie
    → m.command ≡ n.command → m.idle ≡ n.idle → m.hard ≡ n.hard → m.priority ≡ n.priority → m.buffer ≡ n.buffer
    → m.out_port ≡ n.out_port → m.flags ≡ n.flags → m.actions ≡ n.actions → m.raw ≡ n.raw → m ≡ n
same_mod m n xid spelled matching cookie command idle hard priority buffer out_port flags actions raw = λ i. record {
  xid = xid i;
  spelled = spelled i;
  matching = matching i;
  cookie = cookie i;
  command = command i;
  idle = idle i;
  hard = hard i;
  priority = priority i;
  buffer = buffer i;
  out_port = out_port i;
  flags = flags i;
  actions = actions i;
  raw = raw i;
  short = is_prop→PathP (λ j. length (raw j) ≤ 65463) (λ j. le_prop) m.short n.short i;
  matched = is_prop→PathP (λ j. matching j ≡ match_of (spelled j)) (λ j. matching_set (matching j) (match_of (spelled j))) m.matched n.matched i;
  meant = is_prop→PathP (λ j. Means (raw j) (actions j)) (λ j. read_set (actions_of (raw j)) (Ok (actions j))) m.meant n.meant i;
}

-- ---- commands and their numbers

its_number : (command : Command) → command_numbered (command_number command) ≡ Some command
its_number Add = refl
its_number Modify = refl
its_number ModifyStrict = refl
its_number Delete = refl
its_number DeleteStrict = refl

-- a number above the last command's is none's
beyond : (number : ℕ) → 4 < number → command_numbered number ≡ None
beyond number above =
    grind (arith, eqb_tells number 0, eqb_tells number 1, eqb_tells number 2, eqb_tells number 3, eqb_tells number 4)

-- the command of a number has this number, and only a number above the last command's has none
numbered : (number : ℕ) → MatchOption (command_numbered number) (4 < number) (λ command. command_number command ≡ number)
numbered zero = refl
numbered (suc zero) = refl
numbered (suc (suc zero)) = refl
numbered (suc (suc (suc zero))) = refl
numbered (suc (suc (suc (suc zero)))) = refl
numbered (suc (suc (suc (suc (suc number))))) =
    let above : 4 < suc (suc (suc (suc (suc number)))) = omega arith in
    rw (beyond (suc (suc (suc (suc (suc number))))) above) above

-- ---- each answer is that of the definition

of_long : (bytes : List ℕ) → 72 ≤ length bytes → flow_mod_in bytes ≡ mod_of_command bytes (command_numbered (command_at bytes))
unfolding flow_mod_in
of_long bytes long = ap (λ (b : Bool). if b then Err faults.ModLength else mod_of_command bytes (command_numbered (command_at bytes))) (le-ltb (length bytes) 72 long)

of_short : (bytes : List ℕ) → length bytes < 72 → flow_mod_in bytes ≡ Err faults.ModLength
unfolding flow_mod_in
of_short bytes short = ap (λ (b : Bool). if b then Err faults.ModLength else mod_of_command bytes (command_numbered (command_at bytes))) (lt-ltb (length bytes) 72 short)

-- the message that fits a frame
in_frame : (bytes : List ℕ) (m : FlowMod) (actions : List Action) (meant : Means (drop 72 bytes) actions) (over : Bool)
    (test : nat_lt 65463 (length (drop 72 bytes)) ≡ over) → actions ≡ m.actions → IsFlowMod bytes m
    → Ok m ≡ mod_in_frame bytes m.command actions meant over test
in_frame bytes m actions meant true test same p =
    absurd (omega (arith, ltb-true 65463 (length (drop 72 bytes)) test, ap length p.raw_from_72, m.short))
in_frame bytes m actions meant false test same p =
    ap (λ (n : FlowMod). Ok n) (same_mod m (mod_of bytes m.command actions (ltb-false 65463 (length (drop 72 bytes)) test) meant)
    p.xid_at_4 p.match_at_8 p.matching p.cookie_at_48 refl p.idle_at_58 p.hard_at_60 p.priority_at_62 p.buffer_at_64
    p.out_port_at_68 p.flags_at_70 (sym same) p.raw_from_72)

of_its_actions : (bytes : List ℕ) (m : FlowMod) (read : Result (List Action) ℕ) (e : actions_of (drop 72 bytes) ≡ read) → read ≡ Ok m.actions
    → IsFlowMod bytes m → Ok m ≡ mod_of_actions bytes m.command read e
of_its_actions bytes m (Ok actions) e same p = in_frame bytes m actions e (nat_lt 65463 (length (drop 72 bytes))) refl (cc) p
of_its_actions bytes m (Err place) e same p = absurd (cc)

of_faulty_actions : (bytes : List ℕ) (command : Command) (place : ℕ) (read : Result (List Action) ℕ) (e : actions_of (drop 72 bytes) ≡ read) → read ≡ Err place
    → Err (faults.ActionLength place) ≡ mod_of_actions bytes command read e
of_faulty_actions bytes command place (Ok actions) e same = absurd (cc)
of_faulty_actions bytes command place (Err other) e same = cc

of_faulty_command : (bytes : List ℕ) (place : ℕ) (command : Option Command) → MatchOption command (4 < command_at bytes) (λ c. command_number c ≡ command_at bytes)
    → command_at bytes ≤ 4 → actions_of (drop 72 bytes) ≡ Err place → Err (faults.ActionLength place) ≡ mod_of_command bytes command
of_faulty_command bytes place (Some command) numbers few e = of_faulty_actions bytes command place (actions_of (drop 72 bytes)) refl e
of_faulty_command bytes place None numbers few e = absurd (omega arith)

-- a message that the bytes are is what is read of them
pub of_message : (bytes : List ℕ) (m : FlowMod) → IsFlowMod bytes m → flow_mod_in bytes ≡ Ok m
of_message bytes m p =
    let its_command : command_numbered (command_at bytes) ≡ Some m.command = ap command_numbered (sym p.command_at_56) ∙ its_number m.command in
    of_long bytes p.long ∙ ap (mod_of_command bytes) its_command ∙ sym (of_its_actions bytes m (actions_of (drop 72 bytes)) refl p.actions p)

pub determined : (bytes : List ℕ) (answer : Result FlowMod ModFault) → ReadsFlowMod bytes answer
    → (answer ≡ Err faults.OutOfMemory) ⊎ (answer ≡ flow_mod_in bytes)
determined bytes (Ok m) p = inr (sym (of_message bytes m p))
determined bytes (Err faults.ModLength) p = inr (sym (of_short bytes p))
determined bytes (Err faults.ModCommand) p = inr (sym (of_long bytes p.0 ∙ ap (mod_of_command bytes) (beyond (command_at bytes) p.1)))
determined bytes (Err (faults.ActionLength place)) p =
    inr (of_faulty_command bytes place (command_numbered (command_at bytes)) (numbered (command_at bytes)) p.1 p.2 ∙ sym (of_long bytes p.0))
determined bytes (Err faults.OutOfMemory) p = inl refl

-- ---- the definition's answer is one

-- what the definition answers, whatever the bytes
abbrev Answered : List ℕ → Result FlowMod ModFault → Type 0
Answered bytes (Ok m) = IsFlowMod bytes m
Answered bytes (Err faults.ModLength) = (length bytes < 72) ⊎ (65535 < length bytes)
Answered bytes (Err faults.ModCommand) = (72 ≤ length bytes) × (4 < command_at bytes)
Answered bytes (Err (faults.ActionLength place)) = (72 ≤ length bytes) × (command_at bytes ≤ 4) × (actions_of (drop 72 bytes) ≡ Err place)
Answered bytes (Err faults.OutOfMemory) = ⊥

answered_in_frame : (bytes : List ℕ) (command : Command) → 72 ≤ length bytes → command_number command ≡ command_at bytes
    → (actions : List Action) (meant : Means (drop 72 bytes) actions) (over : Bool) (test : nat_lt 65463 (length (drop 72 bytes)) ≡ over)
    → Answered bytes (mod_in_frame bytes command actions meant over test)
answered_in_frame bytes command long numbers actions meant true test =
    inr (omega (arith, ltb-true 65463 (length (drop 72 bytes)) test, length-drop 72 bytes))
answered_in_frame bytes command long numbers actions meant false test = record {
  long = long;
  xid_at_4 = refl;
  match_at_8 = refl;
  matching = refl;
  cookie_at_48 = refl;
  command_at_56 = numbers;
  idle_at_58 = refl;
  hard_at_60 = refl;
  priority_at_62 = refl;
  buffer_at_64 = refl;
  out_port_at_68 = refl;
  flags_at_70 = refl;
  raw_from_72 = refl;
  actions = meant;
}

answered_actions : (bytes : List ℕ) (command : Command) → 72 ≤ length bytes → command_number command ≡ command_at bytes
    → (read : Result (List Action) ℕ) (e : actions_of (drop 72 bytes) ≡ read) → Answered bytes (mod_of_actions bytes command read e)
answered_actions bytes command long numbers (Ok actions) e =
    answered_in_frame bytes command long numbers actions e (nat_lt 65463 (length (drop 72 bytes))) refl
answered_actions bytes command long numbers (Err place) e =
    let few : command_at bytes ≤ 4 = rw (← numbers) (few_commands command) in (long, few, e)

answered_command : (bytes : List ℕ) (command : Option Command) → MatchOption command (4 < command_at bytes) (λ c. command_number c ≡ command_at bytes)
    → 72 ≤ length bytes → Answered bytes (mod_of_command bytes command)
answered_command bytes (Some command) numbers long = answered_actions bytes command long numbers (actions_of (drop 72 bytes)) refl
answered_command bytes None above long = (long, above)

answered_by_length : (bytes : List ℕ) (short : Bool) → nat_lt (length bytes) 72 ≡ short → Answered bytes (flow_mod_in bytes)
answered_by_length bytes true test =
    let short : length bytes < 72 = ltb-true (length bytes) 72 test in
    subst (Answered bytes) (sym (of_short bytes short)) (inl short)
answered_by_length bytes false test =
    let long : 72 ≤ length bytes = ltb-false (length bytes) 72 test in
    subst (Answered bytes) (sym (of_long bytes long)) (answered_command bytes (command_numbered (command_at bytes)) (numbered (command_at bytes)) long)

answered : (bytes : List ℕ) → Answered bytes (flow_mod_in bytes)
answered bytes = answered_by_length bytes (nat_lt (length bytes) 72) refl

reads_of_frame : (bytes : List ℕ) (answer : Result FlowMod ModFault) → length bytes ≤ 65535 → Answered bytes answer → ReadsFlowMod bytes answer
reads_of_frame bytes (Ok m) fits p = p
reads_of_frame bytes (Err faults.ModLength) fits p = omega arith
reads_of_frame bytes (Err faults.ModCommand) fits p = p
reads_of_frame bytes (Err (faults.ActionLength place)) fits p = p
reads_of_frame bytes (Err faults.OutOfMemory) fits p = tt

pub reads : (bytes : List ℕ) → length bytes ≤ 65535 → ReadsFlowMod bytes (flow_mod_in bytes)
reads bytes fits = reads_of_frame bytes (flow_mod_in bytes) fits (answered bytes)

pub is_message : (bytes : List ℕ) (m : FlowMod) → (flow_mod_in bytes ≡ Ok m) ↔ IsFlowMod bytes m
is_message bytes m = ((λ e. subst (Answered bytes) e (answered bytes)), of_message bytes m)

pub finds_memory : (bytes : List ℕ) → flow_mod_in bytes ≢ Err faults.OutOfMemory
finds_memory bytes e = subst (Answered bytes) e (answered bytes)

-- the law, but for its clause on messages
pub ruleset reading = (determined, reads, finds_memory)
