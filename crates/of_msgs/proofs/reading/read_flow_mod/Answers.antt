use Rattle.std.proofs.Common.{rules, ◌≤◌, Err, sym, ap, ◌∙◌}
use Rattle.std.proofs.lemmas.List.{take_rest}
use Rattle.of_match.specs.Layout.{match_of}
use Rattle.of_action.specs.Reading.{actions_of}
use Rattle.of_frame.specs.Header.{xid_of}
use Rattle.of_msgs.specs.FlowMods.{command_at}
use Rattle.of_msgs.specs.declared.fault.ModFault.TheVariants as faults
use Rattle.of_msgs.proofs.Determined.{of_message, determined}
use Rattle.of_msgs.proofs.Mods.{moved, few_commands, refused}
use Rattle.of_msgs.proofs.reading.read_flow_mod.Goals as goal

pub returns-in_err-actions-clause-reads : goal.returns-in_err-actions-clause-reads
returns-in_err-actions-clause-reads c =
    let bytes = c.bytes-bytes.result.now in
    let few : command_at bytes ≤ 4 = rw (← c.u16_at.ensures, ← c.in-Some.ensures) (few_commands c.in-Some.command) in
    refused _ c.in_err-actions.field-0.0 bytes _ c.bytes-bytes.ensures.value c.if-bytes-lt72.false few
    (rw take_rest at c.in_err-actions.ensures) c.from_residual.ensures.1

pub returns-in_err-actions-clause-as_function : goal.returns-in_err-actions-clause-as_function
returns-in_err-actions-clause-as_function c = determined _ _ (returns-in_err-actions-clause-reads c)

pub returns-clause-reads : goal.returns-clause-reads
returns-clause-reads c =
    let bytes = c.bytes-bytes.result.now in
    moved bytes _ _ c.bytes-bytes.ensures.value (record {
      long = c.if-bytes-lt72.false;
      xid_at_4 = c.xid.ensures ∙ ap xid_of (sym c.bytes-bytes.ensures.value);
      match_at_8 = c.match_bytes-spelled.ensures;
      matching = c.read_match.ensures ∙ ap match_of c.match_bytes-spelled.ensures;
      cookie_at_48 = c.u64_at.ensures;
      command_at_56 = c.in-Some.ensures ∙ c.u16_at.ensures;
      idle_at_58 = c.u16_at-2.ensures;
      hard_at_60 = c.u16_at-3.ensures;
      priority_at_62 = c.u16_at-4.ensures;
      buffer_at_64 = c.u32_at.ensures;
      out_port_at_68 = c.u16_at-5.ensures;
      flags_at_70 = c.u16_at-6.ensures;
      raw_from_72 = c.of-raw.ensures ∙ (c.in_ok-from_slice.ensures.items ∙ take_rest bytes 72);
      actions = ap actions_of (sym (take_rest bytes 72)) ∙ c.in_ok-actions.ensures;
    })

pub returns-clause-message : goal.returns-clause-message
returns-clause-message c = of_message _ _ (returns-clause-reads c)

pub returns-clause-as_function : goal.returns-clause-as_function
returns-clause-as_function c = determined _ _ (returns-clause-reads c)

pub returns-then-bytes-lt72-clause-as_function : goal.returns-then-bytes-lt72-clause-as_function
returns-then-bytes-lt72-clause-as_function c = determined c.args.frame.now (Err faults.ModLength) (search rules)

pub returns-in_default-clause-as_function : goal.returns-in_default-clause-as_function
returns-in_default-clause-as_function c = determined c.args.frame.now (Err faults.ModCommand) (search rules)
