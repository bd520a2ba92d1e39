-- What is written is read back.
use Rattle.std.proofs.Common.{◌≡◌, ℕ, ◌+◌, ◌^◌, ◌<◌, List, ◌++◌, length, take, drop, refl, sym, ap, ◌∙◌, append_assoc, arith}
use Rattle.std.proofs.lemmas.List.{take_at, drop_at, drop-drop, length-append}
use Rattle.byteorder.specs.Endian.{big_number, big_bytes}
use Rattle.byteorder.specs.Numbers.{big_number-reads_back}
use Rattle.of_action.specs.Reading.{actions_of}
use Rattle.of_frame.specs.Header.{xid_of, made}
use Rattle.of_match.specs.Layout.{match_of}
use Rattle.of_msgs.specs.declared.flow_mod.FlowMod.{FlowMod}
use Rattle.of_msgs.specs.Layout.{IsError, error_of}
use Rattle.of_msgs.specs.FlowMods.{command_number, FitsMod, IsFlowMod, fields_of_mod, flow_mod_of}
use Rattle.of_msgs.proofs.Mods.{few_commands}

pub error_fields : (kind code : ℕ) (failed : List ℕ) → kind < 2 ^ 16 → code < 2 ^ 16 → IsError (error_of kind code failed) kind code (take 64 failed)
error_fields kind code failed k c = record {
  long = omega arith;
  kind_at_8 = sym (big_number-reads_back 2 kind (big_bytes 2 code ++ take 64 failed) k);
  code_at_10 = sym (big_number-reads_back 2 code (take 64 failed) c);
  failed_from_12 = refl;
}

-- what stands behind the match
behind : (spelled tail : List ℕ) (n : ℕ) → length spelled ≡ 40 → drop (40 + n) (spelled ++ tail) ≡ drop n tail
behind spelled tail n len = sym (drop-drop n 40 (spelled ++ tail)) ∙ ap (drop n) (drop_at spelled tail 40 len)

pub again : (m : FlowMod) → FitsMod m → IsFlowMod (flow_mod_of m) m
again m p =
    let tail = fields_of_mod m ++ m.raw in
    let body : m.spelled ++ fields_of_mod m ++ m.raw ≡ m.spelled ++ tail = append_assoc m.spelled (fields_of_mod m) m.raw in
    let few = few_commands m.command in
    let front : take 40 (m.spelled ++ fields_of_mod m ++ m.raw) ≡ m.spelled = ap (take 40) body ∙ take_at m.spelled tail 40 p.spelled in
    let at : (n : ℕ) → drop (40 + n) (m.spelled ++ fields_of_mod m ++ m.raw) ≡ drop n tail = λ (n : ℕ). ap (drop (40 + n)) body ∙ behind m.spelled tail n p.spelled in
    record {
      long = omega (arith, length-append m.spelled tail, ap length body, p.spelled);
      xid_at_4 = sym (big_number-reads_back 4 m.xid (m.spelled ++ fields_of_mod m ++ m.raw) p.xid);
      match_at_8 = sym front;
      matching = m.matched ∙ ap match_of (sym front);
      cookie_at_48 = sym (ap (big_number 8) (at 0) ∙ big_number-reads_back 8 m.cookie (drop 8 tail) p.cookie);
      command_at_56 = sym (ap (big_number 2) (at 8) ∙ big_number-reads_back 2 (command_number m.command) (drop 10 tail) (omega arith));
      idle_at_58 = sym (ap (big_number 2) (at 10) ∙ big_number-reads_back 2 m.idle (drop 12 tail) p.idle);
      hard_at_60 = sym (ap (big_number 2) (at 12) ∙ big_number-reads_back 2 m.hard (drop 14 tail) p.hard);
      priority_at_62 = sym (ap (big_number 2) (at 14) ∙ big_number-reads_back 2 m.priority (drop 16 tail) p.priority);
      buffer_at_64 = sym (ap (big_number 4) (at 16) ∙ big_number-reads_back 4 m.buffer (drop 20 tail) p.buffer);
      out_port_at_68 = sym (ap (big_number 2) (at 20) ∙ big_number-reads_back 2 m.out_port (drop 22 tail) p.out_port);
      flags_at_70 = sym (ap (big_number 2) (at 22) ∙ big_number-reads_back 2 m.flags m.raw p.flags);
      raw_from_72 = sym (at 24);
      actions = ap actions_of (at 24) ∙ m.meant;
    }

pub read_back : (m : FlowMod) (frame body : List ℕ) → FitsMod m → frame ≡ made 14 m.xid body → body ≡ m.spelled ++ fields_of_mod m ++ m.raw → IsFlowMod frame m
read_back m frame body p made_so body_so = rw (made_so, body_so) (again m p)

pub error_read_back : (kind code xid : ℕ) (failed given frame body : List ℕ) → kind < 2 ^ 16 → code < 2 ^ 16 → xid ≡ xid_of failed → given ≡ failed
    → frame ≡ made 1 xid body → body ≡ big_bytes 2 kind ++ big_bytes 2 code ++ take 64 given → IsError frame kind code (take 64 failed)
error_read_back kind code xid failed given frame body k c xid_so given_so made_so body_so =
    rw (made_so, body_so, xid_so, given_so) (error_fields kind code failed k c)
