-- A view and a table of rules that are made from numbers.
use Rattle.std.specs.Prelude.{ℕ, zero, suc, ◌+◌, ◌*◌, ◌/◌, ◌%◌, Bool, true, false, not, ◌==◌, if◌then◌else◌, List, [], ◌∷◌}
use Rattle.mon_header.specs.declared.header.Header.{Header}
use Rattle.mon_header.specs.declared.header.TheConstants.{BLANK}
use Rattle.mon_header.specs.Assigned.{IPV4_TYPE, UDP_PROTOCOL}
use Rattle.mon_header.specs.declared.wild.Wildcards.{Wildcards}
use Rattle.mon_header.specs.declared.action.Action.{Action}
use Rattle.mon_header.specs.declared.action.Action.TheVariants.{Output}
use Rattle.mon_header.specs.Matching.{normal}
use Rattle.mon_table.specs.declared.rule.Rule.{Rule}
use Rattle.mon_table.specs.declared.edit.Edit.TheVariants.{Put}
use Rattle.mon_table.specs.Rules.{identity_of}
use Rattle.mon_table.specs.Tables.{rule_of}
use Rattle.mon_table.specs.Edits.{after}
use Rattle.mon_shows.specs.declared.near.Near.{Near}
use Rattle.mon_shows.specs.Views.{Viewing}

-- a link at a port, to the port 1 of the switch with the number above, whose tag is 101
abbrev pub link_at : ℕ → Near
link_at port = record { port = port; switch = suc port; far_port = 1; tag = 101 }

-- switch 1 with the tag 100 and links at the ports 1 to 4
abbrev pub generated_view : Viewing
generated_view = record {
  switch = 1;
  tag = 100;
  tags = 100 ∷ 101 ∷ [];
  links = link_at 1 ∷ link_at 2 ∷ link_at 3 ∷ link_at 4 ∷ [];
  miss = 128;
}

-- the number that the rule of a place is made from
abbrev pub number_of : ℕ → ℕ → ℕ
number_of seed place = (seed + 40503 * place) % 65536

-- how many low bits of the address a rule ignores: 24, 16, 8 or 0
abbrev pub ignored_bits : ℕ → ℕ
ignored_bits k = if k % 4 == 0 then 24 else (if k % 4 == 1 then 16 else (if k % 4 == 2 then 8 else 0))

-- the rule takes datagrams of UDP alone
abbrev pub is_for_udp : ℕ → Bool
is_for_udp k = k / 4 % 4 == 3

-- all is wildcarded but dl_type, the upper bits of nw_dst and, for UDP, nw_proto
unfoldable pub wild_of : ℕ → Wildcards
wild_of k = record {
  in_port = true;
  dl_vlan = true;
  dl_src = true;
  dl_dst = true;
  dl_type = false;
  nw_proto = not (is_for_udp k);
  tp_src = true;
  tp_dst = true;
  nw_src = 32;
  nw_dst = ignored_bits k;
  dl_vlan_pcp = true;
  nw_tos = true;
}

-- IPv4 to an address above 10.0.0.0
unfoldable pub fields_of : ℕ → Header
fields_of k = record BLANK {
  dl_type = IPV4_TYPE;
  nw_proto = if is_for_udp k then UDP_PROTOCOL else 0;
  nw_dst = 0x0a000000 + 256 * k;
}

-- an output to one of the ports 1 to 4
abbrev pub output_to : ℕ → Action
output_to n = Output (1 + n % 4) 0

-- none, or one or two outputs
abbrev pub actions_for : ℕ → List Action
actions_for k =
    if k % 5 == 0 then [] else (output_to (k / 64) ∷ (if k % 7 == 0 then output_to (k / 64 + 1) ∷ [] else []))

abbrev pub priority_of : ℕ → ℕ
priority_of k = 1000 * (k % 4 + 1) + k / 16 % 4

-- the rule that is made from a number
unfoldable pub rule_from : ℕ → Rule
rule_from k = record { matching = normal (wild_of k) (fields_of k); priority = priority_of k; actions = actions_for k; unsure = false }

-- the table after an ADD of a rule, which replaces one of its identity (OpenFlow 1.0.0, modify flow entry message)
abbrev pub added : List Rule → Rule → List Rule
added t r = after t (Put r (rule_of (identity_of r) t))

-- what so many ADDs leave, one for each place from 0 on
abbrev pub generated : ℕ → ℕ → List Rule
generated seed zero = []
generated seed (suc place) = added (generated seed place) (rule_from (number_of seed place))
