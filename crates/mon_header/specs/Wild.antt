-- The wildcards of a match, as bools and counts, and as the number that stands on the wire.
use Rattle.std.specs.Prelude.{ℕ, ◌+◌, ◌*◌, ◌/◌, ◌%◌, ◌^◌, min, Bool, not, ◌==◌, ◌&&◌, if◌then◌else◌}
use Rattle.mon_header.specs.declared.wild.Wildcards.{Wildcards}

abbrev pub flag : Bool → ℕ
flag b = if b then 1 else 0

abbrev pub bit : ℕ → ℕ → Bool
bit n place = n / 2 ^ place % 2 == 1

-- the wildcards in one number
unfoldable pub packed : Wildcards → ℕ
packed w =
    flag w.in_port * 2 ^ 0
    + flag w.dl_vlan * 2 ^ 1
    + flag w.dl_src * 2 ^ 2
    + flag w.dl_dst * 2 ^ 3
    + flag w.dl_type * 2 ^ 4
    + flag w.nw_proto * 2 ^ 5
    + flag w.tp_src * 2 ^ 6
    + flag w.tp_dst * 2 ^ 7
    + w.nw_src * 2 ^ 8
    + w.nw_dst * 2 ^ 14
    + flag w.dl_vlan_pcp * 2 ^ 20
    + flag w.nw_tos * 2 ^ 21

-- what a number wildcards: unused bits say nothing, and a count above 32 counts as 32
unfoldable pub unpacked : ℕ → Wildcards
unpacked n = record {
  in_port = bit n 0;
  dl_vlan = bit n 1;
  dl_src = bit n 2;
  dl_dst = bit n 3;
  dl_type = bit n 4;
  nw_proto = bit n 5;
  tp_src = bit n 6;
  tp_dst = bit n 7;
  dl_vlan_pcp = bit n 20;
  nw_tos = bit n 21;
  nw_src = min (n / 2 ^ 8 % 64) 32;
  nw_dst = min (n / 2 ^ 14 % 64) 32;
}

-- every field is compared, and every bit of both addresses
unfoldable pub is_exact : Wildcards → Bool
is_exact w =
    not w.in_port && (not w.dl_vlan && (not w.dl_src && (not w.dl_dst && (not w.dl_type && (not w.nw_proto
    && (not w.tp_src && (not w.tp_dst && (not w.dl_vlan_pcp && (not w.nw_tos
    && ((w.nw_src == 0) && (w.nw_dst == 0)))))))))))
