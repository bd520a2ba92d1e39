-- A header is what its twelve numbers make.
use Rattle.std.proofs.Common.{◌≡◌, ℕ, refl}
use Rattle.mon_header.specs.declared.header.Header.{Header}

unfoldable pub of-numbers : (in_port dl_src dl_dst dl_vlan dl_vlan_pcp dl_type nw_tos nw_proto nw_src nw_dst tp_src tp_dst : ℕ) → Header
of-numbers in_port dl_src dl_dst dl_vlan dl_vlan_pcp dl_type nw_tos nw_proto nw_src nw_dst tp_src tp_dst = record {
  in_port = in_port;
  dl_src = dl_src;
  dl_dst = dl_dst;
  dl_vlan = dl_vlan;
  dl_vlan_pcp = dl_vlan_pcp;
  dl_type = dl_type;
  nw_tos = nw_tos;
  nw_proto = nw_proto;
  nw_src = nw_src;
  nw_dst = nw_dst;
  tp_src = tp_src;
  tp_dst = tp_dst;
}

pub numbers-of : (h : Header) → of-numbers h.in_port h.dl_src h.dl_dst h.dl_vlan h.dl_vlan_pcp h.dl_type h.nw_tos h.nw_proto h.nw_src h.nw_dst h.tp_src h.tp_dst ≡ h
unfolding of-numbers
numbers-of h = refl
