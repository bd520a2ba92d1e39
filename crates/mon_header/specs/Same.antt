-- When two headers are equal.
use Rattle.std.specs.Prelude.{Bool, ◌==◌, ◌&&◌}
use Rattle.mon_header.specs.declared.header.Header.{Header}

-- each field is equal
unfoldable pub same_header : Header → Header → Bool
same_header a b =
    (a.in_port == b.in_port)
    && ((a.dl_src == b.dl_src)
    && ((a.dl_dst == b.dl_dst)
    && ((a.dl_vlan == b.dl_vlan)
    && ((a.dl_vlan_pcp == b.dl_vlan_pcp)
    && ((a.dl_type == b.dl_type)
    && ((a.nw_tos == b.nw_tos)
    && ((a.nw_proto == b.nw_proto)
    && ((a.nw_src == b.nw_src)
    && ((a.nw_dst == b.nw_dst)
    && ((a.tp_src == b.tp_src)
    && (a.tp_dst == b.tp_dst)))))))))))
