-- The fields of the header that values bear.
use Rattle.std.proofs.Common.{ℕ, ◌+◌, Bool, ◌∙◌, arith}
use Rattle.mon_header.specs.declared.header.Header.{Header}
use Rattle.mon_header.specs.Matching.{InRange}
use Rattle.mon_header.proofs.Classing.{fits-range}
use Rattle.mon_header.proofs.Placing.{in_port-places, dl_src-places, dl_dst-places, dl_vlan-places, dl_vlan_pcp-places, dl_type-places, nw_tos-places, nw_proto-places, nw_src-places, nw_dst-places, tp_src-places, tp_dst-places}
use Rattle.mon_literals.specs.Bearing.{Bears}
use Rattle.mon_literals.proofs.Comparing.{HasField}

pub record HasFields (v : ℕ → Bool) (h : Header) : Type 0 where
  pub in_port : HasField v 0 16 h.in_port
  pub dl_src : HasField v 16 48 h.dl_src
  pub dl_dst : HasField v 64 48 h.dl_dst
  pub dl_vlan : HasField v 112 16 h.dl_vlan
  pub dl_vlan_pcp : HasField v 128 8 h.dl_vlan_pcp
  pub dl_type : HasField v 136 16 h.dl_type
  pub nw_tos : HasField v 152 8 h.nw_tos
  pub nw_proto : HasField v 160 8 h.nw_proto
  pub nw_src : HasField v 168 32 h.nw_src
  pub nw_dst : HasField v 200 32 h.nw_dst
  pub tp_src : HasField v 232 16 h.tp_src
  pub tp_dst : HasField v 248 16 h.tp_dst

pub fields_borne : (v : ℕ → Bool) (h : Header) → Bears v h → HasFields v h
fields_borne v h b =
    let r : InRange h = fits-range h b.fit in
    record {
      in_port = record { fits = r.in_port; each = λ n p. b.each (0 + n) (omega arith) ∙ in_port-places h n p };
      dl_src = record { fits = r.dl_src; each = λ n p. b.each (16 + n) (omega arith) ∙ dl_src-places h n p };
      dl_dst = record { fits = r.dl_dst; each = λ n p. b.each (64 + n) (omega arith) ∙ dl_dst-places h n p };
      dl_vlan = record { fits = r.dl_vlan; each = λ n p. b.each (112 + n) (omega arith) ∙ dl_vlan-places h n p };
      dl_vlan_pcp = record { fits = r.dl_vlan_pcp; each = λ n p. b.each (128 + n) (omega arith) ∙ dl_vlan_pcp-places h n p };
      dl_type = record { fits = r.dl_type; each = λ n p. b.each (136 + n) (omega arith) ∙ dl_type-places h n p };
      nw_tos = record { fits = r.nw_tos; each = λ n p. b.each (152 + n) (omega arith) ∙ nw_tos-places h n p };
      nw_proto = record { fits = r.nw_proto; each = λ n p. b.each (160 + n) (omega arith) ∙ nw_proto-places h n p };
      nw_src = record { fits = r.nw_src; each = λ n p. b.each (168 + n) (omega arith) ∙ nw_src-places h n p };
      nw_dst = record { fits = r.nw_dst; each = λ n p. b.each (200 + n) (omega arith) ∙ nw_dst-places h n p };
      tp_src = record { fits = r.tp_src; each = λ n p. b.each (232 + n) (omega arith) ∙ tp_src-places h n p };
      tp_dst = record { fits = r.tp_dst; each = λ n p. b.each (248 + n) (omega arith) ∙ tp_dst-places h n p };
    }
