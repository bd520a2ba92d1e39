-- When a match takes a header, covers a match, and overlaps one: field by field (OpenFlow 1.0.0, matching).
use Rattle.std.specs.Prelude.{◌≡◌, ℕ, ◌*◌, ◌/◌, ◌^◌, ◌<◌, ◌≤◌, max, Bool, ◌==◌, nat_le, not, ◌&&◌, ◌||◌, if◌then◌else◌}
use Rattle.mon_header.specs.declared.header.Header.{Header}
use Rattle.mon_header.specs.declared.wild.Wildcards.{Wildcards}
use Rattle.mon_header.specs.Assigned.{PRIORITIES}
use Rattle.mon_header.specs.Wild.{is_exact}

-- a match: what is not compared, and the fields
pub record Matching : Type 0 where
  pub wild : Wildcards
  pub fields : Header

-- a field that is not compared is 0
abbrev pub kept : Bool → ℕ → ℕ
kept wild x = if wild then 0 else x

-- an address without its ignored low bits
abbrev pub kept_above : ℕ → ℕ → ℕ
kept_above count x = x / 2 ^ count * 2 ^ count

-- the normalised form of a match
unfoldable pub normal : Wildcards → Header → Matching
normal w h = record {
  wild = w;
  fields = record {
    in_port = kept w.in_port h.in_port;
    dl_src = kept w.dl_src h.dl_src;
    dl_dst = kept w.dl_dst h.dl_dst;
    dl_vlan = kept w.dl_vlan h.dl_vlan;
    dl_vlan_pcp = kept w.dl_vlan_pcp h.dl_vlan_pcp;
    dl_type = kept w.dl_type h.dl_type;
    nw_tos = kept w.nw_tos (h.nw_tos / 4 * 4);
    nw_proto = kept w.nw_proto h.nw_proto;
    nw_src = kept_above w.nw_src h.nw_src;
    nw_dst = kept_above w.nw_dst h.nw_dst;
    tp_src = kept w.tp_src h.tp_src;
    tp_dst = kept w.tp_dst h.tp_dst;
  };
}

-- a header whose numbers fit their fields
pub record InRange (h : Header) : Type 0 where
  pub in_port : h.in_port < 2 ^ 16
  pub dl_src : h.dl_src < 2 ^ 48
  pub dl_dst : h.dl_dst < 2 ^ 48
  pub dl_vlan : h.dl_vlan < 2 ^ 16
  pub dl_vlan_pcp : h.dl_vlan_pcp < 2 ^ 8
  pub dl_type : h.dl_type < 2 ^ 16
  pub nw_tos : h.nw_tos < 2 ^ 8
  pub nw_proto : h.nw_proto < 2 ^ 8
  pub nw_src : h.nw_src < 2 ^ 32
  pub nw_dst : h.nw_dst < 2 ^ 32
  pub tp_src : h.tp_src < 2 ^ 16
  pub tp_dst : h.tp_dst < 2 ^ 16

-- a match in its normalised form, whose numbers fit
pub record IsNormal (m : Matching) : Type 0 where
  pub same : normal m.wild m.fields ≡ m
  pub nw_src_count : m.wild.nw_src ≤ 32
  pub nw_dst_count : m.wild.nw_dst ≤ 32
  pub range : InRange m.fields

-- two addresses agree but for their low bits
abbrev pub agree_above : ℕ → ℕ → ℕ → Bool
agree_above count x y = x / 2 ^ count == y / 2 ^ count

-- a plain field of a match and of a header
unfoldable pub takes : Bool → ℕ → ℕ → Bool
takes wild x y = wild || (x == y)

-- a plain field of two matches: the wide one does not compare it, or both do, and are equal there
unfoldable pub covers_field : Bool → Bool → ℕ → ℕ → Bool
covers_field wide narrow x y = wide || (not narrow && (x == y))

-- a plain field of two matches: one does not compare it, or they are equal there
unfoldable pub overlaps_field : Bool → Bool → ℕ → ℕ → Bool
overlaps_field a b x y = a || (b || (x == y))

unfoldable pub covers_address : ℕ → ℕ → ℕ → ℕ → Bool
covers_address wide narrow x y = nat_le narrow wide && agree_above wide x y

unfoldable pub overlaps_address : ℕ → ℕ → ℕ → ℕ → Bool
overlaps_address a b x y = agree_above (max a b) x y

-- the match takes the header
unfoldable pub matches : Matching → Header → Bool
matches m h =
    takes m.wild.in_port m.fields.in_port h.in_port
    && (takes m.wild.dl_src m.fields.dl_src h.dl_src
    && (takes m.wild.dl_dst m.fields.dl_dst h.dl_dst
    && (takes m.wild.dl_vlan m.fields.dl_vlan h.dl_vlan
    && (takes m.wild.dl_vlan_pcp m.fields.dl_vlan_pcp h.dl_vlan_pcp
    && (takes m.wild.dl_type m.fields.dl_type h.dl_type
    && (takes m.wild.nw_tos m.fields.nw_tos h.nw_tos
    && (takes m.wild.nw_proto m.fields.nw_proto h.nw_proto
    && (agree_above m.wild.nw_src m.fields.nw_src h.nw_src
    && (agree_above m.wild.nw_dst m.fields.nw_dst h.nw_dst
    && (takes m.wild.tp_src m.fields.tp_src h.tp_src
    && takes m.wild.tp_dst m.fields.tp_dst h.tp_dst))))))))))

-- a test of each plain field and of each address of two matches
unfoldable pub each_field : (Bool → Bool → ℕ → ℕ → Bool) → (ℕ → ℕ → ℕ → ℕ → Bool) → Matching → Matching → Bool
each_field plain address a b =
    plain a.wild.in_port b.wild.in_port a.fields.in_port b.fields.in_port
    && (plain a.wild.dl_src b.wild.dl_src a.fields.dl_src b.fields.dl_src
    && (plain a.wild.dl_dst b.wild.dl_dst a.fields.dl_dst b.fields.dl_dst
    && (plain a.wild.dl_vlan b.wild.dl_vlan a.fields.dl_vlan b.fields.dl_vlan
    && (plain a.wild.dl_vlan_pcp b.wild.dl_vlan_pcp a.fields.dl_vlan_pcp b.fields.dl_vlan_pcp
    && (plain a.wild.dl_type b.wild.dl_type a.fields.dl_type b.fields.dl_type
    && (plain a.wild.nw_tos b.wild.nw_tos a.fields.nw_tos b.fields.nw_tos
    && (plain a.wild.nw_proto b.wild.nw_proto a.fields.nw_proto b.fields.nw_proto
    && (address a.wild.nw_src b.wild.nw_src a.fields.nw_src b.fields.nw_src
    && (address a.wild.nw_dst b.wild.nw_dst a.fields.nw_dst b.fields.nw_dst
    && (plain a.wild.tp_src b.wild.tp_src a.fields.tp_src b.fields.tp_src
    && plain a.wild.tp_dst b.wild.tp_dst a.fields.tp_dst b.fields.tp_dst))))))))))

-- the wide match takes each header that the narrow one takes
unfoldable pub covers : Matching → Matching → Bool
covers wide narrow = each_field covers_field covers_address wide narrow

-- some header is taken by both
unfoldable pub overlaps : Matching → Matching → Bool
overlaps a b = each_field overlaps_field overlaps_address a b

-- the rank of an entry: an entry without wildcards stands above every priority
abbrev pub effective : Matching → ℕ → ℕ
effective m priority = if is_exact m.wild then PRIORITIES else priority
