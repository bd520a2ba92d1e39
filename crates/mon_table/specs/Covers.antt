-- Covers: matches that take what others take.
use Rattle.std.specs.Prelude.{◌≡◌, ℕ, ◌/◌, ◌^◌, ◌≤◌, Bool, true, not, ◌==◌, ◌||◌, List}
use Rattle.std.specs.List.{AllByRecursion}
use Rattle.mon_header.specs.declared.header.Header.{Header}
use Rattle.mon_header.specs.declared.wild.Wildcards.{Wildcards}
use Rattle.mon_header.specs.Matching.{Matching, matches}
use Rattle.mon_table.specs.declared.rule.Rule.{Rule}

-- the first match takes each header that the second takes
abbrev pub TakesAll : Matching → Matching → Type 0
TakesAll w n = (h : Header) → matches n h ≡ true → matches w h ≡ true

-- a cover of rules: a match that takes each header that one of them takes
abbrev pub IsCover : Matching → List Rule → Type 0
IsCover m t = AllByRecursion (λ r. TakesAll m r.matching) t

-- one of two matches does not compare a plain field, or they differ there
abbrev pub is_apart : Bool → Bool → ℕ → ℕ → Bool
is_apart a b x y = a || (b || not (x == y))

-- so many low bits of an address have to be ignored, or more: one of two matches ignores them, or they differ there
pub record BitsApart (a b x y n : ℕ) : Type 0 where
  pub first : a ≤ n
  pub second : b ≤ n
  pub agree : x / 2 ^ n ≡ y / 2 ^ n

-- what two matches do not both compare, or differ in
pub record AreApart (a b : Matching) (w : Wildcards) : Type 0 where
  pub in_port : w.in_port ≡ is_apart a.wild.in_port b.wild.in_port a.fields.in_port b.fields.in_port
  pub dl_src : w.dl_src ≡ is_apart a.wild.dl_src b.wild.dl_src a.fields.dl_src b.fields.dl_src
  pub dl_dst : w.dl_dst ≡ is_apart a.wild.dl_dst b.wild.dl_dst a.fields.dl_dst b.fields.dl_dst
  pub dl_vlan : w.dl_vlan ≡ is_apart a.wild.dl_vlan b.wild.dl_vlan a.fields.dl_vlan b.fields.dl_vlan
  pub dl_vlan_pcp : w.dl_vlan_pcp ≡ is_apart a.wild.dl_vlan_pcp b.wild.dl_vlan_pcp a.fields.dl_vlan_pcp b.fields.dl_vlan_pcp
  pub dl_type : w.dl_type ≡ is_apart a.wild.dl_type b.wild.dl_type a.fields.dl_type b.fields.dl_type
  pub nw_tos : w.nw_tos ≡ is_apart a.wild.nw_tos b.wild.nw_tos a.fields.nw_tos b.fields.nw_tos
  pub nw_proto : w.nw_proto ≡ is_apart a.wild.nw_proto b.wild.nw_proto a.fields.nw_proto b.fields.nw_proto
  pub nw_src : BitsApart a.wild.nw_src b.wild.nw_src a.fields.nw_src b.fields.nw_src w.nw_src
  pub nw_dst : BitsApart a.wild.nw_dst b.wild.nw_dst a.fields.nw_dst b.fields.nw_dst w.nw_dst
  pub tp_src : w.tp_src ≡ is_apart a.wild.tp_src b.wild.tp_src a.fields.tp_src b.fields.tp_src
  pub tp_dst : w.tp_dst ≡ is_apart a.wild.tp_dst b.wild.tp_dst a.fields.tp_dst b.fields.tp_dst
  pub src_count : w.nw_src ≤ 32
  pub dst_count : w.nw_dst ≤ 32
