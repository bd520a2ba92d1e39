-- Two matches and a header, field by field: what is said of each plain field and of each address, said of all twelve.
use Rattle.std.proofs.Common.{◌≡◌, ℕ, ◌^◌, ◌<◌, ◌≤◌, ◌↔◌, Bool, true, refl, arith}
use Rattle.std.specs.Prelude.{◌&&◌}
use Rattle.mon_header.specs.declared.header.Header.{Header}
use Rattle.mon_header.specs.Matching.{Matching, InRange, IsNormal, agree_above, takes, each_field, matches}
use Rattle.mon_header.proofs.Twelve.{Twelve, split, join}

-- what is said of a plain field: whether each match leaves it out, and its number in each of them and in the header
abbrev pub Plain : Type 1
Plain = Bool → Bool → ℕ → ℕ → ℕ → Type 0

-- the same of an address, of which each match leaves out a count of low bits
abbrev pub Address : Type 1
Address = ℕ → ℕ → ℕ → ℕ → ℕ → Type 0

pub record Fields (P : Plain) (A : Address) (a b : Matching) (h : Header) : Type 0 where
  pub fields :
      Twelve
      (P a.wild.in_port b.wild.in_port a.fields.in_port b.fields.in_port h.in_port)
      (P a.wild.dl_src b.wild.dl_src a.fields.dl_src b.fields.dl_src h.dl_src)
      (P a.wild.dl_dst b.wild.dl_dst a.fields.dl_dst b.fields.dl_dst h.dl_dst)
      (P a.wild.dl_vlan b.wild.dl_vlan a.fields.dl_vlan b.fields.dl_vlan h.dl_vlan)
      (P a.wild.dl_vlan_pcp b.wild.dl_vlan_pcp a.fields.dl_vlan_pcp b.fields.dl_vlan_pcp h.dl_vlan_pcp)
      (P a.wild.dl_type b.wild.dl_type a.fields.dl_type b.fields.dl_type h.dl_type)
      (P a.wild.nw_tos b.wild.nw_tos a.fields.nw_tos b.fields.nw_tos h.nw_tos)
      (P a.wild.nw_proto b.wild.nw_proto a.fields.nw_proto b.fields.nw_proto h.nw_proto)
      (A a.wild.nw_src b.wild.nw_src a.fields.nw_src b.fields.nw_src h.nw_src)
      (A a.wild.nw_dst b.wild.nw_dst a.fields.nw_dst b.fields.nw_dst h.nw_dst)
      (P a.wild.tp_src b.wild.tp_src a.fields.tp_src b.fields.tp_src h.tp_src)
      (P a.wild.tp_dst b.wild.tp_dst a.fields.tp_dst b.fields.tp_dst h.tp_dst)

-- what follows from two things field by field
pub each : (P Q R : Plain) (A B C : Address) (a b : Matching) (h : Header)
    → ((v w : Bool) (x y z : ℕ) → P v w x y z → Q v w x y z → R v w x y z)
    → ((v w x y z : ℕ) → A v w x y z → B v w x y z → C v w x y z)
    → Fields P A a b h → Fields Q B a b h → Fields R C a b h
each P Q R A B C a b h f g p q = record {
  fields = record {
    in_port = f _ _ _ _ _ p.fields.in_port q.fields.in_port;
    dl_src = f _ _ _ _ _ p.fields.dl_src q.fields.dl_src;
    dl_dst = f _ _ _ _ _ p.fields.dl_dst q.fields.dl_dst;
    dl_vlan = f _ _ _ _ _ p.fields.dl_vlan q.fields.dl_vlan;
    dl_vlan_pcp = f _ _ _ _ _ p.fields.dl_vlan_pcp q.fields.dl_vlan_pcp;
    dl_type = f _ _ _ _ _ p.fields.dl_type q.fields.dl_type;
    nw_tos = f _ _ _ _ _ p.fields.nw_tos q.fields.nw_tos;
    nw_proto = f _ _ _ _ _ p.fields.nw_proto q.fields.nw_proto;
    nw_src = g _ _ _ _ _ p.fields.nw_src q.fields.nw_src;
    nw_dst = g _ _ _ _ _ p.fields.nw_dst q.fields.nw_dst;
    tp_src = f _ _ _ _ _ p.fields.tp_src q.fields.tp_src;
    tp_dst = f _ _ _ _ _ p.fields.tp_dst q.fields.tp_dst;
  };
}

-- the header whose fields two functions draw from two matches
unfoldable pub drawn : (Bool → Bool → ℕ → ℕ → ℕ) → (ℕ → ℕ → ℕ → ℕ → ℕ) → Matching → Matching → Header
drawn f g a b = record {
  in_port = f a.wild.in_port b.wild.in_port a.fields.in_port b.fields.in_port;
  dl_src = f a.wild.dl_src b.wild.dl_src a.fields.dl_src b.fields.dl_src;
  dl_dst = f a.wild.dl_dst b.wild.dl_dst a.fields.dl_dst b.fields.dl_dst;
  dl_vlan = f a.wild.dl_vlan b.wild.dl_vlan a.fields.dl_vlan b.fields.dl_vlan;
  dl_vlan_pcp = f a.wild.dl_vlan_pcp b.wild.dl_vlan_pcp a.fields.dl_vlan_pcp b.fields.dl_vlan_pcp;
  dl_type = f a.wild.dl_type b.wild.dl_type a.fields.dl_type b.fields.dl_type;
  nw_tos = f a.wild.nw_tos b.wild.nw_tos a.fields.nw_tos b.fields.nw_tos;
  nw_proto = f a.wild.nw_proto b.wild.nw_proto a.fields.nw_proto b.fields.nw_proto;
  nw_src = g a.wild.nw_src b.wild.nw_src a.fields.nw_src b.fields.nw_src;
  nw_dst = g a.wild.nw_dst b.wild.nw_dst a.fields.nw_dst b.fields.nw_dst;
  tp_src = f a.wild.tp_src b.wild.tp_src a.fields.tp_src b.fields.tp_src;
  tp_dst = f a.wild.tp_dst b.wild.tp_dst a.fields.tp_dst b.fields.tp_dst;
}

pub drawn-is : (f : Bool → Bool → ℕ → ℕ → ℕ) (g : ℕ → ℕ → ℕ → ℕ → ℕ) (a b : Matching)
    → Fields (λ v w x y z. z ≡ f v w x y) (λ v w x y z. z ≡ g v w x y) a b (drawn f g a b)
unfolding drawn
drawn-is f g a b = record {
  fields = record {
    in_port = refl;
    dl_src = refl;
    dl_dst = refl;
    dl_vlan = refl;
    dl_vlan_pcp = refl;
    dl_type = refl;
    nw_tos = refl;
    nw_proto = refl;
    nw_src = refl;
    nw_dst = refl;
    tp_src = refl;
    tp_dst = refl;
  };
}

pub drawn-below : (f : Bool → Bool → ℕ → ℕ → ℕ) (g : ℕ → ℕ → ℕ → ℕ → ℕ) (a b : Matching)
    → ((v w : Bool) (x y n : ℕ) → x < n → y < n → 1 < n → f v w x y < n)
    → ((v w x y : ℕ) → w ≤ 32 → x < 2 ^ 32 → y < 2 ^ 32 → g v w x y < 2 ^ 32)
    → IsNormal a → IsNormal b → InRange (drawn f g a b)
unfolding drawn
drawn-below f g a b p q s t = record {
  in_port = p _ _ _ _ (2 ^ 16) s.range.in_port t.range.in_port (omega arith);
  dl_src = p _ _ _ _ (2 ^ 48) s.range.dl_src t.range.dl_src (omega arith);
  dl_dst = p _ _ _ _ (2 ^ 48) s.range.dl_dst t.range.dl_dst (omega arith);
  dl_vlan = p _ _ _ _ (2 ^ 16) s.range.dl_vlan t.range.dl_vlan (omega arith);
  dl_vlan_pcp = p _ _ _ _ (2 ^ 8) s.range.dl_vlan_pcp t.range.dl_vlan_pcp (omega arith);
  dl_type = p _ _ _ _ (2 ^ 16) s.range.dl_type t.range.dl_type (omega arith);
  nw_tos = p _ _ _ _ (2 ^ 8) s.range.nw_tos t.range.nw_tos (omega arith);
  nw_proto = p _ _ _ _ (2 ^ 8) s.range.nw_proto t.range.nw_proto (omega arith);
  nw_src = q _ _ _ _ t.nw_src_count s.range.nw_src t.range.nw_src;
  nw_dst = q _ _ _ _ t.nw_dst_count s.range.nw_dst t.range.nw_dst;
  tp_src = p _ _ _ _ (2 ^ 16) s.range.tp_src t.range.tp_src (omega arith);
  tp_dst = p _ _ _ _ (2 ^ 16) s.range.tp_dst t.range.tp_dst (omega arith);
}

-- a test of each field
unfoldable pub tested : (Bool → Bool → ℕ → ℕ → ℕ → Bool) → (ℕ → ℕ → ℕ → ℕ → ℕ → Bool) → Matching → Matching → Header → Bool
tested f g a b h =
    f a.wild.in_port b.wild.in_port a.fields.in_port b.fields.in_port h.in_port
    && (f a.wild.dl_src b.wild.dl_src a.fields.dl_src b.fields.dl_src h.dl_src
    && (f a.wild.dl_dst b.wild.dl_dst a.fields.dl_dst b.fields.dl_dst h.dl_dst
    && (f a.wild.dl_vlan b.wild.dl_vlan a.fields.dl_vlan b.fields.dl_vlan h.dl_vlan
    && (f a.wild.dl_vlan_pcp b.wild.dl_vlan_pcp a.fields.dl_vlan_pcp b.fields.dl_vlan_pcp h.dl_vlan_pcp
    && (f a.wild.dl_type b.wild.dl_type a.fields.dl_type b.fields.dl_type h.dl_type
    && (f a.wild.nw_tos b.wild.nw_tos a.fields.nw_tos b.fields.nw_tos h.nw_tos
    && (f a.wild.nw_proto b.wild.nw_proto a.fields.nw_proto b.fields.nw_proto h.nw_proto
    && (g a.wild.nw_src b.wild.nw_src a.fields.nw_src b.fields.nw_src h.nw_src
    && (g a.wild.nw_dst b.wild.nw_dst a.fields.nw_dst b.fields.nw_dst h.nw_dst
    && (f a.wild.tp_src b.wild.tp_src a.fields.tp_src b.fields.tp_src h.tp_src
    && f a.wild.tp_dst b.wild.tp_dst a.fields.tp_dst b.fields.tp_dst h.tp_dst))))))))))

pub tests : (f : Bool → Bool → ℕ → ℕ → ℕ → Bool) (g : ℕ → ℕ → ℕ → ℕ → ℕ → Bool) (a b : Matching) (h : Header)
    → (tested f g a b h ≡ true) ↔ Fields (λ v w x y z. f v w x y z ≡ true) (λ v w x y z. g v w x y z ≡ true) a b h
unfolding tested
tests f g a b h = (λ e. record { fields = split _ _ _ _ _ _ _ _ _ _ _ _ e }, λ t. join _ _ _ _ _ _ _ _ _ _ _ _ t.fields)

-- a test of each field of two matches, whatever the header
pub pairs : (f : Bool → Bool → ℕ → ℕ → Bool) (g : ℕ → ℕ → ℕ → ℕ → Bool) (a b : Matching) (h : Header)
    → (each_field f g a b ≡ true) ↔ Fields (λ v w x y z. f v w x y ≡ true) (λ v w x y z. g v w x y ≡ true) a b h
unfolding each_field tested
pairs f g a b h = tests (λ v w x y z. f v w x y) (λ v w x y z. g v w x y) a b h

-- the first match takes the header
pub left : (a b : Matching) (h : Header)
    → (matches a h ≡ true) ↔ Fields (λ v w x y z. takes v x z ≡ true) (λ v w x y z. agree_above v x z ≡ true) a b h
unfolding matches tested
left a b h = tests (λ v w x y z. takes v x z) (λ v w x y z. agree_above v x z) a b h

-- the second one does
pub right : (a b : Matching) (h : Header)
    → (matches b h ≡ true) ↔ Fields (λ v w x y z. takes w y z ≡ true) (λ v w x y z. agree_above w y z ≡ true) a b h
unfolding matches tested
right a b h = tests (λ v w x y z. takes w y z) (λ v w x y z. agree_above w y z) a b h
