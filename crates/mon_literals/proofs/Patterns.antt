-- The literals of a match are true together where it takes the header.
use Rattle.std.proofs.Common.{◌≡◌, ℕ, ◌+◌, ◌-◌, ◌/◌, ◌^◌, ◌<◌, ◌≤◌, Bool, true, false, refl, sym, ap, ◌∙◌, subst, List, [], ◌++◌, arith}
use Rattle.std.specs.Prelude.{◌==◌, ◌&&◌}
use Rattle.std.specs.List.{list_all}
use Rattle.std.proofs.lemmas.List.Folds.{list_all-append}
use Rattle.std.proofs.lemmas.Nat.{shr_below}
use Rattle.mon_cnf.specs.declared.clause.Lit.{Lit}
use Rattle.mon_cnf.specs.Truth.{lit_true}
use Rattle.mon_header.specs.declared.header.Header.{Header}
use Rattle.mon_header.specs.Matching.{Matching, IsNormal, agree_above, takes, matches}
use Rattle.mon_literals.specs.Bearing.{Bears}
use Rattle.mon_literals.specs.Runs.{spelled}
use Rattle.mon_literals.specs.Patterns.{compared, compared_above, runs_of, pattern_of}
use Rattle.mon_literals.proofs.Comparing.{HasField, field_true, top_true}
use Rattle.mon_literals.proofs.Fields.{HasFields, fields_borne}

compared_true : (v : ℕ → Bool) (wild : Bool) (start count a x : ℕ) → HasField v start count x → a < 2 ^ count
    → list_all (lit_true v) (spelled (compared wild start count a)) ≡ takes wild a x
unfolding takes
compared_true v true start count a x f small = refl
compared_true v false start count a x f small = field_true v start count x a f small

address_true : (v : ℕ → Bool) (ignored start a x : ℕ) → HasField v start 32 x → a < 2 ^ 32 → ignored ≤ 32
    → list_all (lit_true v) (spelled (compared_above ignored start a)) ≡ agree_above ignored a x
address_true v ignored start a x f small h =
    let whole : (32 - ignored) + ignored ≡ 32 = omega arith in
    let back : 32 - (32 - ignored) ≡ ignored = omega arith in
    top_true v start 32 x (32 - ignored) (a / 2 ^ ignored) f (omega arith) (shr_below a (32 - ignored) ignored (subst (λ (k : ℕ). a < 2 ^ k) (sym whole) small))
    ∙ ap (λ (k : ℕ). a / 2 ^ ignored == x / 2 ^ k) back

-- the literals of one field and of those behind it
then : (v : ℕ → Bool) (ls rest : List Lit) (a b : Bool) → list_all (lit_true v) ls ≡ a → list_all (lit_true v) rest ≡ b
    → list_all (lit_true v) (ls ++ rest) ≡ (a && b)
then v ls rest a b e f =
    list_all-append (lit_true v) ls rest ∙ ap (λ (c : Bool). c && list_all (lit_true v) rest) e ∙ ap (λ (c : Bool). a && c) f

and_true : (a : Bool) → (a && true) ≡ a
and_true true = refl
and_true false = refl

-- the literals of the last field
last : (v : ℕ → Bool) (ls : List Lit) (a : Bool) → list_all (lit_true v) ls ≡ a → list_all (lit_true v) (ls ++ []) ≡ a
last v ls a e = then v ls [] a true e refl ∙ and_true a

pub pattern_true : (v : ℕ → Bool) (h : Header) (m : Matching) → Bears v h → IsNormal m → list_all (lit_true v) (pattern_of m) ≡ matches m h
unfolding runs_of matches
pattern_true v h m b n =
    let f : HasFields v h = fields_borne v h b in
    then v _ _ _ _ (compared_true v m.wild.in_port 0 16 m.fields.in_port h.in_port f.in_port n.range.in_port) (
    then v _ _ _ _ (compared_true v m.wild.dl_src 16 48 m.fields.dl_src h.dl_src f.dl_src n.range.dl_src) (
    then v _ _ _ _ (compared_true v m.wild.dl_dst 64 48 m.fields.dl_dst h.dl_dst f.dl_dst n.range.dl_dst) (
    then v _ _ _ _ (compared_true v m.wild.dl_vlan 112 16 m.fields.dl_vlan h.dl_vlan f.dl_vlan n.range.dl_vlan) (
    then v _ _ _ _ (compared_true v m.wild.dl_vlan_pcp 128 8 m.fields.dl_vlan_pcp h.dl_vlan_pcp f.dl_vlan_pcp n.range.dl_vlan_pcp) (
    then v _ _ _ _ (compared_true v m.wild.dl_type 136 16 m.fields.dl_type h.dl_type f.dl_type n.range.dl_type) (
    then v _ _ _ _ (compared_true v m.wild.nw_tos 152 8 m.fields.nw_tos h.nw_tos f.nw_tos n.range.nw_tos) (
    then v _ _ _ _ (compared_true v m.wild.nw_proto 160 8 m.fields.nw_proto h.nw_proto f.nw_proto n.range.nw_proto) (
    then v _ _ _ _ (address_true v m.wild.nw_src 168 m.fields.nw_src h.nw_src f.nw_src n.range.nw_src n.nw_src_count) (
    then v _ _ _ _ (address_true v m.wild.nw_dst 200 m.fields.nw_dst h.nw_dst f.nw_dst n.range.nw_dst n.nw_dst_count) (
    then v _ _ _ _ (compared_true v m.wild.tp_src 232 16 m.fields.tp_src h.tp_src f.tp_src n.range.tp_src) (
    last v _ _ (compared_true v m.wild.tp_dst 248 16 m.fields.tp_dst h.tp_dst f.tp_dst n.range.tp_dst))))))))))))
