-- The clause of two rewrites is true where what they make of a header differs.
use Rattle.std.proofs.Common.{◌≡◌, ℕ, Bool, true, false, not, if◌then◌else◌, refl, sym, ap, ◌∙◌, subst, List, [], Option, Some, None}
use Rattle.std.specs.Prelude.{◌==◌, ◌&&◌, ◌||◌}
use Rattle.std.proofs.lemmas.List.Folds.{list_any-append}
use Rattle.std.proofs.lemmas.Bool.{eq-eqb, and_left, and_right}
use Rattle.mon_cnf.specs.declared.clause.Lit.{Lit}
use Rattle.mon_cnf.specs.Truth.{lit_true, clause_true}
use Rattle.mon_header.specs.declared.header.Header.{Header}
use Rattle.mon_header.specs.Same.{same_header}
use Rattle.mon_outcome.specs.declared.rewrite.Rewrite.{Rewrite}
use Rattle.mon_outcome.specs.Filling.{filled_field, filled, laid}
use Rattle.mon_literals.specs.Bearing.{Bears}
use Rattle.mon_literals.specs.Runs.{run, spelled}
use Rattle.mon_literals.specs.Differing.{FitsField, FitsFields, field_differs, either_differs, differ}
use Rattle.mon_literals.proofs.Truths.{not_and, denied_true}
use Rattle.mon_literals.proofs.Comparing.{HasField, field_true}
use Rattle.mon_literals.proofs.Fields.{HasFields, fields_borne}
use Rattle.mon_literals.proofs.Conditions.{and_true, eqb_turned}

-- the clause is true where the two are not the same, and there is none only where they never are
Tells : (ℕ → Bool) → Option (List Lit) → Bool → Type 0
Tells v None same = same ≡ false
Tells v (Some ls) same = clause_true v ls ≡ not same

fixed_tell : (v : ℕ → Bool) (same : Bool) → Tells v (if same then Some [] else None) same
unfolding Tells
fixed_tell v true = refl
fixed_tell v false = refl

field_tells : (v : ℕ → Bool) (start count x : ℕ) (a b : Option ℕ) → HasField v start count x → FitsField (count, a) → FitsField (count, b)
    → Tells v (field_differs start count a b) (filled_field a x == filled_field b x)
unfolding Tells
field_tells v start count x None None f p q = ap not (sym (eq-eqb x x refl))
field_tells v start count x None (Some y) f p q =
    denied_true v (spelled (run start count y)) ∙ ap not (field_true v start count x y f q ∙ eqb_turned y x)
field_tells v start count x (Some y) None f p q = denied_true v (spelled (run start count y)) ∙ ap not (field_true v start count x y f p)
field_tells v start count x (Some y) (Some z) f p q = fixed_tell v (y == z)

both_tell : (v : ℕ → Bool) (d e : Option (List Lit)) (s t : Bool) → Tells v d s → Tells v e t → Tells v (either_differs d e) (s && t)
unfolding Tells
both_tell v None e s t p q = and_left s t p
both_tell v (Some ls) None s t p q = and_right s t q
both_tell v (Some ls) (Some ms) s t p q =
    list_any-append (lit_true v) ls ms
    ∙ ap (λ (b : Bool). b || clause_true v ms) p
    ∙ ap (λ (b : Bool). not s || b) q
    ∙ not_and s t

last_tells : (v : ℕ → Bool) (d : Option (List Lit)) (s : Bool) → Tells v d s → Tells v (either_differs d (Some [])) s
unfolding Tells
last_tells v d s p = subst (Tells v (either_differs d (Some []))) (and_true s) (both_tell v d (Some []) s true p refl)

rewrites_tell : (v : ℕ → Bool) (h : Header) (a b : Rewrite) → Bears v h → FitsFields a → FitsFields b
    → Tells v (differ a b) (same_header (filled a h) (filled b h))
unfolding laid same_header
rewrites_tell v h a b bears p q =
    let f : HasFields v h = fields_borne v h bears in
    both_tell v _ _ _ _ (field_tells v 0 16 h.in_port a.in_port b.in_port f.in_port p.0 q.0) (
    both_tell v _ _ _ _ (field_tells v 16 48 h.dl_src a.dl_src b.dl_src f.dl_src p.1.0 q.1.0) (
    both_tell v _ _ _ _ (field_tells v 64 48 h.dl_dst a.dl_dst b.dl_dst f.dl_dst p.1.1.0 q.1.1.0) (
    both_tell v _ _ _ _ (field_tells v 112 16 h.dl_vlan a.dl_vlan b.dl_vlan f.dl_vlan p.1.1.1.0 q.1.1.1.0) (
    both_tell v _ _ _ _ (field_tells v 128 8 h.dl_vlan_pcp a.dl_vlan_pcp b.dl_vlan_pcp f.dl_vlan_pcp p.1.1.1.1.0 q.1.1.1.1.0) (
    both_tell v _ _ _ _ (field_tells v 136 16 h.dl_type a.dl_type b.dl_type f.dl_type p.1.1.1.1.1.0 q.1.1.1.1.1.0) (
    both_tell v _ _ _ _ (field_tells v 152 8 h.nw_tos a.nw_tos b.nw_tos f.nw_tos p.1.1.1.1.1.1.0 q.1.1.1.1.1.1.0) (
    both_tell v _ _ _ _ (field_tells v 160 8 h.nw_proto a.nw_proto b.nw_proto f.nw_proto p.1.1.1.1.1.1.1.0 q.1.1.1.1.1.1.1.0) (
    both_tell v _ _ _ _ (field_tells v 168 32 h.nw_src a.nw_src b.nw_src f.nw_src p.1.1.1.1.1.1.1.1.0 q.1.1.1.1.1.1.1.1.0) (
    both_tell v _ _ _ _ (field_tells v 200 32 h.nw_dst a.nw_dst b.nw_dst f.nw_dst p.1.1.1.1.1.1.1.1.1.0 q.1.1.1.1.1.1.1.1.1.0) (
    both_tell v _ _ _ _ (field_tells v 232 16 h.tp_src a.tp_src b.tp_src f.tp_src p.1.1.1.1.1.1.1.1.1.1.0 q.1.1.1.1.1.1.1.1.1.1.0) (
    last_tells v _ _ (field_tells v 248 16 h.tp_dst a.tp_dst b.tp_dst f.tp_dst p.1.1.1.1.1.1.1.1.1.1.1.0 q.1.1.1.1.1.1.1.1.1.1.1.0))))))))))))

pub differing_true : (v : ℕ → Bool) (h : Header) (a b : Rewrite) (d : List Lit) → Bears v h → FitsFields a → FitsFields b → differ a b ≡ Some d
    → clause_true v d ≡ not (same_header (filled a h) (filled b h))
unfolding Tells
differing_true v h a b d bears p q e =
    subst (λ (o : Option (List Lit)). Tells v o (same_header (filled a h) (filled b h))) e (rewrites_tell v h a b bears p q)

pub never_same : (v : ℕ → Bool) (h : Header) (a b : Rewrite) → Bears v h → FitsFields a → FitsFields b → differ a b ≡ None
    → same_header (filled a h) (filled b h) ≡ false
unfolding Tells
never_same v h a b bears p q e =
    subst (λ (o : Option (List Lit)). Tells v o (same_header (filled a h) (filled b h))) e (rewrites_tell v h a b bears p q)
