-- Identities: when two are one, and which stands first.
use Rattle.std.proofs.Common.{◌≡◌, ℕ, ◌↔◌, ◌≤◌, Bool, true, false, ◌&&◌, ◌||◌, IsTrue, refl, sym, subst, ◌∙◌, arith}
use Rattle.std.specs.Prelude.{◌==◌, nat_lt}
use Rattle.std.specs.Bool.{beq}
use Rattle.std.specs.Cmp.{booleans_Decides}
use Rattle.std.proofs.lemmas.Bool.{and_parts, and_from, eqb-true, eq-eqb, false≢true, false_from_ne_true}
use Rattle.std.proofs.lemmas.Bool.Decides.{nat_tests}
use Rattle.mon_header.specs.declared.wild.Wildcards.{Wildcards}
use Rattle.mon_header.specs.Matching.{Matching, IsNormal}
use Rattle.mon_header.specs.Order.{match_before}
use Rattle.mon_header.proofs.Same.{same_header-is, same_header-self}
use Rattle.mon_header.proofs.Sorting.{before-self, before-more, before-neither, step-self}
use Rattle.mon_table.specs.Rules.{Identity, same_wild, same_match, same_identity, comes_before}

same_wild-is : (a b : Wildcards) → same_wild a b ≡ true → a ≡ b
unfolding same_wild
same_wild-is a b e0 =
    let e1 = and_parts (beq a.in_port b.in_port) _ e0 in
    let p0 : a.in_port ≡ b.in_port = (booleans_Decides a.in_port b.in_port).0 e1.0 in
    let e2 = and_parts (beq a.dl_vlan b.dl_vlan) _ e1.1 in
    let p1 : a.dl_vlan ≡ b.dl_vlan = (booleans_Decides a.dl_vlan b.dl_vlan).0 e2.0 in
    let e3 = and_parts (beq a.dl_src b.dl_src) _ e2.1 in
    let p2 : a.dl_src ≡ b.dl_src = (booleans_Decides a.dl_src b.dl_src).0 e3.0 in
    let e4 = and_parts (beq a.dl_dst b.dl_dst) _ e3.1 in
    let p3 : a.dl_dst ≡ b.dl_dst = (booleans_Decides a.dl_dst b.dl_dst).0 e4.0 in
    let e5 = and_parts (beq a.dl_type b.dl_type) _ e4.1 in
    let p4 : a.dl_type ≡ b.dl_type = (booleans_Decides a.dl_type b.dl_type).0 e5.0 in
    let e6 = and_parts (beq a.nw_proto b.nw_proto) _ e5.1 in
    let p5 : a.nw_proto ≡ b.nw_proto = (booleans_Decides a.nw_proto b.nw_proto).0 e6.0 in
    let e7 = and_parts (beq a.tp_src b.tp_src) _ e6.1 in
    let p6 : a.tp_src ≡ b.tp_src = (booleans_Decides a.tp_src b.tp_src).0 e7.0 in
    let e8 = and_parts (beq a.tp_dst b.tp_dst) _ e7.1 in
    let p7 : a.tp_dst ≡ b.tp_dst = (booleans_Decides a.tp_dst b.tp_dst).0 e8.0 in
    let e9 = and_parts (beq a.dl_vlan_pcp b.dl_vlan_pcp) _ e8.1 in
    let p8 : a.dl_vlan_pcp ≡ b.dl_vlan_pcp = (booleans_Decides a.dl_vlan_pcp b.dl_vlan_pcp).0 e9.0 in
    let e10 = and_parts (beq a.nw_tos b.nw_tos) _ e9.1 in
    let p9 : a.nw_tos ≡ b.nw_tos = (booleans_Decides a.nw_tos b.nw_tos).0 e10.0 in
    let e11 = and_parts (a.nw_src == b.nw_src) _ e10.1 in
    let p10 : a.nw_src ≡ b.nw_src = eqb-true _ _ e11.0 in
    let p11 : a.nw_dst ≡ b.nw_dst = eqb-true _ _ e11.1 in
    let all : (let x : Wildcards = record { in_port = a.in_port; dl_vlan = a.dl_vlan; dl_src = a.dl_src; dl_dst = a.dl_dst; dl_type = a.dl_type; nw_proto = a.nw_proto; tp_src = a.tp_src; tp_dst = a.tp_dst; dl_vlan_pcp = a.dl_vlan_pcp; nw_tos = a.nw_tos; nw_src = a.nw_src; nw_dst = a.nw_dst } in x) ≡ record { in_port = b.in_port; dl_vlan = b.dl_vlan; dl_src = b.dl_src; dl_dst = b.dl_dst; dl_type = b.dl_type; nw_proto = b.nw_proto; tp_src = b.tp_src; tp_dst = b.tp_dst; dl_vlan_pcp = b.dl_vlan_pcp; nw_tos = b.nw_tos; nw_src = b.nw_src; nw_dst = b.nw_dst } = cc in
    all

same_wild-self : (a : Wildcards) → same_wild a a ≡ true
unfolding same_wild
same_wild-self a = (and_from _ _ ((booleans_Decides a.in_port a.in_port).1 refl) (and_from _ _ ((booleans_Decides a.dl_vlan a.dl_vlan).1 refl) (and_from _ _ ((booleans_Decides a.dl_src a.dl_src).1 refl) (and_from _ _ ((booleans_Decides a.dl_dst a.dl_dst).1 refl) (and_from _ _ ((booleans_Decides a.dl_type a.dl_type).1 refl) (and_from _ _ ((booleans_Decides a.nw_proto a.nw_proto).1 refl) (and_from _ _ ((booleans_Decides a.tp_src a.tp_src).1 refl) (and_from _ _ ((booleans_Decides a.tp_dst a.tp_dst).1 refl) (and_from _ _ ((booleans_Decides a.dl_vlan_pcp a.dl_vlan_pcp).1 refl) (and_from _ _ ((booleans_Decides a.nw_tos a.nw_tos).1 refl) (and_from _ _ (eq-eqb a.nw_src a.nw_src refl) (eq-eqb a.nw_dst a.nw_dst refl))))))))))))

pub same_match-is : (a b : Matching) → same_match a b ≡ true → a ≡ b
unfolding same_match
same_match-is a b e =
    let parts = and_parts (same_wild a.wild b.wild) _ e in
    let wild : a.wild ≡ b.wild = same_wild-is a.wild b.wild parts.0 in
    let fields : a.fields ≡ b.fields = same_header-is a.fields b.fields parts.1 in
    let all : (let x : Matching = record { wild = a.wild; fields = a.fields } in x) ≡ record { wild = b.wild; fields = b.fields } = cc in
    all

pub same_match-self : (a : Matching) → same_match a a ≡ true
unfolding same_match
same_match-self a = and_from _ _ (same_wild-self a.wild) (same_header-self a.fields)

-- what a test of equality gives is what the definition computes
pub same_match-from : (test : Bool) (a b : Matching) → IsTrue test ↔ (a ≡ b) → test ≡ same_match a b
same_match-from true a b t = sym (subst (λ (x : Matching). same_match a x ≡ true) (t.0 refl) (same_match-self a))
same_match-from false a b t = sym (false_from_ne_true _ (λ e. false≢true (t.1 (same_match-is a b e))))

pub same-is : (a b : Identity) → same_identity a b ≡ true → a ≡ b
unfolding same_identity
same-is a b e =
    let parts = and_parts (a.rank == b.rank) _ e in
    let r : a.rank ≡ b.rank = eqb-true _ _ parts.0 in
    let m : a.matching ≡ b.matching = same_match-is a.matching b.matching parts.1 in
    let all : (let x : Identity = record { rank = a.rank; matching = a.matching } in x) ≡ record { rank = b.rank; matching = b.matching } = cc in
    all

pub same-self : (a : Identity) → same_identity a a ≡ true
unfolding same_identity
same-self a = and_from _ _ (eq-eqb a.rank a.rank refl) (same_match-self a.matching)

pub same-turned : (a b : Identity) → same_identity a b ≡ true → same_identity b a ≡ true
same-turned a b e = subst (λ (x : Identity). same_identity x a ≡ true) (same-is a b e) (same-self a)

pub other-turned : (a b : Identity) → same_identity a b ≡ false → same_identity b a ≡ false
other-turned a b e = false_from_ne_true _ (λ t. false≢true (sym e ∙ same-turned b a t))

step-more : (m n o : ℕ) (p q r : Bool) → (p ≡ true → q ≡ true → r ≡ true)
    → (nat_lt n m || ((m == n) && p)) ≡ true → (nat_lt o n || ((n == o) && q)) ≡ true → (nat_lt o m || ((m == o) && r)) ≡ true
step-more m n o p q r f a b = grind (arith, nat_tests)

step-rank : (m n : ℕ) (p q : Bool) → (nat_lt n m || ((m == n) && p)) ≡ false → (nat_lt m n || ((n == m) && q)) ≡ false → m ≡ n
step-rank m n p q a b = grind (arith, nat_tests)

step-match : (m n : ℕ) (p : Bool) → m ≡ n → (nat_lt n m || ((m == n) && p)) ≡ false → p ≡ false
step-match m n p e a = grind (arith, nat_tests)

step-falls : (m n : ℕ) (p : Bool) → (nat_lt n m || ((m == n) && p)) ≡ true → n ≤ m
step-falls m n p e = grind (arith, nat_tests)

pub comes_before-self : (a : Identity) → comes_before a a ≡ false
unfolding comes_before
comes_before-self a = step-self a.rank (match_before a.matching a.matching) (before-self a.matching)

pub comes_before-more : (a b c : Identity) → comes_before a b ≡ true → comes_before b c ≡ true → comes_before a c ≡ true
unfolding comes_before
comes_before-more a b c = step-more a.rank b.rank c.rank (match_before a.matching b.matching) (match_before b.matching c.matching) (match_before a.matching c.matching)
    (before-more a.matching b.matching c.matching)

-- of two identities, one stands before the other or they are one
pub comes_before-neither : (a b : Identity) → IsNormal a.matching → IsNormal b.matching → comes_before a b ≡ false → comes_before b a ≡ false → a ≡ b
unfolding comes_before
comes_before-neither a b p q e f =
    let r : a.rank ≡ b.rank = step-rank a.rank b.rank (match_before a.matching b.matching) (match_before b.matching a.matching) e f in
    let m : a.matching ≡ b.matching = before-neither a.matching b.matching p q
    (step-match a.rank b.rank (match_before a.matching b.matching) r e)
    (step-match b.rank a.rank (match_before b.matching a.matching) (sym r) f) in
    let all : (let x : Identity = record { rank = a.rank; matching = a.matching } in x) ≡ record { rank = b.rank; matching = b.matching } = cc in
    all

-- the order goes down in effective priority
pub comes_before-falls : (a b : Identity) → comes_before a b ≡ true → b.rank ≤ a.rank
unfolding comes_before
comes_before-falls a b = step-falls a.rank b.rank (match_before a.matching b.matching)

-- what stands before another is another
pub before-other : (a b : Identity) → comes_before a b ≡ true → same_identity a b ≡ false
before-other a b e = false_from_ne_true _ (λ s. false≢true (sym (comes_before-self a) ∙ subst (λ (x : Identity). comes_before a x ≡ true) (sym (same-is a b s)) e))

-- and stands not behind it
pub before-once : (a b : Identity) → comes_before a b ≡ true → comes_before b a ≡ false
before-once a b e = false_from_ne_true _ (λ f. false≢true (sym (comes_before-self a) ∙ comes_before-more a b a e f))

-- another that does not stand before stands behind
pub other-behind : (a b : Identity) → IsNormal a.matching → IsNormal b.matching → comes_before a b ≡ false → same_identity a b ≡ false → comes_before b a ≡ true
other-behind a b p q e s =
    elim (comes_before b a) as (λ t. comes_before b a ≡ t → t ≡ true) [
      | true ↦ λ f. refl
      | false ↦ λ f. absurd (false≢true (sym s ∙ subst (λ (x : Identity). same_identity a x ≡ true) (comes_before-neither a b p q e f) (same-self a)))
    ] refl

pub same_identity-from : (test : Bool) (a b : Identity) → a.rank ≡ b.rank → IsTrue test ↔ (a.matching ≡ b.matching) → test ≡ same_identity a b
unfolding same_identity
same_identity-from test a b e t = rw (eq-eqb a.rank b.rank e) (same_match-from test a.matching b.matching t)
