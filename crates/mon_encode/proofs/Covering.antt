-- Each header and emission that separate belong to a case.
use Rattle.std.proofs.Common.{◌≡◌, ◌≢◌, ℕ, suc, ◌≤◌, true, false, not, List, [], ◌∷◌, Option, Some, None, refl, sym, ap, subst, ◌∙◌, arith, inl, ⊎_elim}
use Rattle.std.specs.Prelude.{◌==◌}
use Rattle.std.specs.List.{slice_get, Contains}
use Rattle.std.specs.Option.{option_to_list}
use Rattle.std.proofs.lemmas.Bool.{and_parts, not-true, false≢true, eqb-true}
use Rattle.mon_list.specs.Has.{Has}
use Rattle.mon_header.specs.declared.class.Class.{Class}
use Rattle.mon_header.specs.declared.header.Header.{Header}
use Rattle.mon_header.specs.Classes.{in_class, is_in_class}
use Rattle.mon_header.proofs.Classing.{some-class}
use Rattle.mon_table.specs.declared.rule.Rule.{Rule}
use Rattle.mon_table.specs.Rules.{identity_of}
use Rattle.mon_table.specs.Places.{place_of}
use Rattle.mon_table.specs.Winners.{wins, winners, may_miss}
use Rattle.mon_table.proofs.Members.{has-filter}
use Rattle.mon_outcome.specs.declared.emission.Emission.{Emission}
use Rattle.mon_outcome.specs.declared.emission.Emission.TheVariants.{Miss}
use Rattle.mon_outcome.specs.declared.shape.Shape.{Shape}
use Rattle.mon_outcome.specs.Emitting.{must}
use Rattle.mon_outcome.specs.Shaping.{shapes_of}
use Rattle.mon_outcome.proofs.Equality.{emission-same}
use Rattle.mon_shows.specs.declared.target.Target.{Target}
use Rattle.mon_shows.specs.declared.target.Target.TheVariants.{Put, Cut, Watch}
use Rattle.mon_shows.specs.Views.{Viewing, IsView, has_link, craftable, caught}
use Rattle.mon_shows.specs.Separation.{with_update, without_update, is_miss, is_certain, must_show, may_show, separates}
use Rattle.mon_header.specs.Matching.{IsNormal}
use Rattle.mon_table.specs.declared.edit.Edit.TheVariants as edit
use Rattle.mon_table.specs.Edits.{after}
use Rattle.mon_table.specs.Tables.{InOrder}
use Rattle.mon_table.proofs.Listing.{has-all}
use Rattle.mon_encode.proofs.Winners.{lone-sure}
use Rattle.mon_job.specs.Jobs.{Task, updated, IsIn, Kept}
use Rattle.mon_encode.specs.declared.case.Case.{Case}
use Rattle.mon_encode.specs.Cases.{by_winner, IsCaseOf, shape_at, given, present, BelongsTo}
use Rattle.mon_encode.proofs.Emitting.{Meets, must-back}
use Rattle.mon_encode.proofs.Updating.{own_rule, own-winner, present-there}
use Rattle.mon_encode.proofs.Casing.{case, rule-in, miss-in, cut-in, case-in}

-- the parts of separation
pub record Separated (v : Viewing) (p u : List Rule) (h : Header) (e : Emission) : Type 0 where
  pub crafted : craftable v h ≡ true
  pub sure : must_show p h e ≡ true
  pub back : caught v e ≡ true
  pub impossible : may_show u h e ≡ false

pub separated : (v : Viewing) (t : List Rule) (x : Target) (h : Header) (e : Emission) → separates v t x h e ≡ true → Separated v (with_update t x) (without_update t x) h e
unfolding separates
separated v t x h e s =
    let a = and_parts (craftable v h) _ s in
    let b = and_parts (must_show (with_update t x) h e) _ a.1 in
    let c = and_parts (caught v e) _ b.1 in
    record { crafted = a.0; sure = b.0; back = c.0; impossible = not-true _ c.1 }

-- the parts of a header that a probe can have
pub record Crafted (v : Viewing) (h : Header) : Type 0 where
  pub class : Class
  pub is_class : is_in_class class h ≡ true
  pub link : has_link h.in_port v.links ≡ true
  pub tag : h.dl_vlan ≡ v.tag

pub crafted : (v : Viewing) (h : Header) → craftable v h ≡ true → Crafted v h
unfolding craftable
crafted v h s =
    let a = and_parts (in_class h) _ s in
    let b = and_parts (has_link h.in_port v.links) _ a.1 in
    let c = and_parts (h.dl_vlan == v.tag) _ b.1 in
    let k = (some-class h).0 a.0 in
    record { class = k.0; is_class = k.1; link = b.0; tag = eqb-true h.dl_vlan v.tag c.0 }

pub has-tag : (v : Viewing) (h : Header) → IsView v → h.dl_vlan ≡ v.tag → h.dl_vlan ≢ 0xffff
has-tag v h i e f = let high : v.tag ≤ 4094 = i.tag_high in let g : v.tag ≡ 0xffff = sym e ∙ f in absurd (omega arith)

-- a case and what belongs to it
abbrev pub Covers : Task → Header → Emission → Type 0
Covers j h e = (c : Case) × IsCaseOf j c × BelongsTo j c h e

-- a rule that is the only winner
record Lone (j : Task) (c : Class) (h : Header) (e : Emission) (place : ℕ) (r : Rule) : Type 0 where
  there : slice_get (present j) place ≡ Some r
  lone : winners (present j) h ≡ r ∷ []
  must_emit : must r.actions h e ≡ true
  inside : (position : ℕ) (shape : Shape) → slice_get (shapes_of r.actions c h.in_port) position ≡ Some shape
      → Contains (by_winner j.table j.target c h.in_port) (case c h.in_port (Some place) position)

rule-covers : (j : Task) (h : Header) (e : Emission) (place : ℕ) (r : Rule) (f : Crafted j.view h) → IsView j.view → Lone j f.class h e place r → Covers j h e
rule-covers j h e place r f i l =
    let meets : Meets f.class h.in_port h = record { is_class = f.is_class; came_in = refl; has_tag = has-tag j.view h i f.tag } in
    let m = (must-back r.actions f.class h.in_port h e meets l.must_emit).1 in (
      case f.class h.in_port (Some place) m.position,
      case-in j f.class h.in_port (case f.class h.in_port (Some place) m.position) f.link (l.inside m.position m.shape m.there),
      record {
        class = f.is_class;
        in_port = refl;
        winner = l.lone ∙ ap option_to_list (sym l.there);
        emission =
            ap (λ (o : Option Rule). given (shape_at o f.class h.in_port m.position) h) l.there
            ∙ (ap (λ (o : Option Shape). given o h) m.there ∙ m.is);
      },
    )

-- no winner
miss-covers : (j : Task) (h : Header) (e : Emission) (r : Rule) (f : Crafted j.view h) → j.target ≡ Cut r → winners (present j) h ≡ [] → is_miss h e ≡ true → Covers j h e
miss-covers j h e r f t n y =
    let miss : e ≡ Miss h = (emission-same e (Miss h)).0 y in (
      case f.class h.in_port None 0,
      case-in j f.class h.in_port (case f.class h.in_port None 0) f.link
          (subst (λ (x : Target). Contains (by_winner j.table x f.class h.in_port) (case f.class h.in_port None 0)) (sym t) (miss-in f.class h.in_port 0 j.table)),
      record { class = f.is_class; in_port = refl; winner = n; emission = λ k. (sym miss k, true) },
    )

-- the place of a rule of the table
record Standing (t : List Rule) (r : Rule) : Type 0 where
  place : ℕ
  there : slice_get t place ≡ Some r

standing : (t : List Rule) (r : Rule) → Has t r → Standing t r
standing [] r i = absurd i
standing (x ∷ t) r i = ⊎_elim
    (λ (e : r ≡ x). record { place = 0; there = ap Some (sym e) })
    (λ (j : Has t r). let rest = standing t r j in record { place = suc rest.place; there = rest.there })
    i

-- where a rule was put or is watched
own-covers : (j : Task) (h : Header) (e : Emission) (f : Crafted j.view h) → Kept j → present j ≡ after j.table (edit.Put (own_rule j.target) None) → Has j.table (updated j.target) → Separated j.view (present j) (without_update j.table j.target) h e
    → ((position : ℕ) (shape : Shape) → slice_get (shapes_of (updated j.target).actions f.class h.in_port) position ≡ Some shape
    → Contains (by_winner j.table j.target f.class h.in_port) (case f.class h.in_port (Some (place_of (identity_of (updated j.target)) j.table)) position))
    → Covers j h e
own-covers j h e f k is has s inside =
    let w = own_rule j.target in
    let n : IsNormal w.matching = has-all (λ r. IsNormal r.matching) j.table (updated j.target) k.table.normal has in
    let lone : winners (present j) h ≡ w ∷ [] = own-winner j.table j.target h e k.table n k.back_normal k.job.own is s.sure s.impossible in
    let y : is_certain (w ∷ []) (may_miss (present j) h) h e ≡ true = subst (λ (ws : List Rule). is_certain ws (may_miss (present j) h) h e ≡ true) lone s.sure in
    rule-covers j h e (place_of (identity_of w) j.table) w f k.view (record {
      there = ap (λ (t : List Rule). slice_get t (place_of (identity_of w) j.table)) is ∙ present-there j.table w k.table n;
      lone = lone;
      must_emit = (and_parts (not (may_miss (present j) h)) _ y).1;
      inside = inside;
    })

-- where a rule was cut
cut-covers : (j : Task) (h : Header) (e : Emission) (r : Rule) (ws : List Rule) (f : Crafted j.view h) → IsView j.view → InOrder j.table → j.target ≡ Cut r → winners (present j) h ≡ ws
    → is_certain ws (may_miss (present j) h) h e ≡ true → Covers j h e
cut-covers j h e r [] f i o t n y = miss-covers j h e r f t n (and_parts (may_miss (present j) h) _ y).1
cut-covers j h e r (w ∷ []) f i o t n y =
    let same : present j ≡ j.table = ap (with_update j.table) t in
    let order : InOrder (present j) = subst InOrder (sym same) o in
    let p = and_parts (not (may_miss (present j) h)) _ y in
    let sure : w.unsure ≡ false = lone-sure (present j) h w order n (not-true _ p.0) in
    let stands = standing (present j) w (has-filter (wins (present j) h) (present j) w (subst (λ (ws : List Rule). Has ws w) (sym n) (inl refl))).0 in
    rule-covers j h e stands.place w f i (record {
      there = stands.there;
      lone = n;
      must_emit = p.1;
      inside = λ position shape g.
          subst (λ (x : Target). Contains (by_winner j.table x f.class h.in_port) (case f.class h.in_port (Some stands.place) position)) (sym t)
          (cut-in f.class h.in_port j.table stands.place w position shape sure (ap (λ (t : List Rule). slice_get t stands.place) (sym same) ∙ stands.there) g);
    })
cut-covers j h e r (w ∷ s ∷ rest) f i o t n y = absurd (false≢true y)

-- whatever the target
covers-by : (j : Task) (x : Target) (h : Header) (e : Emission) (f : Crafted j.view h) → j.target ≡ x → Kept j → Separated j.view (present j) (without_update j.table j.target) h e → Covers j h e
covers-by j (Put r old) h e f t k s =
    own-covers j h e f k (ap (λ (y : Target). with_update j.table y) t ∙ sym (ap (λ (y : Target). after j.table (edit.Put (own_rule y) None)) t)) (subst (λ (y : Target). Has j.table (updated y)) (sym t) (subst (IsIn j.table) t k.job.there)) s
    (λ position shape g. subst (λ (y : Target). slice_get (shapes_of (updated y).actions f.class h.in_port) position ≡ Some shape → Contains (by_winner j.table y f.class h.in_port) (case f.class h.in_port (Some (place_of (identity_of (updated y)) j.table)) position)) (sym t)
    (rule-in f.class h.in_port (place_of (identity_of r) j.table) r position shape) g)
covers-by j (Cut r) h e f t k s = cut-covers j h e r (winners (present j) h) f k.view k.table.order t refl s.sure
covers-by j (Watch r) h e f t k s =
    own-covers j h e f k (ap (λ (y : Target). with_update j.table y) t ∙ sym (ap (λ (y : Target). after j.table (edit.Put (own_rule y) None)) t)) (subst (λ (y : Target). Has j.table (updated y)) (sym t) (subst (IsIn j.table) t k.job.there)) s
    (λ position shape g. subst (λ (y : Target). slice_get (shapes_of (updated y).actions f.class h.in_port) position ≡ Some shape → Contains (by_winner j.table y f.class h.in_port) (case f.class h.in_port (Some (place_of (identity_of (updated y)) j.table)) position)) (sym t)
    (rule-in f.class h.in_port (place_of (identity_of r) j.table) r position shape) g)

pub covers : (j : Task) → Kept j → (h : Header) (e : Emission) → separates j.view j.table j.target h e ≡ true → Covers j h e
covers j k h e y =
    let s = separated j.view j.table j.target h e y in
    covers-by j j.target h e (crafted j.view h s.crafted) refl k s
