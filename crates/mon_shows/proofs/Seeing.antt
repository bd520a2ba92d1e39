-- What is seen of an emission tells which one it was.
use Rattle.std.proofs.Common.{◌≡◌, ℕ, true, false, cond, List, [], ◌∷◌, Some, refl, sym, ap, ◌∙◌, arith, inl, inr}
use Rattle.std.specs.Prelude.{◌==◌}
use Rattle.std.specs.Option.{option_map}
use Rattle.std.proofs.lemmas.Bool.{eqb-true}
use Rattle.mon_header.specs.declared.header.Header.{Header}
use Rattle.mon_outcome.specs.declared.emission.Emission.{Emission}
use Rattle.mon_outcome.specs.declared.emission.Emission.TheVariants.{Port, Controller, Miss}
use Rattle.mon_outcome.specs.Emitting.{shown}
use Rattle.mon_shows.specs.declared.near.Near.{Near}
use Rattle.mon_shows.specs.declared.seen.Seen.{Seen}
use Rattle.mon_shows.specs.Links.{link_at, HasLink, FarEndsDiffer, LeadAway}
use Rattle.mon_shows.specs.Views.{Viewing, seen_by, seen_here, observed}

-- what is seen by a port is seen by a neighbour there
record SeenBy (links : List Near) (p : ℕ) (h : Header) (s : Seen) : Type 0 where
  near : Near
  has : HasLink links near
  port : near.port ≡ p
  is : seen_by h near ≡ s

seen-by : (links : List Near) (p : ℕ) (h : Header) (s : Seen) → option_map (seen_by h) (link_at p links) ≡ Some s → SeenBy links p h s
seen-by [] p h s e = absurd (let f : ⊥ = cc in f)
seen-by (n ∷ ns) p h s e =
    elim (n.port == p) as (λ b. (n.port == p) ≡ b → option_map (seen_by h) (cond b (Some n) (link_at p ns)) ≡ Some s → SeenBy (n ∷ ns) p h s) [
      | true ↦ λ y f. record { near = n; has = inl refl; port = eqb-true n.port p y; is = (let g : seen_by h n ≡ s = cc in g) }
      | false ↦ λ y f. let rest = seen-by ns p h s f in record { near = rest.near; has = inr rest.has; port = rest.port; is = rest.is }
    ] refl e

-- headers that are the same but for in_port, and have one in_port, are equal
same-but-port : (g h : Header) (n : ℕ) → g.in_port ≡ h.in_port → (let x : Header = record g { in_port = n } in x) ≡ record h { in_port = n } → g ≡ h
same-but-port g h n p e =
    let e1 : g.dl_src ≡ h.dl_src = ap (λ (x : Header). x.dl_src) e in
    let e2 : g.dl_dst ≡ h.dl_dst = ap (λ (x : Header). x.dl_dst) e in
    let e3 : g.dl_vlan ≡ h.dl_vlan = ap (λ (x : Header). x.dl_vlan) e in
    let e4 : g.dl_vlan_pcp ≡ h.dl_vlan_pcp = ap (λ (x : Header). x.dl_vlan_pcp) e in
    let e5 : g.dl_type ≡ h.dl_type = ap (λ (x : Header). x.dl_type) e in
    let e6 : g.nw_tos ≡ h.nw_tos = ap (λ (x : Header). x.nw_tos) e in
    let e7 : g.nw_proto ≡ h.nw_proto = ap (λ (x : Header). x.nw_proto) e in
    let e8 : g.nw_src ≡ h.nw_src = ap (λ (x : Header). x.nw_src) e in
    let e9 : g.nw_dst ≡ h.nw_dst = ap (λ (x : Header). x.nw_dst) e in
    let e10 : g.tp_src ≡ h.tp_src = ap (λ (x : Header). x.tp_src) e in
    let e11 : g.tp_dst ≡ h.tp_dst = ap (λ (x : Header). x.tp_dst) e in
    let all : (let x : Header = record { in_port = g.in_port; dl_src = g.dl_src; dl_dst = g.dl_dst; dl_vlan = g.dl_vlan; dl_vlan_pcp = g.dl_vlan_pcp; dl_type = g.dl_type; nw_tos = g.nw_tos; nw_proto = g.nw_proto; nw_src = g.nw_src; nw_dst = g.nw_dst; tp_src = g.tp_src; tp_dst = g.tp_dst } in x) ≡ record { in_port = h.in_port; dl_src = h.dl_src; dl_dst = h.dl_dst; dl_vlan = h.dl_vlan; dl_vlan_pcp = h.dl_vlan_pcp; dl_type = h.dl_type; nw_tos = h.nw_tos; nw_proto = h.nw_proto; nw_src = h.nw_src; nw_dst = h.nw_dst; tp_src = h.tp_src; tp_dst = h.tp_dst } = cc in
    all

port-port : (links : List Near) (p q : ℕ) (g h : Header) (s : Seen) → FarEndsDiffer links → g.in_port ≡ h.in_port → SeenBy links p g s → SeenBy links q h s → Port p g ≡ Port q h
port-port links p q g h s differ port a b =
    let both : seen_by g a.near ≡ seen_by h b.near = a.is ∙ sym b.is in
    let far : a.near.far_port ≡ b.near.far_port = ap (λ (x : Seen). x.port) both in
    let near : a.near ≡ b.near = differ a.near b.near a.has b.has (ap (λ (x : Seen). x.switch) both) far in
    let ports : p ≡ q = sym a.port ∙ (ap (λ (n : Near). n.port) near ∙ b.port) in
    let headers : (let x : Header = record g { in_port = a.near.far_port } in x) ≡ record h { in_port = b.near.far_port } = ap (λ (x : Seen). x.header) both in
    let turned : (let x : Header = record g { in_port = a.near.far_port } in x) ≡ record h { in_port = a.near.far_port } = headers ∙ ap (λ (n : ℕ). (let x : Header = record h { in_port = n } in x)) (sym far) in
    let same : g ≡ h = same-but-port g h a.near.far_port port turned in
    let all : Port p g ≡ Port q h = cc in
    all

-- what is seen by a port is not seen here
port-here : (links : List Near) (p : ℕ) (switch reason : ℕ) (g h : Header) (s : Seen) → LeadAway switch links → SeenBy links p g s → seen_here switch reason h ≡ s → ⊥
port-here links p switch reason g h s away a b =
    away a.near a.has (ap (λ (x : Seen). x.switch) (a.is ∙ sym b))

pub seen-tells : (v : Viewing) (a b : Emission) (s : Seen) → FarEndsDiffer v.links → LeadAway v.switch v.links
    → (shown a).in_port ≡ (shown b).in_port → observed v a ≡ Some s → observed v b ≡ Some s → a ≡ b
seen-tells v (Port p g) (Port q h) s differ away port d e =
    port-port v.links p q g h s differ port (seen-by v.links p g s d) (seen-by v.links q h s e)
seen-tells v (Port p g) (Controller h) s differ away port d e =
    absurd (port-here v.links p v.switch 1 g h s away (seen-by v.links p g s d) (let f : seen_here v.switch 1 h ≡ s = cc in f))
seen-tells v (Port p g) (Miss h) s differ away port d e =
    absurd (port-here v.links p v.switch 0 g h s away (seen-by v.links p g s d) (let f : seen_here v.switch 0 h ≡ s = cc in f))
seen-tells v (Controller g) (Port q h) s differ away port d e =
    absurd (port-here v.links q v.switch 1 h g s away (seen-by v.links q h s e) (let f : seen_here v.switch 1 g ≡ s = cc in f))
seen-tells v (Controller g) (Controller h) s differ away port d e =
    let both : seen_here v.switch 1 g ≡ seen_here v.switch 1 h = (let f : seen_here v.switch 1 g ≡ s = cc in f) ∙ sym (let f : seen_here v.switch 1 h ≡ s = cc in f) in
    ap Controller (ap (λ (x : Seen). x.header) both)
seen-tells v (Controller g) (Miss h) s differ away port d e =
    let both : seen_here v.switch 1 g ≡ seen_here v.switch 0 h = (let f : seen_here v.switch 1 g ≡ s = cc in f) ∙ sym (let f : seen_here v.switch 0 h ≡ s = cc in f) in
    absurd (let reasons : 1 ≡ 0 = ap (λ (x : Seen). x.reason) both in omega arith)
seen-tells v (Miss g) (Port q h) s differ away port d e =
    absurd (port-here v.links q v.switch 0 h g s away (seen-by v.links q h s e) (let f : seen_here v.switch 0 g ≡ s = cc in f))
seen-tells v (Miss g) (Controller h) s differ away port d e =
    let both : seen_here v.switch 0 g ≡ seen_here v.switch 1 h = (let f : seen_here v.switch 0 g ≡ s = cc in f) ∙ sym (let f : seen_here v.switch 1 h ≡ s = cc in f) in
    absurd (let reasons : 0 ≡ 1 = ap (λ (x : Seen). x.reason) both in omega arith)
seen-tells v (Miss g) (Miss h) s differ away port d e =
    let both : seen_here v.switch 0 g ≡ seen_here v.switch 0 h = (let f : seen_here v.switch 0 g ≡ s = cc in f) ∙ sym (let f : seen_here v.switch 0 h ≡ s = cc in f) in
    ap Miss (ap (λ (x : Seen). x.header) both)
