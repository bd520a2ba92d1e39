-- What rules emit of the headers of a case, and which clauses say that they do not.
use Rattle.std.proofs.Common.{◌≡◌, ◌≢◌, ℕ, zero, suc, Bool, true, false, not, cond, ◌&&◌, ◌||◌, List, [], ◌∷◌, map, Option, Some, None, refl, sym, ap, subst, ◌∙◌, ⊎_elim}
use Rattle.std.specs.Prelude.{◌==◌}
use Rattle.std.specs.Option.{option_map}
use Rattle.std.specs.List.{slice_get, list_any}
use Rattle.std.proofs.lemmas.Bool.{and_parts, and_from, or_left, or_right, or_cases, not-true, not_from_false, false≢true}
use Rattle.mon_cnf.specs.declared.clause.Lit.{Lit}
use Rattle.mon_cnf.specs.Truth.{clause_true, formula_true}
use Rattle.mon_header.specs.declared.class.Class.{Class}
use Rattle.mon_header.specs.declared.header.Header.{Header}
use Rattle.mon_header.specs.declared.action.Action.{Action}
use Rattle.mon_header.specs.Actions.{AllFit}
use Rattle.mon_header.specs.Classes.{is_in_class}
use Rattle.mon_header.specs.Same.{same_header}
use Rattle.mon_table.specs.declared.rule.Rule.{Rule}
use Rattle.mon_outcome.specs.declared.door.Door.{Door}
use Rattle.mon_outcome.specs.declared.door.Door.TheVariants as door
use Rattle.mon_outcome.specs.declared.emission.Emission.{Emission}
use Rattle.mon_outcome.specs.declared.emission.Emission.TheVariants.{Miss}
use Rattle.mon_outcome.specs.declared.rewrite.Rewrite.{Rewrite}
use Rattle.mon_outcome.specs.declared.shape.Shape.{Shape}
use Rattle.mon_outcome.specs.Emitting.{Emitted, any_unknown, emissions, emission_at, through, same_emission, is_among, is_among_whole, must, may}
use Rattle.mon_outcome.specs.Filling.{filled, filled_field}
use Rattle.mon_outcome.specs.Shaping.{shapes_of, emitted_by}
use Rattle.mon_outcome.proofs.Equality.{emission-same}
use Rattle.mon_outcome.proofs.Rewriting.{shapes-emit}
use Rattle.mon_shows.specs.Links.{link_at}
use Rattle.mon_shows.specs.Views.{Viewing, is_caught_by, caught}
use Rattle.mon_literals.specs.Differing.{FitsFields, differ}
use Rattle.mon_encode.specs.declared.case.Case.{Case}
use Rattle.mon_encode.specs.Cases.{winner_at, shape_at, shape_of, given}
use Rattle.mon_encode.specs.Clauses.{same_door, apart, or_all_apart, or_hidden}
use Rattle.mon_encode.specs.Formulas.{tagged}
use Rattle.mon_encode.proofs.Truth.{Denies, or_apart_true, or_no, or_yes, and_yes}
use Rattle.mon_encode.proofs.Fitting.{AllFitFields, shapes-fit}

-- the header is of a case's class and port, and bears a tag
pub record Meets (class : Class) (in_port : ℕ) (h : Header) : Type 0 where
  pub is_class : is_in_class class h ≡ true
  pub came_in : h.in_port ≡ in_port
  pub has_tag : h.dl_vlan ≢ 0xffff

pub emitted : (actions : List Action) (class : Class) (in_port : ℕ) (h : Header) → Meets class in_port h → map (emitted_by h) (shapes_of actions class in_port) ≡ emissions actions h
emitted actions class in_port h m = shapes-emit actions class in_port h m.is_class m.came_in m.has_tag

-- what rules may show
among-map : (e : Emission) (h : Header) (shapes : List Shape) → is_among e (map (emitted_by h) shapes) ≡ list_any (λ shape. same_emission (emitted_by h shape).0 e) shapes
among-map e h [] = refl
among-map e h (shape ∷ shapes) = ap (λ (b : Bool). same_emission (emitted_by h shape).0 e || b) (among-map e h shapes)

pub may-is : (actions : List Action) (class : Class) (in_port : ℕ) (h : Header) (e : Emission) → Meets class in_port h
    → may actions h e ≡ (any_unknown actions || list_any (λ shape. same_emission (emitted_by h shape).0 e) (shapes_of actions class in_port))
unfolding may
may-is actions class in_port h e m =
    ap (λ (ms : List Emitted). any_unknown actions || is_among e ms) (sym (emitted actions class in_port h m))
    ∙ ap (λ (b : Bool). any_unknown actions || b) (among-map e h (shapes_of actions class in_port))

-- what a clause says of two rewrites
abbrev pub Differs : (ℕ → Bool) → Header → Type 0
Differs v h = (a b : Rewrite) → FitsFields a → FitsFields b → Denies v (same_header (filled a h) (filled b h)) (differ a b)

abbrev pub FitsShape : Option Shape → Type 0
FitsShape None = Unit {0}
FitsShape (Some shape) = FitsFields shape.bits

denies-port : (v : ℕ → Bool) (p q : ℕ) (b : Bool) (d : Option (List Lit)) → Denies v b d → Denies v ((p == q) && b) (cond (p == q) d None)
denies-port v p q b d e = elim (p == q) as (λ x. Denies v (x && b) (cond x d None)) [ true ↦ e | false ↦ refl ]

apart-doors : (v : ℕ → Bool) (h : Header) (c d : Door) (a b : Rewrite) → Denies v (same_header (filled a h) (filled b h)) (differ a b)
    → Denies v (same_emission (through c (filled a h)).0 (through d (filled b h)).0) (cond (same_door c d) (differ a b) None)
apart-doors v h (door.Port p) (door.Port q) a b e = denies-port v p q (same_header (filled a h) (filled b h)) (differ a b) e
apart-doors v h (door.Port p) (door.Controller whole) a b e = refl
apart-doors v h (door.Controller whole) (door.Port q) a b e = refl
apart-doors v h (door.Controller whole) (door.Controller part) a b e = e

pub never-miss : (h k : Header) (c : Door) → same_emission (through c h).0 (Miss k) ≡ false
never-miss h k (door.Port p) = refl
never-miss h k (door.Controller whole) = refl

apart-denies : (v : ℕ → Bool) (h : Header) (shape : Option Shape) (other : Shape) → Differs v h → FitsShape shape → FitsFields other.bits
    → Denies v (same_emission (emitted_by h other).0 (given shape h).0) (apart shape other)
apart-denies v h None other differs f g = never-miss (filled other.bits h) h other.door
apart-denies v h (Some shape) other differs f g = apart-doors v h other.door shape.door other.bits shape.bits (differs other.bits shape.bits g f)

all-apart-true : (v : ℕ → Bool) (h : Header) (base : List Lit) (shape : Option Shape) (shapes : List Shape) → Differs v h → FitsShape shape → AllFitFields shapes
    → formula_true v (or_all_apart base shape shapes) ≡ (clause_true v base || not (list_any (λ other. same_emission (emitted_by h other).0 (given shape h).0) shapes))
all-apart-true v h base shape [] differs f g = sym (or_yes (clause_true v base))
all-apart-true v h base shape (other ∷ shapes) differs f g =
    or_apart_true v base (same_emission (emitted_by h other).0 (given shape h).0) _ (apart shape other) (or_all_apart base shape shapes)
    (apart-denies v h shape other differs f g.0) (all-apart-true v h base shape shapes differs f g.1)

unknown-step : (v : ℕ → Bool) (base : List Lit) (m u : Bool) (cs : List (List Lit)) → formula_true v cs ≡ (clause_true v base || not m)
    → formula_true v (cond u (base ∷ []) cs) ≡ (clause_true v base || not (u || m))
unknown-step v base m true cs f = and_yes (clause_true v base) ∙ sym (or_no (clause_true v base))
unknown-step v base m false cs f = f

pub or-hidden-true : (v : ℕ → Bool) (h : Header) (base : List Lit) (class : Class) (in_port : ℕ) (shape : Option Shape) (r : Rule) → Differs v h → FitsShape shape → AllFit r.actions
    → Meets class in_port h → formula_true v (or_hidden base class in_port shape r) ≡ (clause_true v base || not (may r.actions h (given shape h).0))
or-hidden-true v h base class in_port shape r differs f g m =
    unknown-step v base _ (any_unknown r.actions) _ (all-apart-true v h base shape (shapes_of r.actions class in_port) differs f (shapes-fit class in_port r.actions g))
    ∙ ap (λ (b : Bool). clause_true v base || not b) (sym (may-is r.actions class in_port h (given shape h).0 m))

-- what a winner must show: the emission of a shape that shows the whole packet, where no action is unknown
whole-at : (h : Header) (shapes : List Shape) (position : ℕ) (shape : Shape) → slice_get shapes position ≡ Some shape → (emitted_by h shape).1 ≡ true
    → is_among_whole (emitted_by h shape).0 (map (emitted_by h) shapes) ≡ true
whole-at h [] position shape g w = absurd (let z : ⊥ = cc in z)
whole-at h (s ∷ shapes) zero shape g w =
    let same : s ≡ shape = cc in
    or_left _ _ (and_from _ _ (ap (λ (x : Shape). (emitted_by h x).1) same ∙ w) ((emission-same (emitted_by h s).0 (emitted_by h shape).0).1 (ap (λ (x : Shape). (emitted_by h x).0) same)))
whole-at h (s ∷ shapes) (suc position) shape g w = or_right _ _ (whole-at h shapes position shape g w)

pub must-there : (actions : List Action) (class : Class) (in_port : ℕ) (h : Header) (position : ℕ) (shape : Shape) → Meets class in_port h → any_unknown actions ≡ false
    → slice_get (shapes_of actions class in_port) position ≡ Some shape → (emitted_by h shape).1 ≡ true → must actions h (emitted_by h shape).0 ≡ true
unfolding must
must-there actions class in_port h position shape m k g w =
    and_from _ _ (not_from_false _ k)
    (subst (λ (ms : List Emitted). is_among_whole (emitted_by h shape).0 ms ≡ true) (emitted actions class in_port h m) (whole-at h (shapes_of actions class in_port) position shape g w))

-- and only that
pub record Emits (h : Header) (e : Emission) (shapes : List Shape) : Type 0 where
  pub position : ℕ
  pub shape : Shape
  pub there : slice_get shapes position ≡ Some shape
  pub is : emitted_by h shape ≡ (e, true)

pair-is : (m : Emitted) (e : Emission) → m.1 ≡ true → m.0 ≡ e → m ≡ (e, true)
pair-is m e w f = λ i. (f i, w i)

emits-by : (h : Header) (e : Emission) (shapes : List Shape) → is_among_whole e (map (emitted_by h) shapes) ≡ true → Emits h e shapes
emits-by h e [] y = absurd (false≢true y)
emits-by h e (s ∷ shapes) y = ⊎_elim
    (λ (a : ((emitted_by h s).1 && same_emission (emitted_by h s).0 e) ≡ true).
    let p = and_parts (emitted_by h s).1 _ a in
    record { position = 0; shape = s; there = refl; is = pair-is (emitted_by h s) e p.0 ((emission-same (emitted_by h s).0 e).0 p.1) })
    (λ (a : is_among_whole e (map (emitted_by h) shapes) ≡ true).
    let rest = emits-by h e shapes a in
    record { position = suc rest.position; shape = rest.shape; there = rest.there; is = rest.is })
    (or_cases ((emitted_by h s).1 && same_emission (emitted_by h s).0 e) _ y)

pub must-back : (actions : List Action) (class : Class) (in_port : ℕ) (h : Header) (e : Emission) → Meets class in_port h → must actions h e ≡ true
    → (any_unknown actions ≡ false) × Emits h e (shapes_of actions class in_port)
unfolding must
must-back actions class in_port h e m y =
    let p = and_parts (not (any_unknown actions)) _ y in
    (not-true _ p.0, emits-by h e (shapes_of actions class in_port) (subst (λ (ms : List Emitted). is_among_whole e ms ≡ true) (sym (emitted actions class in_port h m)) p.1))

-- only the tag of a header counts for whether its emission comes back, and nothing for whether it shows the whole packet
through-caught : (v : Viewing) (d : Door) (h k : Header) → h.dl_vlan ≡ k.dl_vlan → caught v (through d h).0 ≡ caught v (through d k).0
through-caught v (door.Port p) h k e = ap (λ (n : ℕ). is_caught_by n v.tags (link_at p v.links)) e
through-caught v (door.Controller whole) h k e = refl

through-whole : (d : Door) (h k : Header) → (through d h).1 ≡ (through d k).1
through-whole (door.Port p) h k = refl
through-whole (door.Controller whole) h k = refl

pub given-caught : (v : Viewing) (shape : Option Shape) (h : Header) (tag : ℕ) → h.dl_vlan ≡ tag → caught v (given shape h).0 ≡ caught v (given shape (tagged tag)).0
given-caught v None h tag e = refl
given-caught v (Some shape) h tag e = through-caught v shape.door (filled shape.bits h) (filled shape.bits (tagged tag)) (ap (filled_field shape.bits.dl_vlan) e)

pub given-whole : (shape : Option Shape) (h k : Header) → (given shape h).1 ≡ (given shape k).1
given-whole None h k = refl
given-whole (Some shape) h k = through-whole shape.door (filled shape.bits h) (filled shape.bits k)

-- the emission at a position
at-map : (h : Header) (shapes : List Shape) (position : ℕ) → emission_at (map (emitted_by h) shapes) position ≡ option_map (λ shape. (emitted_by h shape).0) (slice_get shapes position)
at-map h [] position = refl
at-map h (shape ∷ shapes) zero = refl
at-map h (shape ∷ shapes) (suc position) = at-map h shapes position

emission-is : (actions : List Action) (class : Class) (in_port : ℕ) (h : Header) (position : ℕ) → Meets class in_port h
    → emission_at (emissions actions h) position ≡ option_map (λ shape. (emitted_by h shape).0) (slice_get (shapes_of actions class in_port) position)
emission-is actions class in_port h position m =
    ap (λ (ms : List Emitted). emission_at ms position) (sym (emitted actions class in_port h m)) ∙ at-map h (shapes_of actions class in_port) position

-- what it is, is what the shape there gives
given-some : (h : Header) (shape : Option Shape) (e : Emission) → option_map (λ shape. (emitted_by h shape).0) shape ≡ Some e → e ≡ (given shape h).0
given-some h None e y = absurd (let z : ⊥ = cc in z)
given-some h (Some shape) e y = let same : (emitted_by h shape).0 ≡ e = cc in sym same

given-none : (h : Header) (shape : Option Shape) → option_map (λ shape. (emitted_by h shape).0) shape ≡ None → Miss h ≡ (given shape h).0
given-none h None y = refl
given-none h (Some shape) y = absurd (let z : ⊥ = cc in z)

-- the shape of a case whose winner is a rule
shape-is : (t : List Rule) (c : Case) (place : ℕ) (r : Rule) → c.winner ≡ Some place → slice_get t place ≡ Some r → shape_of t c ≡ slice_get (shapes_of r.actions c.class c.in_port) c.emission
shape-is t c place r w g =
    ap (λ (o : Option ℕ). shape_at (winner_at t o) c.class c.in_port c.emission) w ∙ ap (λ (o : Option Rule). shape_at o c.class c.in_port c.emission) g

pub some-given : (t : List Rule) (c : Case) (h : Header) (place : ℕ) (r : Rule) (o : Option Emission) (e : Emission) → c.winner ≡ Some place → slice_get t place ≡ Some r → Meets c.class c.in_port h
    → o ≡ emission_at (emissions r.actions h) c.emission → o ≡ Some e → e ≡ (given (shape_of t c) h).0
some-given t c h place r o e w g m a b =
    given-some h (shape_of t c) e (ap (option_map (λ shape. (emitted_by h shape).0)) (shape-is t c place r w g) ∙ (sym (emission-is r.actions c.class c.in_port h c.emission m) ∙ (sym a ∙ b)))

pub none-given : (t : List Rule) (c : Case) (h : Header) (place : ℕ) (r : Rule) (o : Option Emission) → c.winner ≡ Some place → slice_get t place ≡ Some r → Meets c.class c.in_port h
    → o ≡ emission_at (emissions r.actions h) c.emission → o ≡ None → Miss h ≡ (given (shape_of t c) h).0
none-given t c h place r o w g m a b =
    given-none h (shape_of t c) (ap (option_map (λ shape. (emitted_by h shape).0)) (shape-is t c place r w g) ∙ (sym (emission-is r.actions c.class c.in_port h c.emission m) ∙ (sym a ∙ b)))
