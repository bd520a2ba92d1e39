-- What the values of an assignment say of the header that it bears, and of the formula of a case.
use Rattle.mon_encode.proofs.Emitting.{Meets}
use Rattle.std.proofs.Common.{◌≡◌, ℕ, ◌<◌, ◌^◌, Bool, true, List, Option, Some, None, refl, zero, suc, [], ◌∷◌, length, sym, subst, arith, ⊎_elim, ap₂, ◌∙◌, ap}
use Rattle.std.specs.List.{slice_get}
use Rattle.mon_cnf.specs.declared.clause.Lit.{Lit}
use Rattle.mon_cnf.specs.Truth.{values_of, formula_true}
use Rattle.mon_header.specs.declared.header.Header.{Header}
use Rattle.mon_header.specs.Same.{same_header}
use Rattle.mon_table.specs.declared.rule.Rule.{Rule}
use Rattle.mon_outcome.specs.declared.emission.Emission.{Emission}
use Rattle.mon_outcome.specs.declared.rewrite.Rewrite.{Rewrite}
use Rattle.mon_outcome.specs.Filling.{filled}
use Rattle.mon_shows.specs.Views.{IsView}
use Rattle.mon_shows.specs.Separation.{separates}
use Rattle.mon_job.specs.Jobs.{Task, Kept}
use Rattle.mon_literals.specs.Bearing.{Bears, borne}
use Rattle.mon_literals.specs.Differing.{FitsFields, differ}
use Rattle.mon_literals.proofs.Apart.{differing_true, never_same}
use Rattle.mon_literals.proofs.Patterns.{pattern_true}
use Rattle.mon_literals.proofs.Probes.{class_true}
use Rattle.mon_literals.proofs.Values.{borne_is_borne}
use Rattle.mon_encode.specs.declared.case.Case.{Case}
use Rattle.mon_encode.specs.Cases.{IsCaseOf, BelongsTo, HasWinner, shape_of, given, present}
use Rattle.mon_encode.specs.Formulas.{clauses_of, decoded, encoded}
use Rattle.mon_encode.proofs.Truth.{Denies}
use Rattle.mon_encode.proofs.Exact.{Literals}
use Rattle.mon_encode.proofs.Casing.{Founded, case-fact}
use Rattle.mon_encode.proofs.Covering.{crafted, has-tag, separated}
use Rattle.mon_encode.proofs.Deciding.{undone-is, models-show, showing-satisfies}
use Rattle.mon_encode.proofs.Helping.{encoded-bears, encoded-helped}

differs-by : (v : ℕ → Bool) (h : Header) (a b : Rewrite) (d : Option (List Lit)) → Bears v h → FitsFields a → FitsFields b → differ a b ≡ d
    → Denies v (same_header (filled a h) (filled b h)) d
differs-by v h a b None bears f g e = never_same v h a b bears f g e
differs-by v h a b (Some d) bears f g e = differing_true v h a b d bears f g e

pub literals : (v : ℕ → Bool) (h : Header) → Bears v h → Literals v h
literals v h bears = record {
  reads = λ m n. pattern_true v h m bears n;
  differs = λ a b f g. differs-by v h a b (differ a b) bears f g refl;
  class = λ view c in_port i small link. class_true v h view c in_port bears i small link;
}

-- a model decodes to what separates
pub decoded-shows : (j : Task) (c : Case) (v : ℕ → Bool) → c.in_port < 2 ^ 16 → Kept j → IsCaseOf j c → formula_true v (clauses_of j c) ≡ true
    → (separates j.view j.table j.target (decoded j c v).0 (decoded j c v).1 ≡ true) × BelongsTo j c (decoded j c v).0 (decoded j c v).1
unfolding decoded
decoded-shows j c v small k i f = models-show v (borne v) j c small (literals v (borne v) (borne_is_borne v)) k i f

-- what separates is encoded by a model
pub encoded-bears-header : (j : Task) (c : Case) (h : Header) (e : Emission) → BelongsTo j c h e → Bears (values_of (encoded j h)) h
encoded-bears-header j c h e o = encoded-bears j c.class h o.class

pub encoded-satisfies : (j : Task) (c : Case) (h : Header) (e : Emission) → c.in_port < 2 ^ 16 → Kept j → IsCaseOf j c → separates j.view j.table j.target h e ≡ true → BelongsTo j c h e
    → formula_true (values_of (encoded j h)) (clauses_of j c) ≡ true
encoded-satisfies j c h e small k i y o =
    let v = values_of (encoded j h) in
    let l = literals v h (encoded-bears-header j c h e o) in
    showing-satisfies v h e j c small l k i (encoded-helped j h (undone-is v h j k l).reads) y o

got-within : (t : List Rule) (n : ℕ) (r : Rule) → slice_get t n ≡ Some r → n < length t
got-within [] n r g = absurd (let z : ⊥ = cc in z)
got-within (x ∷ t) zero r g = omega arith
got-within (x ∷ t) (suc n) r g = let rest = got-within t n r g in omega arith

-- a case's winner stands in the table
pub winner-within : (j : Task) (c : Case) → Kept j → IsCaseOf j c → HasWinner (present j) c.winner
winner-within j c k i = ⊎_elim
    (λ (n : c.winner ≡ None). subst (HasWinner (present j)) (sym n) tt)
    (λ (f : Founded (present j) c). subst (HasWinner (present j)) (sym f.winner) (got-within (present j) f.place f.rule f.rule_there))
    (case-fact j c k.table k.job.there i).founded

-- the header of a model is of the case's class and port, and bears the view's tag
pub shows-meets : (j : Task) (c : Case) (h : Header) (e : Emission) → IsView j.view → separates j.view j.table j.target h e ≡ true → BelongsTo j c h e → Meets c.class c.in_port h
shows-meets j c h e i y o =
    let s = separated j.view j.table j.target h e y in
    let g = crafted j.view h s.crafted in
    record { is_class = o.class; came_in = o.in_port; has_tag = has-tag j.view h i g.tag }

pub model-meets : (j : Task) (c : Case) (v : ℕ → Bool) → c.in_port < 2 ^ 16 → Kept j → IsCaseOf j c → formula_true v (clauses_of j c) ≡ true → Meets c.class c.in_port (borne v)
unfolding decoded
model-meets j c v small k i f =
    let s = decoded-shows j c v small k i f in
    shows-meets j c (decoded j c v).0 (decoded j c v).1 k.view s.0 s.1

pub decoded-is : (j : Task) (c : Case) (v : ℕ → Bool) (h : Header) (e : Emission) → h ≡ borne v → e ≡ (given (shape_of (present j) c) h).0 → (h, e) ≡ decoded j c v
unfolding decoded
decoded-is j c v h e a b = ap₂ (λ (x : Header) (y : Emission). (x, y)) a (b ∙ ap (λ (x : Header). (given (shape_of (present j) c) x).0) a)

-- a winner's place is in the table
pub placed-within : (t : List Rule) (winner : Option ℕ) (place : ℕ) → winner ≡ Some place → HasWinner t winner → place < length t
placed-within t winner place e w = subst (HasWinner t) e w
