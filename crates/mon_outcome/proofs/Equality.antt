-- Emissions of one kind that agree in all they bear are equal.
use Rattle.std.proofs.Common.{◌≡◌, true, ◌↔◌, refl, sym, ap, ◌∙◌}
use Rattle.std.specs.Prelude.{◌==◌}
use Rattle.std.proofs.lemmas.Bool.{eqb-true, eq-eqb}
use Rattle.mon_header.proofs.Same.{same_header-is, same_header-self}
use Rattle.mon_header.proofs.Twelve.{first, second, both}
use Rattle.mon_outcome.specs.declared.emission.Emission.{Emission}
use Rattle.mon_outcome.specs.declared.emission.Emission.TheVariants.{Port, Controller, Miss}
use Rattle.mon_outcome.specs.Emitting.{same_emission}

emission-equal : (a b : Emission) → same_emission a b ≡ true → a ≡ b
emission-equal (Port p h) (Port q k) e =
    let s : p ≡ q = eqb-true _ _ (first (p == q) _ e) in
    let t : h ≡ k = same_header-is h k (second (p == q) _ e) in
    cc
emission-equal (Port p h) (Controller k) e = absurd cc
emission-equal (Port p h) (Miss k) e = absurd cc
emission-equal (Controller h) (Port q k) e = absurd cc
emission-equal (Controller h) (Controller k) e = ap Controller (same_header-is h k e)
emission-equal (Controller h) (Miss k) e = absurd cc
emission-equal (Miss h) (Port q k) e = absurd cc
emission-equal (Miss h) (Controller k) e = absurd cc
emission-equal (Miss h) (Miss k) e = ap Miss (same_header-is h k e)

emission-itself : (a : Emission) → same_emission a a ≡ true
emission-itself (Port p h) = both _ _ (eq-eqb p p refl) (same_header-self h)
emission-itself (Controller h) = same_header-self h
emission-itself (Miss h) = same_header-self h

pub emission-same : (a b : Emission) → (same_emission a b ≡ true) ↔ (a ≡ b)
emission-same a b = (
  emission-equal a b,
  λ (e : a ≡ b). ap (λ (x : Emission). same_emission a x) (sym e) ∙ emission-itself a,
)
