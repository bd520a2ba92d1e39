-- The numbers of a certificate fit their fields.
use Rattle.std.proofs.Common.{◌≡◌, true, not, List, [], ◌∷◌, ◌++◌, refl, sym, subst, ⊎_elim, Result, Ok, Err}
use Rattle.std.specs.Prelude.{◌&&◌, IfOk}
use Rattle.std.specs.List.{AllByRecursion}
use Rattle.std.proofs.lemmas.Bool.{and_parts, or_cases, false≢true}
use Rattle.mon_list.specs.Has.{Has}
use Rattle.mon_header.specs.declared.action.Action.{Action}
use Rattle.mon_header.specs.declared.class.Class.{Class}
use Rattle.mon_header.specs.declared.header.Header.{Header}
use Rattle.mon_header.specs.Actions.{AllFit}
use Rattle.mon_header.specs.Classes.{is_in_class}
use Rattle.mon_header.specs.Matching.{IsNormal}
use Rattle.mon_header.proofs.Classing.{class-range}
use Rattle.mon_table.specs.declared.rule.Rule.{Rule}
use Rattle.mon_table.specs.Tables.{IsTable}
use Rattle.mon_table.specs.Winners.{winners, may_miss}
use Rattle.mon_table.proofs.Listing.{has-all}
use Rattle.mon_outcome.specs.declared.emission.Emission.{Emission}
use Rattle.mon_outcome.specs.declared.emission.Emission.TheVariants.{Port, Controller, Miss}
use Rattle.mon_outcome.specs.Emitting.{Emitted, any_unknown, emissions, same_emission, is_among_whole, must, shown, AllShow}
use Rattle.mon_outcome.proofs.Classes.{emissions-show}
use Rattle.mon_outcome.proofs.Equality.{emission-same}
use Rattle.mon_certificate.specs.declared.certificate.Certificate.{Certificate}
use Rattle.mon_certificate.specs.declared.certificate.Certificate.TheVariants.{Probe, Nothing, Overlap}
use Rattle.mon_certificate_file.specs.CertificateFile.{IsEmissionInRange, IsCertificateInRange}
use Rattle.mon_shows.specs.declared.target.Target.TheVariants.{Watch}
use Rattle.mon_shows.specs.Views.{Viewing}
use Rattle.mon_shows.specs.Separation.{with_update, is_certain, separates}
use Rattle.mon_encode.proofs.Covering.{separated, crafted}
use Rattle.mon_encode.proofs.Updating.{own_rule, own-winner}
use Rattle.mon_solve.specs.Accepting.{CertificateIsTrue}
use Rattle.mon_plan.specs.Planning.{watch_of, IsCertificate}
use Rattle.mon_text.proofs.Growing.{all_push}

-- what actions must emit of a header of a class shows a header of that class
among-class : (c : Class) (e : Emission) (ms : List Emitted) → AllShow c ms → is_among_whole e ms ≡ true → is_in_class c (shown e) ≡ true
among-class c e [] a y = absurd (false≢true y)
among-class c e (m ∷ rest) a y = ⊎_elim
    (λ (here : (m.1 && same_emission m.0 e) ≡ true).
    subst (λ (x : Emission). is_in_class c (shown x) ≡ true) ((emission-same m.0 e).0 (and_parts m.1 _ here).1) a.0)
    (λ (behind : is_among_whole e rest ≡ true). among-class c e rest a.1 behind)
    (or_cases (m.1 && same_emission m.0 e) _ y)

must-class : (actions : List Action) (c : Class) (h : Header) (e : Emission) → AllFit actions → is_in_class c h ≡ true → must actions h e ≡ true
    → is_in_class c (shown e) ≡ true
unfolding must
must-class actions c h e f i y = among-class c e (emissions actions h) (emissions-show actions c h f i) (and_parts (not (any_unknown actions)) _ y).1

emission-range : (c : Class) (e : Emission) → is_in_class c (shown e) ≡ true → IsEmissionInRange e
emission-range c (Port port h) i = class-range c h i
emission-range c (Controller h) i = class-range c h i
emission-range c (Miss h) i = class-range c h i

-- a probe of a rule shows what that rule's actions must emit, so the numbers of that rule alone matter
probe-range : (v : Viewing) (t : List Rule) (r : Rule) (h : Header) (e : Emission) → IsTable t → Has t r → AllFit r.actions → separates v t (Watch r) h e ≡ true
    → IsCertificateInRange (Probe h e)
probe-range v t r h e table i f y =
    let s = separated v t (Watch r) h e y in
    let k = crafted v h s.crafted in
    let normal : IsNormal r.matching = has-all (λ x. IsNormal x.matching) t r table.normal i in
    let p = with_update t (Watch r) in
    let lone : winners p h ≡ own_rule (Watch r) ∷ [] = own-winner t (Watch r) h e table normal normal tt refl s.sure s.impossible in
    let certain : is_certain (own_rule (Watch r) ∷ []) (may_miss p h) h e ≡ true = subst (λ (ws : List Rule). is_certain ws (may_miss p h) h e ≡ true) lone s.sure in
    let sure : must r.actions h e ≡ true = (and_parts (not (may_miss p h)) _ certain).1 in (
      class-range k.class h k.is_class,
      emission-range k.class e (must-class r.actions k.class h e f k.is_class sure),
    )

true-range : (v : Viewing) (t : List Rule) (r : Rule) (c : Certificate) → IsTable t → Has t r → AllFit r.actions → CertificateIsTrue (watch_of v t r) c → IsCertificateInRange c
true-range v t r (Probe h e) table i f y = probe-range v t r h e table i f y
true-range v t r (Nothing logs) table i f y = tt
true-range v t r Overlap table i f y = tt

-- the same of what was answered
pub answered-range : {E : Type 0} (v : Viewing) (t : List Rule) (r : Rule) (o : Result Certificate E) → IsTable t → Has t r → AllFit r.actions
    → IfOk o (IsCertificate v t r) → IfOk o IsCertificateInRange
answered-range v t r (Ok c) table i f y = true-range v t r c table i f y.truth
answered-range v t r (Err x) table i f y = tt

-- one more certificate
pub range-more : (cs new : List Certificate) (c : Certificate) → AllByRecursion IsCertificateInRange cs → IsCertificateInRange c → new ≡ cs ++ c ∷ []
    → AllByRecursion IsCertificateInRange new
range-more cs new c a i e = subst (AllByRecursion IsCertificateInRange) (sym e) (all_push IsCertificateInRange cs c a i)
