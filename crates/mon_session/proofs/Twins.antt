-- When two lists of actions are the same.
use Rattle.std.specs.Prelude.{◌≡◌, ◌↔◌, Bool, true, false, ◌==◌, List, [], ◌∷◌, refl, IsTrue}
use Rattle.std.proofs.Common.{ap, sym, subst, arith, eqb-true}
use Rattle.std.proofs.lemmas.Bool.{false≢true, and_parts, and_from, eq-eqb}
use Rattle.std.proofs.lemmas.Slice.Eq.{bytes_eq-Decides}
use Rattle.mon_header.specs.declared.action.Action.{Action}
use Rattle.mon_header.specs.declared.action.Action.TheVariants.{Output, SetVlanVid, SetVlanPcp, StripVlan, SetDlSrc, SetDlDst, SetNwSrc, SetNwDst, SetNwTos, SetTpSrc, SetTpDst, Enqueue, Unknown}
use Rattle.mon_legal.specs.Actions.{same_action, same_actions}

action-is : (a b : Action) → same_action a b ≡ true → a ≡ b
action-is (Output p m) (Output q n) e =
    let f = and_parts (p == q) (m == n) e in
    let x = eqb-true p q f.0 in let y = eqb-true m n f.1 in cc
action-is (SetVlanVid x) (SetVlanVid y) e = ap SetVlanVid (eqb-true x y e)
action-is (SetVlanPcp x) (SetVlanPcp y) e = ap SetVlanPcp (eqb-true x y e)
action-is StripVlan StripVlan e = refl
action-is (SetDlSrc x) (SetDlSrc y) e = ap SetDlSrc (eqb-true x y e)
action-is (SetDlDst x) (SetDlDst y) e = ap SetDlDst (eqb-true x y e)
action-is (SetNwSrc x) (SetNwSrc y) e = ap SetNwSrc (eqb-true x y e)
action-is (SetNwDst x) (SetNwDst y) e = ap SetNwDst (eqb-true x y e)
action-is (SetNwTos x) (SetNwTos y) e = ap SetNwTos (eqb-true x y e)
action-is (SetTpSrc x) (SetTpSrc y) e = ap SetTpSrc (eqb-true x y e)
action-is (SetTpDst x) (SetTpDst y) e = ap SetTpDst (eqb-true x y e)
action-is (Enqueue p m) (Enqueue q n) e =
    let f = and_parts (p == q) (m == n) e in
    let x = eqb-true p q f.0 in let y = eqb-true m n f.1 in cc
action-is (Unknown x) (Unknown y) e = ap Unknown (grind (arith, bytes_eq-Decides x y, e))
action-is a b e = absurd (false≢true e)

action-same : (a : Action) → same_action a a ≡ true
action-same (Output p m) = and_from (p == p) (m == m) (eq-eqb p p refl) (eq-eqb m m refl)
action-same (SetVlanVid x) = eq-eqb x x refl
action-same (SetVlanPcp x) = eq-eqb x x refl
action-same StripVlan = refl
action-same (SetDlSrc x) = eq-eqb x x refl
action-same (SetDlDst x) = eq-eqb x x refl
action-same (SetNwSrc x) = eq-eqb x x refl
action-same (SetNwDst x) = eq-eqb x x refl
action-same (SetNwTos x) = eq-eqb x x refl
action-same (SetTpSrc x) = eq-eqb x x refl
action-same (SetTpDst x) = eq-eqb x x refl
action-same (Enqueue p m) = and_from (p == p) (m == m) (eq-eqb p p refl) (eq-eqb m m refl)
action-same (Unknown x) = grind (arith, bytes_eq-Decides x x)

actions-are : (as₁ bs : List Action) → same_actions as₁ bs ≡ true → as₁ ≡ bs
actions-are [] [] e = refl
actions-are (a ∷ as₁) (b ∷ bs) e =
    let f = and_parts (same_action a b) (same_actions as₁ bs) e in
    let x = action-is a b f.0 in let y = actions-are as₁ bs f.1 in cc
actions-are [] (b ∷ bs) e = absurd (false≢true e)
actions-are (a ∷ as₁) [] e = absurd (false≢true e)

actions-same : (as₁ : List Action) → same_actions as₁ as₁ ≡ true
actions-same [] = refl
actions-same (a ∷ as₁) = and_from (same_action a a) (same_actions as₁ as₁) (action-same a) (actions-same as₁)

-- so the test by which lists are compared is this one
pub one-test : (r : Bool) (as₁ bs : List Action) → (IsTrue r ↔ (as₁ ≡ bs)) → r ≡ same_actions as₁ bs
one-test true as₁ bs f = sym (subst (λ (x : List Action). same_actions as₁ x ≡ true) (f.0 refl) (actions-same as₁))
one-test false as₁ bs f =
    elim (same_actions as₁ bs) as (λ b. same_actions as₁ bs ≡ b → false ≡ b) [
      | true ↦ λ y. absurd (false≢true (f.1 (actions-are as₁ bs y)))
      | false ↦ λ y. refl
    ] refl
