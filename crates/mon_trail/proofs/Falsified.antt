-- A clause that is false under the marks can be taken as false, and then only what the marks say is known.
use Rattle.std.proofs.Common.{◌≡◌, ℕ, ◌<◌, ◌≤◌, Bool, true, false, not, refl, sym, ap, ◌∙◌, List, [], ◌∷◌, length, set, Some, None, ⊎_elim, inl, inr}
use Rattle.std.proofs.lemmas.List.{get_or-set_same, get_or_past}
use Rattle.std.proofs.lemmas.Bool.{false≢true, and_parts, and_from, lt-ltb, not_from_false, cond-true, false_from_ne_true, cases_lt}
use Rattle.mon_list.specs.Has.{Has}
use Rattle.mon_cnf.specs.declared.clause.Lit.{Lit}
use Rattle.mon_refute.specs.Follow.{opposite, is_true, is_false, falsify}
use Rattle.mon_refute.proofs.Readings.{lit_is, true_has, has_true, not_not}
use Rattle.mon_trail.specs.declared.look.Mark.{Mark}
use Rattle.mon_trail.specs.declared.look.Mark.TheVariants.{Free, Is}
use Rattle.mon_trail.specs.Marks.{mark_at, is_on, is_off, makes_on, makes_off, all_off}

off_on : (m : Mark) (p : Bool) → makes_on m (not p) ≡ makes_off m p
off_on Free p = refl
off_on (Is true) p = refl
off_on (Is false) p = not_not p

on_not_off : (m : Mark) (p : Bool) → makes_on m p ≡ true → makes_off m p ≡ true → ⊥
on_not_off Free p e f = false≢true e
on_not_off (Is true) true e f = false≢true f
on_not_off (Is true) false e f = false≢true e
on_not_off (Is false) true e f = false≢true e
on_not_off (Is false) false e f = false≢true f

-- each known literal is true under the marks
pub record KnownOn (marks : List Mark) (known : List Lit) : Type 0 where
  pub each : (k : Lit) → Has known k → is_on marks k ≡ true

pub record Falsified (n : ℕ) (marks : List Mark) (known r : List Lit) : Type 0 where
  pub more : List Lit
  pub is : falsify n known r ≡ Some more
  pub on : KnownOn marks more
  pub kept : (k : Lit) → Has known k → Has more k
  pub off : (k : Lit) → Has r k → is_false more k ≡ true

pub off_within : (marks : List Mark) (l : Lit) → is_off marks l ≡ true → l.var < length marks
off_within marks l e = ⊎_elim (λ (w : l.var < length marks). w) (λ (p : length marks ≤ l.var). absurd (false≢true (ap (λ m. makes_off m l.positive) (sym (get_or_past marks l.var Free p)) ∙ e))) (cases_lt l.var (length marks))

pub falsified : (marks : List Mark) (known r : List Lit) → KnownOn marks known → all_off marks r ≡ true → Falsified (length marks) marks known r
falsified marks known [] a o = record { more = known; is = refl; on = a; kept = λ k h. h; off = λ k h. absurd h }
falsified marks known (l ∷ ls) a o =
    let p = and_parts (is_off marks l) _ o in
    let n : is_true known l ≡ false = false_from_ne_true _ (λ t. on_not_off (mark_at marks l.var) l.positive (a.each l (true_has known l t)) p.0) in
    let b : KnownOn marks (opposite l ∷ known) = record { each = λ k h. ⊎_elim (λ (e : k ≡ opposite l). ap (is_on marks) e ∙ off_on (mark_at marks l.var) l.positive ∙ p.0) (λ (i : Has known k). a.each k i) h } in
    let f = falsified marks (opposite l ∷ known) ls b p.1 in
    record {
      more = f.more;
      is = cond-true _ _ None (and_from _ _ (lt-ltb l.var (length marks) (off_within marks l p.0)) (not_from_false _ n)) ∙ f.is;
      on = f.on;
      kept = λ k h. f.kept k (inr h);
      off = λ k h. ⊎_elim (λ (e : k ≡ l). ap (is_false f.more) e ∙ has_true f.more (opposite l) (f.kept (opposite l) (inl refl))) (λ (i : Has ls k). f.off k i) h;
    }

decided : (b p : Bool) → makes_off (Is (not b)) p ≡ true → p ≡ b
decided true true e = refl
decided true false e = absurd (false≢true e)
decided false true e = absurd (false≢true e)
decided false false e = refl

-- the literal that a mark makes false
pub off_here : (marks : List Mark) (l k : Lit) → l.var < length marks → is_off (set marks l.var (Is (not l.positive))) k ≡ true → k.var ≡ l.var → k ≡ l
off_here marks l k w o e =
    let m : mark_at (set marks l.var (Is (not l.positive))) k.var ≡ Is (not l.positive) = ap (λ x. mark_at (set marks l.var (Is (not l.positive))) x) e ∙ get_or-set_same marks l.var (Is (not l.positive)) Free w in
    lit_is k l e (decided l.positive k.positive (ap (λ m. makes_off m k.positive) (sym m) ∙ o))
