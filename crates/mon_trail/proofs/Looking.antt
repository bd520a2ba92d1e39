-- A clause is looked at literal by literal.
use Rattle.std.proofs.Common.{◌≡◌, ℕ, ◌+◌, ◌<◌, Bool, true, false, not, cond, refl, sym, ap, ◌∙◌, subst, List, [], ◌∷◌, ◌++◌, length, get_or, set, take, arith, zero, suc, Option, Some, None}
use Rattle.std.specs.Prelude.{◌==◌}
use Rattle.std.specs.List.{list_any}
use Rattle.std.proofs.lemmas.List.{take_more}
use Rattle.std.proofs.lemmas.Bool.{or_left, or_right}
use Rattle.mon_cnf.specs.declared.clause.Lit.{Lit}
use Rattle.mon_trail.specs.declared.look.Mark.{Mark}
use Rattle.mon_trail.specs.declared.look.Mark.TheVariants.{Free, Is}
use Rattle.mon_trail.specs.Marks.{mark_at, makes_on, is_on, is_off, makes_off, any_on}
use Rattle.mon_trail.proofs.Looks.{all_push, any_left, off_stays, here_off, forced_first, not_on_off}
use Rattle.mon_trail.specs.Looks.{FirstOpen}

grow : (marks : List Mark) (c : List Lit) (i : ℕ) (d : Lit) (o : Option Lit) → i < length c → FirstOpen marks (take i c ++ (get_or c i d ∷ [])) o → FirstOpen marks (take (i + 1) c) o
grow marks c i d o w h = subst (λ xs. FirstOpen marks xs o) (sym (take_more c i d w)) h

-- a false literal
off_more : (marks : List Mark) (c : List Lit) (l : Lit) (o : Option Lit) → is_off marks l ≡ true → FirstOpen marks c o → FirstOpen marks (c ++ (l ∷ [])) o
off_more marks c l None f h = all_push (is_off marks) c l h f
off_more marks c l (Some k) f h =
    (h.0, (all_push (is_off (set marks k.var (Is (not k.positive)))) c l h.1.0 (off_stays marks k.var _ l h.0.1 f), any_left (λ j. j.var == k.var) c l h.1.1))

sign_off : (b p : Bool) → (b ≡ p → ⊥) → cond b p (not p) ≡ false
sign_off true true n = absurd (n refl)
sign_off true false n = refl
sign_off false true n = refl
sign_off false false n = absurd (n refl)

is_off_by : (marks : List Mark) (l : Lit) (b : Bool) → mark_at marks l.var ≡ Is b → (b ≡ l.positive → ⊥) → is_off marks l ≡ true
is_off_by marks l b m n = ap (λ k. makes_off k l.positive) m ∙ not_on_off b l.positive (sign_off b l.positive n)

pub look_off : (marks : List Mark) (c : List Lit) (i : ℕ) (d : Lit) (o : Option Lit) (b : Bool) → i < length c → mark_at marks (get_or c i d).var ≡ Is b → (b ≡ (get_or c i d).positive → ⊥)
    → FirstOpen marks (take i c) o → FirstOpen marks (take (i + 1) c) o
look_off marks c i d o b w m n h = grow marks c i d o w (off_more marks (take i c) (get_or c i d) o (is_off_by marks (get_or c i d) b m n) h)

pub look_first : (marks : List Mark) (c : List Lit) (i : ℕ) (d : Lit) → i < length c → (get_or c i d).var < length marks → mark_at marks (get_or c i d).var ≡ Free
    → FirstOpen marks (take i c) None → FirstOpen marks (take (i + 1) c) (Some (get_or c i d))
look_first marks c i d w v m h = grow marks c i d (Some (get_or c i d)) w ((v, m), forced_first marks (take i c) (get_or c i d) (v, m) h)

again : (marks : List Mark) (c : List Lit) (k l : Lit) → k ≡ l → FirstOpen marks c (Some k) → FirstOpen marks (c ++ (l ∷ [])) (Some k)
again marks c k l e h = (
  h.0,
  (
    all_push (is_off (set marks k.var (Is (not k.positive)))) c l h.1.0 (subst (λ j. is_off (set marks k.var (Is (not k.positive))) j ≡ true) e (here_off marks k h.0.0)),
    any_left (λ j. j.var == k.var) c l h.1.1,
  ),
)

pub look_again : (marks : List Mark) (c : List Lit) (i : ℕ) (d k : Lit) → i < length c → k ≡ get_or c i d → FirstOpen marks (take i c) (Some k) → FirstOpen marks (take (i + 1) c) (Some k)
look_again marks c i d k w e h = grow marks c i d (Some k) w (again marks (take i c) k (get_or c i d) e h)

any_at : (p : Lit → Bool) (c : List Lit) (i : ℕ) (d : Lit) → i < length c → p (get_or c i d) ≡ true → list_any p c ≡ true
any_at p [] i d w e = absurd (omega arith)
any_at p (l ∷ ls) zero d w e = or_left _ _ e
any_at p (l ∷ ls) (suc i) d w e = or_right _ _ (any_at p ls i d (omega arith) e)

on_by : (b p : Bool) → b ≡ p → makes_on (Is b) p ≡ true
on_by true true e = refl
on_by true false e = cc
on_by false true e = cc
on_by false false e = refl

-- a true literal
pub look_on : (marks : List Mark) (c : List Lit) (i : ℕ) (d : Lit) (b : Bool) → i < length c → mark_at marks (get_or c i d).var ≡ Is b → b ≡ (get_or c i d).positive → any_on marks c ≡ true
look_on marks c i d b w m e = any_at (is_on marks) c i d w (ap (λ k. makes_on k (get_or c i d).positive) m ∙ on_by b (get_or c i d).positive e)
