-- A clause is looked at literal by literal.
use Rattle.std.proofs.Common.{◌≡◌, ℕ, ◌+◌, ◌<◌, Bool, true, false, not, cond, refl, sym, ap, ◌∙◌, List, [], ◌∷◌, ◌++◌, length, get_or, set, take, drop, ⊎_elim, arith, zero, suc}
use Rattle.std.specs.Prelude.{◌==◌}
use Rattle.std.specs.List.{list_all, list_any}
use Rattle.std.proofs.lemmas.List.{get_or-set_other, get_or-set_same, take_more, take-append-drop}
use Rattle.std.proofs.lemmas.List.Folds.{list_all-append, list_any-append}
use Rattle.std.proofs.lemmas.Bool.{false≢true, and_parts, and_from, eq-eqb, or_left, or_right, cases_eq}
use Rattle.mon_cnf.specs.declared.clause.Lit.{Lit}
use Rattle.mon_cnf.specs.Truth.{Within}
use Rattle.mon_trail.specs.declared.look.Mark.{Mark}
use Rattle.mon_trail.specs.declared.look.Mark.TheVariants.{Free, Is}
use Rattle.mon_trail.specs.Picks.{AllOn}
use Rattle.mon_trail.specs.Marks.{mark_at, makes_off, is_off, all_off, any_on, IsOpen, Forces}

pub all_push : (p : Lit → Bool) (c : List Lit) (l : Lit) → list_all p c ≡ true → p l ≡ true → list_all p (c ++ (l ∷ [])) ≡ true
all_push p c l a b = list_all-append p c (l ∷ []) ∙ and_from _ _ a (and_from _ _ b refl)

pub any_left : (p : Lit → Bool) (c : List Lit) (l : Lit) → list_any p c ≡ true → list_any p (c ++ (l ∷ [])) ≡ true
any_left p c l a = list_any-append p c (l ∷ []) ∙ or_left _ _ a

any_last : (p : Lit → Bool) (c : List Lit) (l : Lit) → p l ≡ true → list_any p (c ++ (l ∷ [])) ≡ true
any_last p c l a = list_any-append p c (l ∷ []) ∙ or_right _ _ (or_left _ _ a)

-- what is false stays false when a free variable is decided
free_not_off : (m : Mark) (p : Bool) → m ≡ Free → makes_off m p ≡ true → ⊥
free_not_off m p e o = false≢true (ap (λ n. makes_off n p) (sym e) ∙ o)

pub off_stays : (marks : List Mark) (x : ℕ) (m : Mark) (k : Lit) → mark_at marks x ≡ Free → is_off marks k ≡ true → is_off (set marks x m) k ≡ true
off_stays marks x m k f o =
    ⊎_elim
    (λ (e : k.var ≡ x). absurd (free_not_off (mark_at marks k.var) k.positive (ap (mark_at marks) e ∙ f) o))
    (λ (n : k.var ≡ x → ⊥). ap (λ y. makes_off y k.positive) (get_or-set_other marks x k.var m Free n) ∙ o)
    (cases_eq k.var x)

all_stay : (marks : List Mark) (x : ℕ) (m : Mark) (c : List Lit) → mark_at marks x ≡ Free → all_off marks c ≡ true → all_off (set marks x m) c ≡ true
all_stay marks x m [] f a = refl
all_stay marks x m (k ∷ ks) f a = let p = and_parts (is_off marks k) _ a in and_from _ _ (off_stays marks x m k f p.0) (all_stay marks x m ks f p.1)

off_by : (p : Bool) → makes_off (Is (not p)) p ≡ true
off_by true = refl
off_by false = refl

pub here_off : (marks : List Mark) (l : Lit) → l.var < length marks → is_off (set marks l.var (Is (not l.positive))) l ≡ true
here_off marks l w = ap (λ m. makes_off m l.positive) (get_or-set_same marks l.var (Is (not l.positive)) Free w) ∙ off_by l.positive

pub forced_first : (marks : List Mark) (c : List Lit) (l : Lit) → IsOpen marks l → all_off marks c ≡ true → Forces marks (c ++ (l ∷ [])) l
forced_first marks c l o a =
    (all_push (is_off (set marks l.var (Is (not l.positive)))) c l (all_stay marks l.var _ c o.1 a) (here_off marks l o.0), any_last (λ k. k.var == l.var) c l (eq-eqb l.var l.var refl))

pub not_on_off : (b p : Bool) → cond b p (not p) ≡ false → makes_off (Is b) p ≡ true
not_on_off true true e = absurd (false≢true (sym e))
not_on_off true false e = refl
not_on_off false true e = refl
not_on_off false false e = absurd (false≢true (sym e))

pub within_at : (n : ℕ) (c : List Lit) (i : ℕ) (d : Lit) → Within n c → i < length c → (get_or c i d).var < n
within_at n [] i d w h = absurd (omega arith)
within_at n (l ∷ ls) zero d w h = w.0
within_at n (l ∷ ls) (suc i) d w h = within_at n ls i d w.1 (omega arith)

any_taken : (p : Lit → Bool) (c : List Lit) (i : ℕ) → list_any p (take i c) ≡ true → list_any p c ≡ true
any_taken p c i e = ap (list_any p) (sym (take-append-drop i c)) ∙ list_any-append p (take i c) (drop i c) ∙ or_left _ _ e

-- one more clause is true
pub all_on_more : (marks : List Mark) (cs : List (List Lit)) (i : ℕ) → i < length cs → AllOn marks (take i cs) → any_on marks (get_or cs i []) ≡ true → AllOn marks (take (i + 1) cs)
all_on_more marks cs i w a e = ap (list_all (any_on marks)) (take_more cs i [] w) ∙ list_all-append (any_on marks) (take i cs) (get_or cs i [] ∷ []) ∙ and_from _ _ a (and_from _ _ e refl)
