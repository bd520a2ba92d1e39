-- Which literals a clause has.
use Rattle.std.proofs.Common.{◌≡◌, ◌≢◌, ℕ, ◌+◌, ◌<◌, refl, sym, ap, ◌∙◌, subst, List, [], ◌∷◌, ◌++◌, length, get_or, take, Some, Bool, true, false, ◌⊎◌, ⊎_elim, inl, inr, arith, zero, suc}
use Rattle.std.proofs.lemmas.List.{take_more}
use Rattle.std.proofs.lemmas.Bool.{false≢true}
use Rattle.mon_list.specs.Has.{Has}
use mathlib.Core.Bool.{beq}
use Rattle.mon_cnf.specs.declared.clause.Lit.{Lit}
use Rattle.mon_refute.proofs.Readings.{lit_is}
use Rattle.mon_plain.specs.Search.{Joined, Resolved}
use Rattle.mon_refute.specs.Follow.{named}

pub has_left : (xs ys : List Lit) (k : Lit) → Has xs k → Has (xs ++ ys) k
has_left [] ys k h = absurd h
has_left (x ∷ xs) ys k h = ⊎_elim (λ e. inl e) (λ i. inr (has_left xs ys k i)) h

pub has_last : (xs : List Lit) (y : Lit) → Has (xs ++ (y ∷ [])) y
has_last [] y = inl refl
has_last (x ∷ xs) y = inr (has_last xs y)

pub has_push : (xs : List Lit) (y k : Lit) → Has (xs ++ (y ∷ [])) k → Has xs k ⊎ (k ≡ y)
has_push [] y k h = ⊎_elim (λ e. inr e) (λ i. absurd i) h
has_push (x ∷ xs) y k h = ⊎_elim (λ e. inl (inl e)) (λ i. ⊎_elim (λ j. inl (inr j)) (λ e. inr e) (has_push xs y k i)) h

pub has_at : (xs : List Lit) (i : ℕ) (d k : Lit) → i < length xs → k ≡ get_or xs i d → Has xs k
has_at [] i d k w e = absurd (omega arith)
has_at (x ∷ xs) zero d k w e = inl e
has_at (x ∷ xs) (suc i) d k w e = inr (has_at xs i d k (omega arith) e)

has_more : (c : List Lit) (i : ℕ) (d k : Lit) → i < length c → Has (take (i + 1) c) k → Has (take i c) k ⊎ (k ≡ get_or c i d)
has_more c i d k w h = has_push (take i c) (get_or c i d) k (subst (λ xs. Has xs k) (take_more c i d w) h)

more_has : (c : List Lit) (i : ℕ) (d k : Lit) → i < length c → Has (take i c) k → Has (take (i + 1) c) k
more_has c i d k w h = subst (λ xs. Has xs k) (sym (take_more c i d w)) (has_left (take i c) (get_or c i d ∷ []) k h)

last_has : (c : List Lit) (i : ℕ) (d : Lit) → i < length c → Has (take (i + 1) c) (get_or c i d)
last_has c i d w = subst (λ xs. Has xs (get_or c i d)) (sym (take_more c i d w)) (has_last (take i c) (get_or c i d))

pub joined_push : (old c new : List Lit) (x i : ℕ) (d : Lit) → i < length c → (get_or c i d).var ≢ x → Joined old (take i c) x new → Joined old (take (i + 1) c) x (new ++ (get_or c i d ∷ []))
joined_push old c new x i d w n j = record {
  kept = λ k h. has_left new _ k (j.kept k h);
  added = λ k h m. ⊎_elim (λ a. has_left new _ k (j.added k a m)) (λ (e : k ≡ get_or c i d). subst (Has (new ++ (get_or c i d ∷ []))) (sym e) (has_last new (get_or c i d))) (has_more c i d k w h);
  only = λ k h. ⊎_elim
      (λ a. ⊎_elim (λ o. inl o) (λ (o : Has (take i c) k × (k.var ≢ x)). inr (more_has c i d k w o.0, o.1)) (j.only k a))
      (λ (e : k ≡ get_or c i d). inr (subst (Has (take (i + 1) c)) (sym e) (last_has c i d w), λ v. n (ap (λ (l : Lit). l.var) (sym e) ∙ v)))
      (has_push new (get_or c i d) k h);
}

pub joined_skip : (old c new : List Lit) (x i : ℕ) (d : Lit) → i < length c → ((get_or c i d).var ≢ x → Has new (get_or c i d)) → Joined old (take i c) x new → Joined old (take (i + 1) c) x new
joined_skip old c new x i d w n j = record {
  kept = j.kept;
  added = λ k h m. ⊎_elim (λ a. j.added k a m) (λ (e : k ≡ get_or c i d). subst (Has new) (sym e) (n (λ v. m (ap (λ (l : Lit). l.var) e ∙ v)))) (has_more c i d k w h);
  only = λ k h. ⊎_elim (λ o. inl o) (λ (o : Has (take i c) k × (k.var ≢ x)). inr (more_has c i d k w o.0, o.1)) (j.only k h);
}

pub has_at_parts : (xs : List Lit) (i : ℕ) (d k : Lit) → i < length xs → (get_or xs i d).var ≡ k.var → (get_or xs i d).positive ≡ k.positive → Has xs k
has_at_parts xs i d k w e f = has_at xs i d k w (sym (lit_is (get_or xs i d) k e f))

pub beq_true : (a b : Bool) → beq a b ≡ true → a ≡ b
beq_true true true e = refl
beq_true true false e = absurd (false≢true e)
beq_true false true e = absurd (false≢true e)
beq_true false false e = refl

pub joined_had : (old c new items : List Lit) (x i : ℕ) (d : Lit) (r : Bool) → i < length c → items ≡ new → (r ≡ true → Has items (get_or c i d)) → r ≡ true → Joined old (take i c) x new → Joined old (take (i + 1) c) x new
joined_had old c new items x i d r w e f t j = joined_skip old c new x i d w (λ _. subst (λ n. Has n (get_or c i d)) e (f t)) j

pub resolved_from : (cs : List (List Lit)) (first second x : ℕ) (start mid new one two : List Lit) → start ≡ []
    → named cs first ≡ Some one → named cs second ≡ Some two → Joined start one x mid → Joined mid two x new → Resolved cs first second x new
resolved_from cs first second x start mid new one two e f g i j = record {
  one = one;
  two = two;
  one_there = f;
  two_there = g;
  has_one = λ k h n. j.kept k (i.added k h n);
  has_two = j.added;
  only = λ k h. ⊎_elim
      (λ m. ⊎_elim (λ s. absurd (subst (λ c. Has c k) e s)) (λ (o : Has one k × (k.var ≢ x)). (o.1, inl o.0)) (i.only k m))
      (λ (o : Has two k × (k.var ≢ x)). (o.1, inr o.0))
      (j.only k h);
}
